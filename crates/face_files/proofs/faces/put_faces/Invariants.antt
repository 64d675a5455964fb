use Rattle.std.proofs.Common.{◌≡◌, ◌+◌, ◌*◌, ◌≤◌, length, true}
use Rattle.st_base.specs.Frames.{OnlyPort}
use Rattle.face_files.specs.FileLines.{boundary_to, face_to}
use Rattle.face_files.specs.Held.{AppendsAllButHeld}
use Rattle.face_files.proofs.faces.put_faces.Given as goal

abbrev pub invariant-loop-place : goal.invariant-loop-place
invariant-loop-place g l = record {
  text : AppendsAllButHeld (g.D.Desk.ports l.initial.desk l.port).text (g.D.Desk.ports l.desk l.port).text l.held.items (face_to l.numbering l.tets l.place);
  number : l.number ≡ l.numbering + length (boundary_to l.tets l.place);
  few : l.number ≤ l.numbering + 4 * l.place;
  faults : (g.D.Desk.ports l.desk l.port).faults ≡ (g.D.Desk.ports l.initial.desk l.port).faults;
  is_open : (g.D.Desk.ports l.desk l.port).is_open ≡ true;
  name : (g.D.Desk.ports l.desk l.port).name ≡ (g.D.Desk.ports l.initial.desk l.port).name;
  apart : OnlyPort g.D.Desk l.port l.initial.desk l.desk;
}
