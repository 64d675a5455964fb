use Rattle.std.proofs.Common.{◌≡◌, take, true}
use Rattle.std.specs.Io.KnownBytes.{Appends}
use Rattle.st_base.specs.Frames.{OnlyPort}
use Rattle.mesh_rounds.specs.Rounds.{text_of}
use Rattle.mesh_rounds.proofs.lines.put_parts.Given as goal

abbrev pub invariant-loop-n : goal.invariant-loop-n
invariant-loop-n g l = record {
  text : Appends (g.D.Desk.ports l.initial.desk l.port).text (g.D.Desk.ports l.desk l.port).text (text_of (take l.n l.parts));
  faults : (g.D.Desk.ports l.desk l.port).faults ≡ (g.D.Desk.ports l.initial.desk l.port).faults;
  is_open : (g.D.Desk.ports l.desk l.port).is_open ≡ true;
  name : (g.D.Desk.ports l.desk l.port).name ≡ (g.D.Desk.ports l.initial.desk l.port).name;
  apart : OnlyPort g.D.Desk l.port l.initial.desk l.desk;
}
