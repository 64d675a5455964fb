use Rattle.std.proofs.Common.{◌≡◌, ◌≤◌, ℕ, List, Bool, map, take}
use Rattle.formats.specs.declared.Port.{Port}
use Rattle.stuff.specs.Ports.{mesh_files, turn}
use Rattle.stuff.specs.Outputs.{mesh_name}
use Rattle.file_audit.specs.Status.{with_names}
use Rattle.stuff.specs.Writing.{AreOpened, IsThis, names_of, ports_of}
use Rattle.stuff.proofs.outputs.open_each.Given as goal

abbrev pub invariant-loop-k : goal.invariant-loop-k
invariant-loop-k g l = record {
  opened : (output : List ℕ) (faces : Bool) (texts : Port → List ℕ) → ports_of l.files ≡ mesh_files faces → names_of l.files ≡ map (mesh_name output) (mesh_files faces) → AreOpened g.D.Desk.ports (mesh_files faces) l.k (mesh_name output) (IsThis texts) l.initial.desk l.desk;
  tried : g.D.Desk.tried l.desk ≡ with_names (g.D.Desk.tried l.initial.desk) (take l.k (names_of l.files));
  later : (p : Port) → l.k ≤ turn p → g.D.Desk.ports l.desk p ≡ g.D.Desk.ports l.initial.desk p;
  input : g.D.Desk.input l.desk ≡ g.D.Desk.input l.initial.desk;
  held : (n : List ℕ) → g.D.Desk.held l.desk n ≡ g.D.Desk.held l.initial.desk n;
}
