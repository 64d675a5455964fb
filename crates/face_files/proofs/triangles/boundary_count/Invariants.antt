use Rattle.std.proofs.Common.{◌≡◌, ◌*◌, ◌≤◌, length}
use Rattle.face_files.specs.FileLines.{boundary_to}
use Rattle.face_files.proofs.triangles.boundary_count.Given as goal

abbrev pub invariant-loop-number : goal.invariant-loop-number
invariant-loop-number l = record {
  count : l.count ≡ length (boundary_to l.tets l.number);
  few : l.count ≤ 4 * l.number;
}
