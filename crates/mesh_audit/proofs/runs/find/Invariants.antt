use Rattle.std.proofs.Common.{◌≡◌, ◌-◌, ℕ, ◌<◌, ◌≤◌, length, take}
use Rattle.std.specs.List.{count_by}
use Rattle.mesh_audit.specs.Triangles.{key_at, LeastTet, is_one_of_many, is_turned_pair, is_alone}
use Rattle.mesh_audit.proofs.runs.find.Given as goal

abbrev pub invariant-loop-start : goal.invariant-loop-start
invariant-loop-start l = record {
  within : l.start ≤ length l.triangles;
  fresh : l.start < length l.triangles → (k : ℕ) → k < l.start → key_at l.triangles k < key_at l.triangles l.start;
  crowded : LeastTet (is_one_of_many l.triangles) (take l.start l.triangles) l.found.crowded;
  turned : LeastTet (is_turned_pair l.triangles) (take l.start l.triangles) l.found.turned;
  boundary : l.found.boundary ≡ count_by (is_alone l.triangles) (take l.start l.triangles);
}

abbrev pub decreases-loop-start : goal.decreases-loop-start
decreases-loop-start l = length l.triangles - l.start
