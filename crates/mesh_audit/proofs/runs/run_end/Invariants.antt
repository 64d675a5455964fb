use Rattle.std.proofs.Common.{◌≡◌, ◌-◌, ℕ, ◌<◌, ◌≤◌, length}
use Rattle.mesh_audit.specs.Triangles.{key_at}
use Rattle.mesh_audit.proofs.runs.run_end.Given as goal

abbrev pub invariant-loop-end : goal.invariant-loop-end
invariant-loop-end l = record {
  some : l.start < l.end;
  within : l.end ≤ length l.triangles;
  same : (k : ℕ) → l.start ≤ k → k < l.end → key_at l.triangles k ≡ key_at l.triangles l.start;
}

abbrev pub decreases-loop-end : goal.decreases-loop-end
decreases-loop-end l = length l.triangles - l.end
