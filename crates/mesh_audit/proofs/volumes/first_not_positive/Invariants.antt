use Rattle.std.proofs.Common.{◌≡◌, ℕ, ◌<◌, [], get_or, false, not}
use Rattle.mesh_files.specs.Verdicts.{is_positive}
use Rattle.mesh_audit.proofs.volumes.first_not_positive.Given as goal

abbrev pub invariant-loop-i : goal.invariant-loop-i
invariant-loop-i l = (k : ℕ) → k < l.i → not (is_positive l.places (get_or l.tets k [])) ≡ false
