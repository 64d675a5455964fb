use Rattle.std.proofs.Common.{◌≡◌, ℕ, ◌<◌, get_or, false, eqb}
use Rattle.mesh_read.proofs.bytes.place_of.Given as goal

abbrev pub invariant-loop-i : goal.invariant-loop-i
invariant-loop-i l = (k : ℕ) → k < l.i → eqb (get_or l.text k 0) l.sought ≡ false
