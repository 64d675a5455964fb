use Rattle.std.proofs.Common.{◌≡◌, ◌+◌, ◌<◌, ◌≤◌, ◌^◌, length, get_or, pos, ℕ}
use Rattle.std.specs.Prelude.{unsigned_abs}
use Rattle.snap_laws.specs.Around.{around}
use Rattle.snap_rule.proofs.values_around.around_any.Given as goal

abbrev pub invariant-loop-n : goal.invariant-loop-n
invariant-loop-n l =
    (length l.values ≡ 14) × ((k : ℕ) → k < l.n → get_or l.values k (pos 0) ≡ around l.field l.v (1 + k)) × ((k : ℕ) → k < l.n → unsigned_abs (get_or l.values k (pos 0)) ≤ 2 ^ 40)
