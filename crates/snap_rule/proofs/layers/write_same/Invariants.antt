use Rattle.std.proofs.Common.{◌≡◌, ℕ, ◌+◌, ◌<◌, get_or}
use Rattle.snap_rule.proofs.layers.write_same.Given as goal

abbrev pub invariant-loop-b : goal.invariant-loop-b
invariant-loop-b l = ((b : ℕ) → b < l.b → get_or l.out (l.at + b) 0 ≡ l.code) × ((k : ℕ) → k < l.at → get_or l.out k 0 ≡ get_or l.initial.out k 0)
