use Rattle.std.proofs.Common.{◌≡◌, ℕ, ◌<◌, ◌+◌, false}
use Rattle.vertex_numbers.specs.Around.{sign_towards, is_plus_there}
use Rattle.vertex_numbers.proofs.around.has_plus_towards.Given as goal

abbrev pub invariant-loop-n : goal.invariant-loop-n
invariant-loop-n g l = record {
  same : g.S.StateSource.unchanged l.fn.from l.from;
  none : (k : ℕ) → k < l.n → is_plus_there (sign_towards l.dims (g.S.StateSource.told l.fn.from) l.v l.up (k + 1)) ≡ false;
}
