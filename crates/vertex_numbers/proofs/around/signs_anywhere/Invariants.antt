use Rattle.std.proofs.Common.{◌≡◌, ℕ, ◌<◌, ◌+◌, true, length, get_or, None}
use Rattle.vertex_numbers.specs.Around.{sign_towards}
use Rattle.vertex_numbers.proofs.around.signs_anywhere.Given as goal

abbrev pub invariant-loop-n : goal.invariant-loop-n
invariant-loop-n g l = record {
  same : g.S.StateSource.unchanged l.fn.from l.from;
  len : length l.up ≡ 7;
  each : (k : ℕ) → k < l.n → get_or l.up k None ≡ sign_towards l.dims (g.S.StateSource.told l.fn.from) l.v true (k + 1);
}
