use Rattle.std.proofs.Common.{◌≡◌}
use Rattle.mha_read.proofs.FirstPairs.{value_from}
use Rattle.mha_read.proofs.pairs.first_value.Given as goal

abbrev pub invariant-loop-pair : goal.invariant-loop-pair
invariant-loop-pair l = value_from l.pairs l.key l.pair-index ≡ value_from l.pairs l.key 0
