use Rattle.std.proofs.Common.{◌≡◌}
use Rattle.samples.specs.SignCounts.{signs_below, layer_count}
use Rattle.samples.proofs.count.count_signs.Given as goal

abbrev pub invariant-loop-h : goal.invariant-loop-h
invariant-loop-h l = l.signs ≡ signs_below l.h (layer_count l.field)
