use Rattle.std.proofs.Common.{◌≡◌}
use Rattle.samples.specs.SignCounts.{signs_below, row_count}
use Rattle.samples.proofs.count.count_layer.Given as goal

abbrev pub invariant-loop-j : goal.invariant-loop-j
invariant-loop-j l = l.signs ≡ signs_below l.j (row_count l.field l.h)
