use Rattle.std.proofs.Common.{◌≡◌}
use Rattle.samples.specs.SignCounts.{signs_below, one, value_in_row}
use Rattle.samples.proofs.count.count_corner_row.Given as goal

abbrev pub invariant-loop-i : goal.invariant-loop-i
invariant-loop-i l = l.signs ≡ signs_below l.i (λ i. one (value_in_row l.field l.fn.h l.j i))
