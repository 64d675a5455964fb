use Rattle.std.proofs.Common.{◌<◌, arith}
use Rattle.mha_read.proofs.Small.{small_fits}
use Rattle.mha_read.proofs.counts.count.Goals as goal

pub overflow_mul-value : goal.overflow_mul-value
overflow_mul-value c =
    let i : c.loop-digit.digit-index < 9 = omega arith in
    omega (arith, small_fits _ _ c.loop-digit.invariant.small i)

pub overflow_add-value : goal.overflow_add-value
overflow_add-value c =
    let i : c.loop-digit.digit-index < 9 = omega arith in
    omega (arith, c.from.ensures, small_fits _ _ c.loop-digit.invariant.small i)
