use Rattle.std.proofs.Common.{◌<◌, arith}
use Rattle.mha_read.proofs.Small.{long_fits}
use Rattle.mha_read.proofs.decimals.short_number.Goals as goal

pub overflow_mul-value : goal.overflow_mul-value
overflow_mul-value c =
    let i : c.loop-digit.digit-index < 18 = omega arith in
    omega (arith, long_fits _ _ c.loop-digit.invariant.small i)

pub overflow_add-value : goal.overflow_add-value
overflow_add-value c =
    let i : c.loop-digit.digit-index < 18 = omega arith in
    omega (arith, c.from.ensures, long_fits _ _ c.loop-digit.invariant.small i)
