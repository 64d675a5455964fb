use Rattle.std.proofs.Common.{◌≤◌, ◌+◌, ◌*◌, ◌-◌, get_or, arith}
use Rattle.std.specs.List.{list_all}
use Rattle.std.specs.Char.{is_ascii_digit}
use Rattle.mha_read.proofs.Small.{too_many}
use Rattle.mha_read.proofs.decimals.below_million.Goals as goal

pub returns-then-value-ge1000000 : goal.returns-then-value-ge1000000
returns-then-value-ge1000000 c =
    let large : 1000000 ≤ c.loop-digit.value * 10 + (get_or c.args.digits.now c.loop-digit.digit-index 0 - 48) = omega (arith, c.if-value-ge1000000.true, c.from.ensures) in
    too_many c.loop-digit.value c.loop-digit.digit-index c.args.digits.now (list_all is_ascii_digit c.args.digits.now) c.loop-digit-test.true c.loop-digit.invariant.value c.if-digit-lt48.false c.if-digit-gt57.false large
