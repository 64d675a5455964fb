use Rattle.std.proofs.Common.{◌<◌, Bool, Some, None, if◌then◌else◌, sym, ap, arith}
use Rattle.std.proofs.lemmas.Bool.{lt-leb}
use Rattle.std.specs.Str.Parse.{digits_value}
use Rattle.mesh_files.proofs.Digits.{one_more_digit}
use Rattle.mesh_read.proofs.numbers.value.Goals as goal

pub returns-then-value-most-clause-value : goal.returns-then-value-most-clause-value
returns-then-value-most-clause-value c =
    let more = one_more_digit c.args.digits.now c.loop-digit.digit-index c.loop-digit.value c.loop-digit-test.true c.loop-digit.invariant.digits c.loop-digit.invariant.value in
    let above : c.args.most < digits_value 10 c.args.digits.now = omega (arith, more, c.from.ensures, c.if-value-most.true) in
    sym (ap (λ (b : Bool). if b then Some (digits_value 10 c.args.digits.now) else None) (lt-leb _ _ above))
