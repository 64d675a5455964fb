use Rattle.std.proofs.Common.{◌≡◌, ◌∙◌, Some, None, if◌then◌else◌, rules}
use Rattle.formats.specs.Decimals.{is_between, decimal_units}
use Rattle.mha_read.proofs.AxisWords.{second_none, third_none, three_passed}
use Rattle.mha_read.proofs.numbers.all_between.Goals as goal

pub returns-in_err-number_between-2-clause-value : goal.returns-in_err-number_between-2-clause-value
returns-in_err-number_between-2-clause-value c =
    let second : None ≡ (if is_between c.args.low c.args.high c.args.second.now then Some (decimal_units c.args.second.now) else None) = search rules in
    c.from_residual-in_err-number_between-2.ensures
    ∙ second_none (is_between c.args.low c.args.high c.args.first.now) (is_between c.args.low c.args.high c.args.second.now) (is_between c.args.low c.args.high c.args.third.now) (decimal_units c.args.second.now) _ second

pub returns-in_err-number_between-3-clause-value : goal.returns-in_err-number_between-3-clause-value
returns-in_err-number_between-3-clause-value c =
    let third : None ≡ (if is_between c.args.low c.args.high c.args.third.now then Some (decimal_units c.args.third.now) else None) = search rules in
    c.from_residual-in_err-number_between-3.ensures
    ∙ third_none (is_between c.args.low c.args.high c.args.first.now) (is_between c.args.low c.args.high c.args.second.now) (is_between c.args.low c.args.high c.args.third.now) (decimal_units c.args.third.now) _ third

pub returns-clause-value : goal.returns-clause-value
returns-clause-value c =
    let first : Some c.in_ok-number_between.field-0 ≡ (if is_between c.args.low c.args.high c.args.first.now then Some (decimal_units c.args.first.now) else None) = search rules in
    let second : Some c.in_ok-number_between-2.field-0 ≡ (if is_between c.args.low c.args.high c.args.second.now then Some (decimal_units c.args.second.now) else None) = search rules in
    let third : Some c.in_ok-number_between-3.field-0 ≡ (if is_between c.args.low c.args.high c.args.third.now then Some (decimal_units c.args.third.now) else None) = search rules in
    let made = three_passed (is_between c.args.low c.args.high c.args.first.now) (is_between c.args.low c.args.high c.args.second.now) (is_between c.args.low c.args.high c.args.third.now) _ _ _ (decimal_units c.args.first.now) (decimal_units c.args.second.now) (decimal_units c.args.third.now) first second third in
    search (rules, made)
