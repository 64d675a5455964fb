use Rattle.std.proofs.Common.{◌∙◌, ap, length, arith, sym}
use Rattle.std.proofs.lemmas.List.Sums.{position_or_len_is}
use Rattle.std.proofs.lemmas.List.{get_or_default}
use Rattle.std.proofs.lemmas.List.Folds.{list_any_none}
use Rattle.formats.specs.Decimals.{is_exponent_mark}
use Rattle.mha_read.proofs.decimals.place_of_exponent.Goals as goal

pub returns-then-exponent_mark-clause-value : goal.returns-then-exponent_mark-clause-value
returns-then-exponent_mark-clause-value c = sym (position_or_len_is is_exponent_mark c.args.text.now c.loop-i.i 0 (omega arith) c.loop-i.invariant (λ lt. sym c.exponent_mark.ensures ∙ c.if-exponent_mark.true))

pub returns-clause-value : goal.returns-clause-value
returns-clause-value c = sym (position_or_len_is is_exponent_mark c.args.text.now (length c.args.text.now) 0 (omega arith) (λ k lt. c.loop-i.invariant k (omega arith)) (λ lt. absurd (omega arith)))

pub returns-clause-found : goal.returns-clause-found
returns-clause-found c = λ any.
    let none = list_any_none is_exponent_mark c.args.text.now (λ k d lt. ap is_exponent_mark (get_or_default c.args.text.now k d 0 lt) ∙ c.loop-i.invariant k (omega arith)) in
    cc
