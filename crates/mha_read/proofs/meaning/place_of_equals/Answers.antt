use Rattle.std.proofs.Common.{◌==◌, ◌∙◌, ap, length, arith, sym, eq-eqb}
use Rattle.std.proofs.lemmas.List.Sums.{position_or_len_is}
use Rattle.std.proofs.lemmas.List.{get_or_default}
use Rattle.std.proofs.lemmas.List.Folds.{list_any_none}
use Rattle.mha_read.proofs.meaning.place_of_equals.Goals as goal

pub returns-then-byte-eq61-clause-value : goal.returns-then-byte-eq61-clause-value
returns-then-byte-eq61-clause-value c = sym (position_or_len_is (λ b. b == 61) c.args.line.now c.loop-i.i 0 (omega arith) c.loop-i.invariant (λ lt. eq-eqb _ 61 c.if-byte-eq61.true))

pub returns-clause-value : goal.returns-clause-value
returns-clause-value c = sym (position_or_len_is (λ b. b == 61) c.args.line.now (length c.args.line.now) 0 (omega arith) (λ k lt. c.loop-i.invariant k (omega arith)) (λ lt. absurd (omega arith)))

pub returns-clause-found : goal.returns-clause-found
returns-clause-found c = λ any.
    let none = list_any_none (λ b. b == 61) c.args.line.now (λ k d lt. ap (λ b. b == 61) (get_or_default c.args.line.now k d 0 lt) ∙ c.loop-i.invariant k (omega arith)) in
    cc
