use Rattle.std.proofs.Common.{◌∙◌, length, arith, sym}
use Rattle.std.proofs.lemmas.List.Sums.{position_or_len_is}
use Rattle.formats.specs.Counts.{is_blank}
use Rattle.text_words.proofs.place_of_blank.Goals as goal

pub returns-then-blank-clause-value : goal.returns-then-blank-clause-value
returns-then-blank-clause-value c = sym (position_or_len_is is_blank c.args.text.now c.loop-i.i 0 (omega arith) c.loop-i.invariant (λ lt. sym c.blank.ensures ∙ c.if-blank.true))

pub returns-clause-value : goal.returns-clause-value
returns-clause-value c = sym (position_or_len_is is_blank c.args.text.now (length c.args.text.now) 0 (omega arith) (λ k lt. c.loop-i.invariant k (omega arith)) (λ lt. absurd (omega arith)))
