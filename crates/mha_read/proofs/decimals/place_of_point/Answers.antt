use Rattle.std.proofs.Common.{length, arith, sym, eq-eqb}
use Rattle.std.proofs.lemmas.List.Sums.{position_or_len_is}
use Rattle.formats.specs.Decimals.{is_point}
use Rattle.mha_read.proofs.decimals.place_of_point.Goals as goal

pub returns-then-byte-eq46-clause-value : goal.returns-then-byte-eq46-clause-value
returns-then-byte-eq46-clause-value c = sym (position_or_len_is is_point c.args.text.now c.loop-i.i 0 (omega arith) c.loop-i.invariant (λ lt. eq-eqb _ 46 c.if-byte-eq46.true))

pub returns-clause-value : goal.returns-clause-value
returns-clause-value c = sym (position_or_len_is is_point c.args.text.now (length c.args.text.now) 0 (omega arith) (λ k lt. c.loop-i.invariant k (omega arith)) (λ lt. absurd (omega arith)))
