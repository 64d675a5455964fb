use Rattle.std.proofs.Common.{length, arith, sym, eqb}
use Rattle.std.proofs.lemmas.Bool.{eq-eqb}
use Rattle.std.proofs.lemmas.List.Sums.{position_or_len_is}
use Rattle.mesh_read.proofs.bytes.place_of.Goals as goal

pub returns-then-byte-sought-clause-value : goal.returns-then-byte-sought-clause-value
returns-then-byte-sought-clause-value c = sym (position_or_len_is (λ b. eqb b c.args.sought) c.args.text.now c.loop-i.i 0 (omega arith) c.loop-i.invariant (λ lt. eq-eqb _ _ c.if-byte-sought.true))

pub returns-clause-value : goal.returns-clause-value
returns-clause-value c = sym (position_or_len_is (λ b. eqb b c.args.sought) c.args.text.now (length c.args.text.now) 0 (omega arith) (λ k lt. c.loop-i.invariant k (omega arith)) (λ lt. absurd (omega arith)))
