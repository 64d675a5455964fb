use Rattle.std.proofs.Common.{ℕ, ◌<◌, arith, subst, sym}
use Rattle.std.proofs.lemmas.Nat.Gcd.{IsGcd-from_mod, IsGcd-from_zero}
use Rattle.dihedral.proofs.Divisors.{greatest_divisor_from, greatest_divisor_positive}
use Rattle.dihedral.proofs.fractions.greatest_divisor.Goals as goal

pub loop-b-preserved : goal.loop-b-preserved
loop-b-preserved c = λ g h. c.loop-b.invariant g (IsGcd-from_mod c.loop-b.a c.loop-b.b g h)

pub returns-clause-value : goal.returns-clause-value
returns-clause-value c = greatest_divisor_from c.args.a c.args.b c.loop-b.a (c.loop-b.invariant c.loop-b.a (IsGcd-from_zero c.loop-b.a c.loop-b.b (omega arith)))

pub returns-clause-some : goal.returns-clause-some
returns-clause-some c = λ h. subst (λ (n : ℕ). 0 < n) (sym (returns-clause-value c)) (greatest_divisor_positive c.args.a c.args.b h)
