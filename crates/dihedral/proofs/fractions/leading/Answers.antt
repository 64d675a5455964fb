use Rattle.std.proofs.Common.{arith}
use Rattle.std.proofs.lemmas.Nat.{shr_below}
use Rattle.dihedral.proofs.fractions.leading.Goals as goal

pub overflow_cast-result-2 : goal.overflow_cast-result-2
overflow_cast-result-2 c = let below = shr_below c.args.n 62 c.args.spare c.requires.left in omega arith

pub returns-clause-small : goal.returns-clause-small
returns-clause-small c = shr_below c.args.n 62 c.args.spare c.requires.left
