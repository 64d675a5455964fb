use Rattle.std.proofs.Common.{ap, of_z, w8, rules}
use Rattle.dihedral.proofs.SignedOrder.{signs_tell, sizes_tell}
use Rattle.dihedral.proofs.fractions.compare.Goals as goal

pub returns-then-a-b-clause-less : goal.returns-then-a-b-clause-less
returns-then-a-b-clause-less c = (signs_tell c.args.a c.args.b c.cmp.result c.requires.a c.requires.b (λ e. c.if-a-b.true (ap (of_z w8) e)) c.cmp.ensures).less

pub returns-then-a-b-clause-greater : goal.returns-then-a-b-clause-greater
returns-then-a-b-clause-greater c = (signs_tell c.args.a c.args.b c.cmp.result c.requires.a c.requires.b (λ e. c.if-a-b.true (ap (of_z w8) e)) c.cmp.ensures).greater

pub returns-then-a-ge0-clause-greater : goal.returns-then-a-ge0-clause-greater
returns-then-a-ge0-clause-greater c = (sizes_tell c.args.a c.args.b c.compare_sizes.result c.requires.a c.requires.b (search rules) (search rules) c.compare_sizes.ensures).greater
