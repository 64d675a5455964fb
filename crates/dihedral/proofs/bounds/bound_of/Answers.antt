use Rattle.std.proofs.Common.{refl}
use Rattle.dihedral.proofs.QuickBounds.{bound_below}
use Rattle.dihedral.proofs.bounds.bound_of.Goals as goal

pub returns-clause-below : goal.returns-clause-below
returns-clause-below c = bound_below c.args.a.num c.args.a.den c.high-num.result c.high-den.result _ c.high-num.ensures c.high-den.ensures refl
