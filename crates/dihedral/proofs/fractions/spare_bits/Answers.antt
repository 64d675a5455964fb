use Rattle.dihedral.proofs.LeadingBits.{spare-bits}
use Rattle.dihedral.proofs.fractions.spare_bits.Goals as goal

pub returns-clause-left : goal.returns-clause-left
returns-clause-left c = spare-bits c.args.n c.saturating_sub.result c.ranges.n.fits c.saturating_sub.ensures
