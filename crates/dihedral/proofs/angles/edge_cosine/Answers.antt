use Rattle.std.proofs.Common.{ap, ◌∙◌}
use Rattle.dihedral.specs.Fractions.{in_lowest_terms}
use Rattle.dihedral.specs.TetAngles.{edge_at}
use Rattle.dihedral.proofs.SixAngles.{edge_cosine-is}
use Rattle.dihedral.proofs.angles.edge_cosine.Goals as goal

pub returns-clause-value : goal.returns-clause-value
returns-clause-value c = c.lowest.ensures.value ∙ ap in_lowest_terms (c.square_at.ensures.value c.args.tet c.new.ensures) ∙ edge_cosine-is c.args.tet (edge_at c.args.edge)
