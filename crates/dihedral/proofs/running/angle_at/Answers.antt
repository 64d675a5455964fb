use Rattle.std.proofs.Common.{ap, ◌∙◌}
use Rattle.dihedral.specs.Fractions.{in_lowest_terms}
use Rattle.dihedral.specs.TetAngles.{edge_at}
use Rattle.dihedral.proofs.SixAngles.{edge_cosine-is}
use Rattle.dihedral.proofs.running.angle_at.Goals as goal

pub returns-clause-value : goal.returns-clause-value
returns-clause-value c =
    λ tet f.
    let cosine = ap in_lowest_terms (c.square_at.ensures.value tet f) ∙ edge_cosine-is tet (edge_at c.args.edge) in
    (λ i. record { cosine = cosine i; tet = c.args.number; ends = c.ends_of.ensures i })
