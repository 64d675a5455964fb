use Rattle.std.proofs.Common.{refl, subst}
use Rattle.dihedral.specs.Shapes.{Covers}
use Rattle.dihedral.proofs.CoveredAngles.{stay_six}
use Rattle.dihedral.proofs.QuickBounds.{covered_by}
use Rattle.dihedral.proofs.bounded.Bounded.take.Goals as goal

pub returns-then-hold-clause-covers : goal.returns-then-hold-clause-covers
returns-then-hold-clause-covers c =
    subst (λ o. Covers o c.args.tet) c.self.view_is (covered_by c.self.inside.bounds c.self.inside.running c.args.tet c.requires.positive c.self.invariant (c.if-hold.ensures refl c.args.tet c.new-faces.ensures))

pub returns-then-hold-clause-angles : goal.returns-then-hold-clause-angles
returns-then-hold-clause-angles c =
    λ xs h.
    stay_six c.args.self.now c.args.tet c.args.number c.args.nodes xs
    (subst (λ o. Covers o c.args.tet) c.self.view_is (covered_by c.self.inside.bounds c.self.inside.running c.args.tet c.requires.positive c.self.invariant (c.if-hold.ensures refl c.args.tet c.new-faces.ensures))) h
