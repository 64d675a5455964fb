use Rattle.std.proofs.Common.{refl, subst}
use Rattle.dihedral.specs.Fractions.{square_at}
use Rattle.dihedral.specs.Quick.{IsWithinBounds}
use Rattle.dihedral.specs.TetAngles.{edge_at}
use Rattle.dihedral.proofs.QuickBounds.{by_number}
use Rattle.dihedral.proofs.bounds.Bounds.hold.Goals as goal

pub returns : goal.returns
returns c = λ t tet f.
    let within = IsWithinBounds c.args.self.now in
    by_number (λ k. within (square_at tet (edge_at k)))
    (subst within (c.pair_at.ensures tet f) (c.if-not-holds.ensures refl))
    (subst within (c.pair_at-2.ensures tet f) (c.if-not-holds-2.ensures refl))
    (subst within (c.pair_at-3.ensures tet f) (c.if-not-holds-3.ensures refl))
    (subst within (c.pair_at-4.ensures tet f) (c.if-not-holds-4.ensures refl))
    (subst within (c.pair_at-5.ensures tet f) (c.if-not-holds-5.ensures refl))
    (subst within (c.pair_at-6.ensures tet f) (c.holds-6.ensures t))
