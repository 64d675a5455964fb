use Rattle.std.proofs.Common.{refl, subst}
use Rattle.dihedral.specs.Shapes.{Covers}
use Rattle.dihedral.proofs.SameShapes.{known_or_point}
use Rattle.dihedral.proofs.remembering.Remembering.has.Goals as goal

pub returns : goal.returns
returns c = λ t tet shape positive.
    subst (λ o. Covers o tet) c.self.view_is (known_or_point c.self.inside.running c.self.inside.seen c.slot-slot.result _ _ tet c.self.invariant.0 refl refl refl (c.is.ensures t) shape positive)
