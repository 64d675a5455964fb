use Rattle.std.proofs.Common.{All, List, ℕ, get_or, refl, sym, subst}
use Rattle.std.specs.Prelude.{pos}
use Rattle.definitions.specs.Places.{place}
use Rattle.dihedral.specs.declared.shape.Shape.{Shape}
use Rattle.dihedral.specs.Shapes.{CoversShape, shape_by}
use Rattle.dihedral.specs.Stars.{star_shapes}
use Rattle.dihedral.proofs.Stars.{star_covered}
use Rattle.dihedral.proofs.remembering.Remembering.learn_star.Goals as goal

abbrev point : Shape
point = let zero = place (pos 0) (pos 0) (pos 0) in shape_by zero zero zero

pub invariant_of-self : goal.invariant_of-self
invariant_of-self c = (
  c.self.invariant.0,
  λ t. subst (λ o. All (CoversShape o) star_shapes) (sym c.self.view_is)
      (star_covered c.args.self.now (at 0 (c.if-has.ensures refl)) (at 1 (c.if-has-2.ensures refl)) (at 2 (c.if-has-3.ensures refl)) (at 3 (c.if-has-4.ensures refl)) (at 4 (c.if-has-5.ensures refl)) (at 5 (c.if-has-6.ensures refl))),
)
  where
    at : (k : ℕ) → CoversShape c.args.self.now (get_or c.star_shapes.result k point) → CoversShape c.args.self.now (get_or star_shapes k point)
    at k h = subst (λ (ss : List Shape). CoversShape c.args.self.now (get_or ss k point)) c.star_shapes.ensures h
