-- The six tetrahedra of a star have their angles within the extremes where their shapes are covered.
use Rattle.std.proofs.Common.{◌≡◌, ℕ, ◌<◌, arith, [], ◌∷◌, Option, get_or, All, subst}
use Rattle.std.specs.Prelude.{pos, ℤ, ◌+ℤ◌, ◌-ℤ◌, ◌<ℤ◌}
use Rattle.std.proofs.lemmas.Int.{ints}
use Rattle.definitions.specs.declared.Extremes.{Extremes}
use Rattle.definitions.specs.declared.Place.{Place}
use Rattle.definitions.specs.Places.{place}
use Rattle.definitions.specs.Vectors.{det_of, minus}
use Rattle.lattice_laws.proofs.Sublists.{all_by_place}
use Rattle.dihedral.specs.Shapes.{Covers, CoversShape, shape_by}
use Rattle.dihedral.specs.Stars.{neighbour_of, star_at, star_shapes, vector_to}

vector_is : (own : Place) (dir : ℕ) → vector_to dir ≡ minus (neighbour_of own dir) own
vector_is own dir = λ i. place (back own.x (vector_to dir).x i) (back own.y (vector_to dir).y i) (back own.z (vector_to dir).z i)
  where
    back : (a b : ℤ) → b ≡ (a +ℤ b) -ℤ a
    back a b = omega (arith, ints)

module _ (o : Option Extremes) where
  pub star_covered : CoversShape o (shape_by (vector_to 1) (vector_to 6) (vector_to 4)) → CoversShape o (shape_by (vector_to 2) (vector_to 5) (vector_to 6)) → CoversShape o (shape_by (vector_to 3) (vector_to 4) (vector_to 7)) → CoversShape o (shape_by (vector_to 3) (vector_to 7) (vector_to 5))
      → CoversShape o (shape_by (vector_to 4) (vector_to 6) (vector_to 7)) → CoversShape o (shape_by (vector_to 5) (vector_to 7) (vector_to 6)) → All (CoversShape o) star_shapes
  star_covered a b c d e f = all_by_place (CoversShape o) star_shapes (a, (b, (c, (d, (e, (f, tt))))))

  module _ (own : Place) where
    one_covers : (i j k : ℕ) → pos 0 <ℤ det_of (vector_to i) (vector_to j) (vector_to k) → CoversShape o (shape_by (vector_to i) (vector_to j) (vector_to k)) → Covers o (own ∷ neighbour_of own i ∷ neighbour_of own j ∷ neighbour_of own k ∷ [])
    one_covers i j k positive s =
        s (own ∷ neighbour_of own i ∷ neighbour_of own j ∷ neighbour_of own k ∷ []) (record { second = vector_is own i; third = vector_is own j; fourth = vector_is own k })
        (subst (λ z. pos 0 <ℤ z) (λ t. det_of (vector_is own i t) (vector_is own j t) (vector_is own k t)) positive)

    pub star_covers : All (CoversShape o) star_shapes → All (Covers o) (star_at own)
    star_covers all =
        let at : (k : ℕ) → k < 6 → CoversShape o (get_or star_shapes k (shape_by own own own)) = λ k lt. all k (shape_by own own own) lt in
        all_by_place (Covers o) (star_at own) (
          one_covers 1 6 4 (omega (arith, ints)) (at 0 (omega arith)),
          (
            one_covers 2 5 6 (omega (arith, ints)) (at 1 (omega arith)),
            (
              one_covers 3 4 7 (omega (arith, ints)) (at 2 (omega arith)),
              (
                one_covers 3 7 5 (omega (arith, ints)) (at 3 (omega arith)),
                (
                  one_covers 4 6 7 (omega (arith, ints)) (at 4 (omega arith)),
                  (one_covers 5 7 6 (omega (arith, ints)) (at 5 (omega arith)), tt),
                ),
              ),
            ),
          ),
        )
