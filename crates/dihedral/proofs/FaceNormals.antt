-- The normals of the faces of a tetrahedron: they turn with their corners, and are not 0.
use Rattle.std.proofs.Common.{◌≡◌, ℕ, zero, suc, ◌≤◌, refl, ap, ◌∙◌, arith, inl, inr, ◌⊎◌, [], ◌∷◌, ℤ, pos, negsuc, ◌*ℤ◌, ◌-ℤ◌, ◌<ℤ◌, ◌≤ℤ◌, unsigned_abs}
use Rattle.std.proofs.Math.IntN.{◌+ℤ◌, neg_ℤ}
use Rattle.std.proofs.lemmas.Int.{ints}
use Rattle.definitions.specs.declared.Place.{Place}
use Rattle.definitions.specs.Vectors.{minus, dot, det_of}
use Rattle.exact.specs.Coordinates.{Coordinates, less_expression, difference, dot_expression, cross_expression, det_expression, first, second, third, fourth}
use Rattle.exact.specs.Polynomials.{Expression, variable, times, negate}
use Rattle.exact.proofs.Ring.{ring}
use Rattle.exact.proofs.IntegerLaws.{zero_mul}
use Rattle.exact.proofs.IntegerOrder.{less_or_at_most, sum_nonnegative, parts_zero}
use Rattle.lattice_laws.proofs.Volumes.{all_coordinates}
use Rattle.dihedral.specs.Fractions.{normal, opposite}

-- one coordinate of the normal of three places, from their other two coordinates
abbrev pub minor_of : ℤ → ℤ → ℤ → ℤ → ℤ → ℤ → ℤ
minor_of a b c d e f = ((c -ℤ a) *ℤ (f -ℤ b)) -ℤ ((d -ℤ b) *ℤ (e -ℤ a))

abbrev pub minor_expression : ℕ → ℕ → ℕ → ℕ → ℕ → ℕ → Expression
minor_expression a b c d e f =
    less_expression (times (less_expression (variable c) (variable a)) (less_expression (variable f) (variable b))) (times (less_expression (variable d) (variable b)) (less_expression (variable e) (variable a)))

turned_minor : (a b c d e f : ℤ) → minor_of c d e f a b ≡ minor_of a b c d e f
turned_minor a b c d e f = ring (a ∷ b ∷ c ∷ d ∷ e ∷ f ∷ []) (minor_expression 2 3 4 5 0 1) (minor_expression 0 1 2 3 4 5) refl

swapped_minor : (a b c d e f : ℤ) → minor_of a b e f c d ≡ neg_ℤ (minor_of a b c d e f)
swapped_minor a b c d e f = ring (a ∷ b ∷ c ∷ d ∷ e ∷ f ∷ []) (minor_expression 0 1 4 5 2 3) (negate (minor_expression 0 1 2 3 4 5)) refl

-- the corners in turn give one normal, and in the other direction the opposite one
pub normal-turned : (p q r : Place) → normal q r p ≡ normal p q r
normal-turned p q r =
    λ i. record { x = turned_minor p.y p.z q.y q.z r.y r.z i; y = turned_minor p.z p.x q.z q.x r.z r.x i; z = turned_minor p.x p.y q.x q.y r.x r.y i }

pub normal-swapped : (p q r : Place) → normal p r q ≡ opposite (normal p q r)
normal-swapped p q r =
    λ i. record { x = swapped_minor p.y p.z q.y q.z r.y r.z i; y = swapped_minor p.z p.x q.z q.x r.z r.x i; z = swapped_minor p.x p.y q.x q.y r.x r.y i }

abbrev normal_expression : Coordinates → Coordinates → Coordinates → Coordinates
normal_expression p q r = cross_expression (difference q p) (difference r p)

abbrev volume : Place → Place → Place → Place → ℤ
volume a b c d = det_of (minus b a) (minus c a) (minus d a)

abbrev volume_expression : Expression
volume_expression = det_expression first second third fourth

-- each normal points away from the node that its face is opposite
height_first : (a b c d : Place) → dot (normal b c d) (minus a b) ≡ neg_ℤ (volume a b c d)
height_first a b c d = ring (all_coordinates a b c d) (dot_expression (normal_expression second third fourth) (difference first second)) (negate volume_expression) refl

height_second : (a b c d : Place) → dot (normal a d c) (minus b a) ≡ neg_ℤ (volume a b c d)
height_second a b c d = ring (all_coordinates a b c d) (dot_expression (normal_expression first fourth third) (difference second first)) (negate volume_expression) refl

height_third : (a b c d : Place) → dot (normal a b d) (minus c a) ≡ neg_ℤ (volume a b c d)
height_third a b c d = ring (all_coordinates a b c d) (dot_expression (normal_expression first second fourth) (difference third first)) (negate volume_expression) refl

height_fourth : (a b c d : Place) → dot (normal a c b) (minus d a) ≡ neg_ℤ (volume a b c d)
height_fourth a b c d = ring (all_coordinates a b c d) (dot_expression (normal_expression first third second) (difference fourth first)) (negate volume_expression) refl

square_nonnegative : (x : ℤ) → pos 0 ≤ℤ (x *ℤ x)
square_nonnegative (pos n) = omega (arith, ints)
square_nonnegative (negsuc n) = omega (arith, ints)

root_zero : (x : ℤ) → (x *ℤ x) ≤ℤ pos 0 → x ≡ pos 0
root_zero (pos zero) h = refl
root_zero (pos (suc n)) h = absurd (omega (arith, ints))
root_zero (negsuc n) h = absurd (omega (arith, ints))

no_product : (x y : ℤ) → (x *ℤ x) ≤ℤ pos 0 → x *ℤ y ≡ pos 0
no_product x y h = ap (λ t. t *ℤ y) (root_zero x h) ∙ zero_mul y

-- a vector with a product that is not 0 is not 0
square_positive : (n v : Place) (t : ℤ) → pos 0 <ℤ t → dot n v ≡ neg_ℤ t → 1 ≤ unsigned_abs (dot n n)
square_positive n v t h e = go (less_or_at_most (pos 0) (dot n n))
  where
    go : (pos 0 <ℤ dot n n) ⊎ (dot n n ≤ℤ pos 0) → 1 ≤ unsigned_abs (dot n n)
    go (inl l) = some (dot n n) l
      where
        some : (x : ℤ) → pos 0 <ℤ x → 1 ≤ unsigned_abs x
        some x l = omega (arith, ints)
    go (inr l) =
        let two = parts_zero ((n.x *ℤ n.x) +ℤ (n.y *ℤ n.y)) (n.z *ℤ n.z) (sum_nonnegative (n.x *ℤ n.x) (n.y *ℤ n.y) (square_nonnegative n.x) (square_nonnegative n.y)) (square_nonnegative n.z) l in
        let one = parts_zero (n.x *ℤ n.x) (n.y *ℤ n.y) (square_nonnegative n.x) (square_nonnegative n.y) two.0 in
        absurd (contradiction (n.x *ℤ v.x) (n.y *ℤ v.y) (n.z *ℤ v.z) (no_product n.x v.x one.0) (no_product n.y v.y one.1) (no_product n.z v.z two.1) e)
      where
        contradiction : (x y z : ℤ) → x ≡ pos 0 → y ≡ pos 0 → z ≡ pos 0 → (x +ℤ y) +ℤ z ≡ neg_ℤ t → ⊥
        contradiction x y z p q r e = omega (arith, ints)

pub first_is_some : (a b c d : Place) → pos 0 <ℤ volume a b c d → 1 ≤ unsigned_abs (dot (normal b c d) (normal b c d))
first_is_some a b c d h = square_positive (normal b c d) (minus a b) (volume a b c d) h (height_first a b c d)

pub second_is_some : (a b c d : Place) → pos 0 <ℤ volume a b c d → 1 ≤ unsigned_abs (dot (normal a d c) (normal a d c))
second_is_some a b c d h = square_positive (normal a d c) (minus b a) (volume a b c d) h (height_second a b c d)

pub third_is_some : (a b c d : Place) → pos 0 <ℤ volume a b c d → 1 ≤ unsigned_abs (dot (normal a b d) (normal a b d))
third_is_some a b c d h = square_positive (normal a b d) (minus c a) (volume a b c d) h (height_third a b c d)

pub fourth_is_some : (a b c d : Place) → pos 0 <ℤ volume a b c d → 1 ≤ unsigned_abs (dot (normal a c b) (normal a c b))
fourth_is_some a b c d h = square_positive (normal a c b) (minus d a) (volume a b c d) h (height_fourth a b c d)

-- the square of a vector is at least 0
pub dot_nonnegative : (n : Place) → pos 0 ≤ℤ dot n n
dot_nonnegative n = sum_nonnegative ((n.x *ℤ n.x) +ℤ (n.y *ℤ n.y)) (n.z *ℤ n.z) (sum_nonnegative (n.x *ℤ n.x) (n.y *ℤ n.y) (square_nonnegative n.x) (square_nonnegative n.y)) (square_nonnegative n.z)
