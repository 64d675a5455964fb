-- The volume of four points: under an exchange of nodes, where two points are one, and with a fifth point.
use Rattle.std.proofs.Common.{◌≡◌, ℕ, ◌+◌, ◌*◌, List, [], ◌∷◌, refl}
use Rattle.std.proofs.Math.IntN.{ℤ, pos, ◌+ℤ◌, ◌*ℤ◌, neg_ℤ}
use Rattle.exact.specs.Polynomials.{Expression, variable, constant, plus, times, negate}
use Rattle.exact.specs.Determinants.{det3_expression}
use Rattle.exact.proofs.Ring.{ring}
use Rattle.lattice_laws.specs.Vectors.{Vector}
use Rattle.triangle_laws.specs.Overlap.{volume_of}

abbrev less : ℕ → ℕ → Expression
less m n = plus (variable m) (negate (variable n))

-- the volume of four of the points 0 to 4, whose coordinates are the variables 0 to 14
abbrev pub volume_expression : ℕ → ℕ → ℕ → ℕ → Expression
volume_expression i j k l =
    det3_expression (less (3 * j) (3 * i)) (less (3 * j + 1) (3 * i + 1)) (less (3 * j + 2) (3 * i + 2)) (less (3 * k) (3 * i)) (less (3 * k + 1) (3 * i + 1)) (less (3 * k + 2) (3 * i + 2)) (less (3 * l) (3 * i)) (less (3 * l + 1) (3 * i + 1)) (less (3 * l + 2) (3 * i + 2))

abbrev pub coordinates : Vector → Vector → Vector → Vector → Vector → List ℤ
coordinates a b c d e = a.x ∷ a.y ∷ a.z ∷ b.x ∷ b.y ∷ b.z ∷ c.x ∷ c.y ∷ c.z ∷ d.x ∷ d.y ∷ d.z ∷ e.x ∷ e.y ∷ e.z ∷ []

-- a turn of the first three nodes, or of the last three, keeps the volume
pub turn_first : (a b c d : Vector) → volume_of b c a d ≡ volume_of a b c d
turn_first a b c d = ring (coordinates a b c d d) (volume_expression 1 2 0 3) (volume_expression 0 1 2 3) refl

pub turn_last : (a b c d : Vector) → volume_of a c d b ≡ volume_of a b c d
turn_last a b c d = ring (coordinates a b c d d) (volume_expression 0 2 3 1) (volume_expression 0 1 2 3) refl

-- two nodes in one place leave no volume
pub flat : (a c d : Vector) → volume_of a a c d ≡ pos 0
flat a c d = ring (coordinates a c d d d) (volume_expression 0 0 1 2) (constant (pos 0)) refl

-- of five points: the volume of the first three with the fourth, and that with the fifth, by those of the other four tetrahedra
pub five_points : (a b c d e : Vector) → volume_of a b c d +ℤ volume_of b c d e +ℤ neg_ℤ (volume_of a c d e) +ℤ volume_of a b d e ≡ volume_of a b c e
five_points a b c d e =
    ring (coordinates a b c d e) (plus (plus (plus (volume_expression 0 1 2 3) (volume_expression 1 2 3 4)) (negate (volume_expression 0 2 3 4))) (volume_expression 0 1 3 4))
    (volume_expression 0 1 2 4) refl

-- the same, each volume times the coordinate n of the point that its tetrahedron lacks
abbrev times_coordinates : ℕ → Expression
times_coordinates n =
    plus
    (plus (plus (times (volume_expression 0 1 2 3) (variable (12 + n))) (times (volume_expression 1 2 3 4) (variable n))) (negate (times (volume_expression 0 2 3 4) (variable (3 + n)))))
    (times (volume_expression 0 1 3 4) (variable (6 + n)))

pub five_points_x : (a b c d e : Vector) → volume_of a b c d *ℤ e.x +ℤ volume_of b c d e *ℤ a.x +ℤ neg_ℤ (volume_of a c d e *ℤ b.x) +ℤ volume_of a b d e *ℤ c.x ≡ volume_of a b c e *ℤ d.x
five_points_x a b c d e = ring (coordinates a b c d e) (times_coordinates 0) (times (volume_expression 0 1 2 4) (variable 9)) refl

pub five_points_y : (a b c d e : Vector) → volume_of a b c d *ℤ e.y +ℤ volume_of b c d e *ℤ a.y +ℤ neg_ℤ (volume_of a c d e *ℤ b.y) +ℤ volume_of a b d e *ℤ c.y ≡ volume_of a b c e *ℤ d.y
five_points_y a b c d e = ring (coordinates a b c d e) (times_coordinates 1) (times (volume_expression 0 1 2 4) (variable 10)) refl

pub five_points_z : (a b c d e : Vector) → volume_of a b c d *ℤ e.z +ℤ volume_of b c d e *ℤ a.z +ℤ neg_ℤ (volume_of a c d e *ℤ b.z) +ℤ volume_of a b d e *ℤ c.z ≡ volume_of a b c e *ℤ d.z
five_points_z a b c d e = ring (coordinates a b c d e) (times_coordinates 2) (times (volume_expression 0 1 2 4) (variable 11)) refl
