-- The weights of a point in a tetrahedron: they add up to its volume, and the point is the sum of the nodes by them.
use Rattle.std.proofs.Common.{◌≡◌, ℕ, ◌+◌, refl}
use Rattle.std.proofs.Math.IntN.{◌+ℤ◌, ◌*ℤ◌}
use Rattle.exact.specs.Polynomials.{Expression, variable, plus, times}
use Rattle.exact.proofs.Ring.{ring}
use Rattle.lattice_laws.specs.Vectors.{Vector}
use Rattle.triangle_laws.specs.Overlap.{volume_of}
use Rattle.triangle_laws.proofs.Volumes.{coordinates, volume_expression}

pub weights_add_up : (a b c d p : Vector) → volume_of p b c d +ℤ volume_of a p c d +ℤ volume_of a b p d +ℤ volume_of a b c p ≡ volume_of a b c d
weights_add_up a b c d p =
    ring (coordinates a b c d p) (plus (plus (plus (volume_expression 4 1 2 3) (volume_expression 0 4 2 3)) (volume_expression 0 1 4 3)) (volume_expression 0 1 2 4))
    (volume_expression 0 1 2 3) refl

-- each weight times coordinate n of its node
abbrev weighted : ℕ → Expression
weighted n =
    plus (plus (plus (times (volume_expression 4 1 2 3) (variable n)) (times (volume_expression 0 4 2 3) (variable (3 + n)))) (times (volume_expression 0 1 4 3) (variable (6 + n))))
    (times (volume_expression 0 1 2 4) (variable (9 + n)))

pub weights_give_x : (a b c d p : Vector) → volume_of p b c d *ℤ a.x +ℤ volume_of a p c d *ℤ b.x +ℤ volume_of a b p d *ℤ c.x +ℤ volume_of a b c p *ℤ d.x ≡ volume_of a b c d *ℤ p.x
weights_give_x a b c d p = ring (coordinates a b c d p) (weighted 0) (times (volume_expression 0 1 2 3) (variable 12)) refl

pub weights_give_y : (a b c d p : Vector) → volume_of p b c d *ℤ a.y +ℤ volume_of a p c d *ℤ b.y +ℤ volume_of a b p d *ℤ c.y +ℤ volume_of a b c p *ℤ d.y ≡ volume_of a b c d *ℤ p.y
weights_give_y a b c d p = ring (coordinates a b c d p) (weighted 1) (times (volume_expression 0 1 2 3) (variable 13)) refl

pub weights_give_z : (a b c d p : Vector) → volume_of p b c d *ℤ a.z +ℤ volume_of a p c d *ℤ b.z +ℤ volume_of a b p d *ℤ c.z +ℤ volume_of a b c p *ℤ d.z ≡ volume_of a b c d *ℤ p.z
weights_give_z a b c d p = ring (coordinates a b c d p) (weighted 2) (times (volume_expression 0 1 2 3) (variable 14)) refl
