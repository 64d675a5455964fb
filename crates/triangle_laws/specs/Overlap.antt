-- Two tetrahedra that have a triangle in common, and a point in which they overlap.
use Rattle.std.specs.Prelude.{◌≡◌, ℕ, ◌+◌, ◌<◌}
use Rattle.std.proofs.Math.IntN.{ℤ, pos, ◌+ℤ◌, ◌*ℤ◌}
use Rattle.exact.specs.Determinants.{det3}
use Rattle.lattice_laws.specs.Vectors.{Vector, ◌-ᵥ◌}

-- six times the signed volume of a tetrahedron
abbrev pub volume_of : Vector → Vector → Vector → Vector → ℤ
volume_of a b c d = det3 (b -ᵥ a).x (b -ᵥ a).y (b -ᵥ a).z (c -ᵥ a).x (c -ᵥ a).y (c -ᵥ a).z (d -ᵥ a).x (d -ᵥ a).y (d -ᵥ a).z

-- weights of the tetrahedra a b c d and a b c e that give one point, with a weight above 0 at the fourth node of the second
pub record Overlap (a b c d e : Vector) : Type 0 where
  pub n : ℕ
  pub top : ℕ
  pub x : ℕ
  pub y : ℕ
  pub z : ℕ
  pub last : ℕ
  pub above : 0 < last
  pub sums : n + n + n + top ≡ x + y + z + last
  pub at_x : pos n *ℤ a.x +ℤ pos n *ℤ b.x +ℤ pos n *ℤ c.x +ℤ pos top *ℤ d.x ≡ pos x *ℤ a.x +ℤ pos y *ℤ b.x +ℤ pos z *ℤ c.x +ℤ pos last *ℤ e.x
  pub at_y : pos n *ℤ a.y +ℤ pos n *ℤ b.y +ℤ pos n *ℤ c.y +ℤ pos top *ℤ d.y ≡ pos x *ℤ a.y +ℤ pos y *ℤ b.y +ℤ pos z *ℤ c.y +ℤ pos last *ℤ e.y
  pub at_z : pos n *ℤ a.z +ℤ pos n *ℤ b.z +ℤ pos n *ℤ c.z +ℤ pos top *ℤ d.z ≡ pos x *ℤ a.z +ℤ pos y *ℤ b.z +ℤ pos z *ℤ c.z +ℤ pos last *ℤ e.z
