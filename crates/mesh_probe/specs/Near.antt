-- How far the nodes of a lattice tetrahedron stand from its lowest vertex.
use Rattle.std.specs.Prelude.{◌≡◌, ◌≤◌, ◌%◌, ◌⊎◌, ℕ, ◌+◌, ◌*◌, ℤ, pos, ◌+ℤ◌, ◌≤ℤ◌}
use Rattle.definitions.specs.declared.Vertex.{Vertex}
use Rattle.definitions.specs.declared.Place.{Place}

-- On an axis, 4096 units to a half unit: no further below the lowest vertex than the tetrahedron reaches down, no further above it than 2 half units, and 2047 units more.
abbrev pub Reaches : ℕ → ℕ → ℤ → Type 0
Reaches down at q = (pos (4096 * at) ≤ℤ (q +ℤ pos (10239 + 4096 * down))) × (q ≤ℤ pos (4096 * at + 2047))

-- The place is near the lowest vertex. A lattice tetrahedron reaches down by one half unit along x and y, and not at all along z.
pub record IsNear (v : Vertex) (p : Place) : Type 0 where
  pub x : Reaches 1 v.x p.x
  pub y : Reaches 1 v.y p.y
  pub z : Reaches 0 v.h p.z

-- Every number at which an axis reaches the place is among three from this one on where it does not reach down, and among four else.
abbrev pub StartsAxis : ℤ → ℕ → Type 0
StartsAxis q start = (down at : ℕ) → down ≤ 1 → Reaches down at q → (start ≤ at) × (at ≤ start + 2 + down)

-- Every number as even or odd as h at which an axis reaches the place, where it reaches down by one, is one of two.
abbrev pub StartsPair : ℤ → ℕ → ℕ → Type 0
StartsPair q h start = (at : ℕ) → at % 2 ≡ h % 2 → Reaches 1 at q → (at ≡ start) ⊎ (at ≡ start + 2)
