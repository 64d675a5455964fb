-- Corners and cubes by signed indices: 0 is the first sample of an axis, and -1 the padding before it.
use Rattle.std.specs.Prelude.{ℕ, ◌*ℤ◌, ◌+ℤ◌, ◌≤ℤ◌, ◌<ℤ◌, ℤ, pos, negsuc, unsigned_abs}
use Rattle.definitions.specs.declared.Dims.{Dims}
use Rattle.definitions.specs.declared.Vertex.{Vertex}
use Rattle.definitions.specs.Lattice.{vertex}

-- the corner is in the image or in the padding around it
pub record IsCorner (d : Dims) (i j k : ℤ) : Type 0 where
  pub i_low : negsuc 0 ≤ℤ i
  pub j_low : negsuc 0 ≤ℤ j
  pub k_low : negsuc 0 ≤ℤ k
  pub i_high : i ≤ℤ pos d.nx
  pub j_high : j ≤ℤ pos d.ny
  pub k_high : k ≤ℤ pos d.nz

-- the cube with this least corner lies between corners of the image and the padding
pub record IsCube (d : Dims) (i j k : ℤ) : Type 0 where
  pub i_low : negsuc 0 ≤ℤ i
  pub j_low : negsuc 0 ≤ℤ j
  pub k_low : negsuc 0 ≤ℤ k
  pub i_high : i <ℤ pos d.nx
  pub j_high : j <ℤ pos d.ny
  pub k_high : k <ℤ pos d.nz

-- half units from the padding corner, of an index and so many half units beyond it
abbrev pub half_units : ℕ → ℤ → ℕ
half_units beyond i = unsigned_abs (pos 2 *ℤ i +ℤ pos beyond)

-- where a corner stands
abbrev pub corner_vertex : ℤ → ℤ → ℤ → Vertex
corner_vertex i j k = vertex (half_units 2 k) (half_units 2 j) (half_units 2 i)

-- where the centre of a cube stands
abbrev pub centre_vertex : ℤ → ℤ → ℤ → Vertex
centre_vertex i j k = vertex (half_units 3 k) (half_units 3 j) (half_units 3 i)
