-- Nodes stand inside the padded image: no further than one voxel step from it.
use Rattle.std.specs.Prelude.{ℕ, ◌*◌, ℤ, pos, neg_ℤ, ◌≤ℤ◌, All}
use Rattle.definitions.specs.declared.Dims.{Dims}
use Rattle.definitions.specs.declared.Place.{Place}
use Rattle.definitions.specs.Values.{Field}
use Rattle.definitions.specs.States.{Shares}
use Rattle.definitions.specs.Mesh.{mesh}

-- a coordinate on an axis of n samples, in units of 1/8192 of a voxel step
pub record IsOnAxis (n : ℕ) (z : ℤ) : Type 0 where
  pub low : neg_ℤ (pos 8192) ≤ℤ z
  pub high : z ≤ℤ pos (8192 * n)

pub record StandsInside (d : Dims) (p : Place) : Type 0 where
  pub x : IsOnAxis d.nx p.x
  pub y : IsOnAxis d.ny p.y
  pub z : IsOnAxis d.nz p.z

-- The nodes of every mesh stand inside.
abbrev pub NodesStandInside : Type 0
NodesStandInside = (f : Field) (s : Shares) → All (StandsInside f.dims) (mesh f s).places
