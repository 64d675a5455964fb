-- Vertices so far inside the image that all corners around them are of the image.
use Rattle.std.specs.Prelude.{◌+◌, ◌*◌, ◌≤◌}
use Rattle.definitions.specs.declared.Dims.{Dims}
use Rattle.definitions.specs.declared.Vertex.{Vertex}

-- all corners of the cubes around the vertex are of the image
pub record IsDeep (d : Dims) (v : Vertex) : Type 0 where
  pub h_low : 4 ≤ v.h
  pub h_high : v.h + 3 ≤ 2 * d.nz
  pub y_low : 4 ≤ v.y
  pub y_high : v.y + 3 ≤ 2 * d.ny
  pub x_low : 4 ≤ v.x
  pub x_high : v.x + 3 ≤ 2 * d.nx
