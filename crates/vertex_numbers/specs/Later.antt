-- The neighbours of a vertex upwards by their ids, where all are in the domain, and what their states are.
use Rattle.std.specs.Prelude.{◌≡◌, ℕ, ◌+◌, ◌*◌, ◌<◌, ◌≤◌, true, List, Some}
use Rattle.std.specs.Option.{option_map}
use Rattle.definitions.specs.declared.Dims.{Dims}
use Rattle.definitions.specs.declared.Sign.{Sign}
use Rattle.definitions.specs.declared.State.{State}
use Rattle.definitions.specs.declared.Vertex.{Vertex}
use Rattle.definitions.specs.Lattice.{id, neighbour}
use Rattle.definitions.specs.Mesh.{state_at}
use Rattle.definitions.specs.States.{sign_of_state}
use Rattle.vertex_numbers.specs.declared.later.Later.{Later}

-- the vertex is so far from the upper ends of the axes, and from the lower ends of x and y, that all neighbours upwards are in the domain
pub record HasAllLater (d : Dims) (v : Vertex) : Type 0 where
  pub h_high : v.h + 2 < 2 * d.nz + 3
  pub y_high : v.y + 2 < 2 * d.ny + 3
  pub x_high : v.x + 2 < 2 * d.nx + 3
  pub y_low : 1 ≤ v.y
  pub x_low : 1 ≤ v.x

-- the numbers are the ids of the neighbours in directions 1 to 7
pub record AreLater (d : Dims) (v : Vertex) (l : Later) : Type 0 where
  pub first : option_map (id d) (neighbour d v 1 true) ≡ Some l.first
  pub second : option_map (id d) (neighbour d v 2 true) ≡ Some l.second
  pub third : option_map (id d) (neighbour d v 3 true) ≡ Some l.third
  pub fourth : option_map (id d) (neighbour d v 4 true) ≡ Some l.fourth
  pub fifth : option_map (id d) (neighbour d v 5 true) ≡ Some l.fifth
  pub sixth : option_map (id d) (neighbour d v 6 true) ≡ Some l.sixth
  pub seventh : option_map (id d) (neighbour d v 7 true) ≡ Some l.seventh

-- they are below n
pub record AreBelow (n : ℕ) (l : Later) : Type 0 where
  pub first : l.first < n
  pub second : l.second < n
  pub third : l.third < n
  pub fourth : l.fourth < n
  pub fifth : l.fifth < n
  pub sixth : l.sixth < n
  pub seventh : l.seventh < n

-- the vertices of an id and of these have one sign
pub record HaveSign (ss : List State) (own : ℕ) (l : Later) (s : Sign) : Type 0 where
  pub own_sign : sign_of_state (state_at ss own) ≡ s
  pub first : sign_of_state (state_at ss l.first) ≡ s
  pub second : sign_of_state (state_at ss l.second) ≡ s
  pub third : sign_of_state (state_at ss l.third) ≡ s
  pub fourth : sign_of_state (state_at ss l.fourth) ≡ s
  pub fifth : sign_of_state (state_at ss l.fifth) ≡ s
  pub sixth : sign_of_state (state_at ss l.sixth) ≡ s
  pub seventh : sign_of_state (state_at ss l.seventh) ≡ s
