-- A vertex and its neighbours upwards that have one sign, and the columns along a row from which it is seen.
use Rattle.std.specs.Prelude.{◌≡◌, ℕ, ◌+◌, ◌*◌, ◌<◌, ◌≤◌, true, List, [], ◌∷◌, Option, Some}
use Rattle.definitions.specs.declared.Dims.{Dims}
use Rattle.definitions.specs.declared.Vertex.{Vertex}
use Rattle.definitions.specs.declared.State.{State}
use Rattle.definitions.specs.declared.Sign.{Sign}
use Rattle.definitions.specs.Lattice.{InDomain, neighbour}
use Rattle.definitions.specs.States.{sign_of_state}
use Rattle.vertex_numbers.specs.Around.{sign_towards, signs_towards}

-- the neighbour upwards in a direction is in the domain
pub record IsUp (d : Dims) (v : Vertex) (dir : ℕ) (w : Vertex) : Type 0 where
  pub inside : InDomain d w
  pub is : neighbour d v dir true ≡ Some w

-- seven neighbours with the sign
abbrev pub all_with : Sign → List (Option Sign)
all_with s = Some s ∷ Some s ∷ Some s ∷ Some s ∷ Some s ∷ Some s ∷ Some s ∷ []

-- all neighbours upwards are in the domain, and they and the vertex have the sign
pub record AreAlike (d : Dims) (told : Vertex → State) (v : Vertex) (s : Sign) : Type 0 where
  pub own : sign_of_state (told v) ≡ s
  pub up : signs_towards d told v true ≡ all_with s

-- the neighbours upwards that are no further along x than the vertex, in directions 2, 3, 5 and 7, are in the domain
pub record HasColumn (d : Dims) (v : Vertex) : Type 0 where
  pub h_high : v.h + 2 < 2 * d.nz + 3
  pub y_high : v.y + 2 < 2 * d.ny + 3
  pub y_low : 1 ≤ v.y
  pub x_low : 1 ≤ v.x

-- those of the next vertex along x are, and it is too
pub record HasNext (d : Dims) (v : Vertex) : Type 0 where
  pub h_high : v.h + 2 < 2 * d.nz + 3
  pub y_high : v.y + 2 < 2 * d.ny + 3
  pub x_high : v.x + 2 < 2 * d.nx + 3
  pub y_low : 1 ≤ v.y

-- the neighbours of a column and the vertex have the sign
pub record IsColumn (d : Dims) (told : Vertex → State) (v : Vertex) (s : Sign) : Type 0 where
  pub own : sign_of_state (told v) ≡ s
  pub second : sign_towards d told v true 2 ≡ Some s
  pub third : sign_towards d told v true 3 ≡ Some s
  pub fifth : sign_towards d told v true 5 ≡ Some s
  pub seventh : sign_towards d told v true 7 ≡ Some s
