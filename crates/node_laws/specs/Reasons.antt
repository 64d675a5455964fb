-- Why a node occurs in the mesh, by the signs of its vertex or of its edge's ends.
use Rattle.std.specs.Prelude.{◌≡◌, ◌⊎◌, ◌+◌, ◌*◌, ℕ, true, false, List}
use Rattle.definitions.specs.declared.Dims.{Dims}
use Rattle.definitions.specs.declared.Vertex.{Vertex}
use Rattle.definitions.specs.declared.State.{State}
use Rattle.definitions.specs.declared.Sign.{Sign}
use Rattle.definitions.specs.Lattice.{InDomain, id, direction, before, are_neighbours}
use Rattle.definitions.specs.Cuts.{are_opposite}
use Rattle.definitions.specs.States.{sign_of_state}
use Rattle.definitions.specs.Stencils.{is_plus, is_minus}
use Rattle.node_laws.specs.Used.{told}

-- the sign of a vertex
abbrev pub sign : Dims → List State → Vertex → Sign
sign d ss v = sign_of_state (told d ss v)

-- Why a key occurs: its vertex is Plus; or it is no Minus vertex and a neighbour is Plus; or it is the cut of an edge from Plus to Minus.
pub data Reason (d : Dims) (ss : List State) (key : ℕ) : Type 0 where
  plus : (v : Vertex) → InDomain d v → key ≡ 8 * id d v → is_plus (sign d ss v) ≡ true → Reason d ss key
  beside : (v w : Vertex) → InDomain d v → InDomain d w → key ≡ 8 * id d v → is_minus (sign d ss v) ≡ false → (are_neighbours v w ≡ true) ⊎ (are_neighbours w v ≡ true) → is_plus (sign d ss w) ≡ true → Reason d ss key
  crossed : (u w : Vertex) → InDomain d u → InDomain d w → key ≡ 8 * id d u + direction u w → are_neighbours u w ≡ true → before u w ≡ true → are_opposite (sign d ss u) (sign d ss w) ≡ true → Reason d ss key
