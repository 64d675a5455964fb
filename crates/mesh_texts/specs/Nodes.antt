-- The nodes of a mesh as they are printed.
use Rattle.std.specs.Prelude.{ℕ, Bool, List, map}
use Rattle.definitions.specs.declared.Place.{Place}
use Rattle.definitions.specs.declared.State.{State}
use Rattle.definitions.specs.Values.{Field}
use Rattle.definitions.specs.States.{Shares, states}
use Rattle.definitions.specs.Mesh.{node_keys, node_place}
use Rattle.definitions.specs.Soundness.{is_level_key}

-- where a node stands, and whether it is a level node: a cut or a Zero vertex
pub record Node : Type 0 where
  pub place : Place
  pub level : Bool

abbrev pub node_of_key : Field → List State → ℕ → Node
node_of_key f ss key = record { place = node_place f ss key; level = is_level_key ss key }

-- the nodes of a field and its states, in the order of their numbers
unfoldable pub nodes_of : Field → List State → List Node
nodes_of f ss = map (node_of_key f ss) (node_keys f.dims ss)

abbrev pub mesh_nodes : Field → Shares → List Node
mesh_nodes f s = nodes_of f (states f s)
