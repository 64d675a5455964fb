-- The nodes of the vertices of some ids, numbered and placed.
use Rattle.std.specs.Prelude.{◌≡◌, ℕ, ◌+◌, ◌-◌, ◌^◌, ◌<◌, ◌≤◌, List, flat_map, length, map}
use Rattle.definitions.specs.declared.Dims.{Dims}
use Rattle.definitions.specs.declared.Place.{Place}
use Rattle.definitions.specs.declared.State.{State}
use Rattle.definitions.specs.Lattice.{vertex_at}
use Rattle.definitions.specs.Mesh.{ArePadded, node_place, tet_pieces}
use Rattle.definitions.specs.Tetrahedra.{tets_from}
use Rattle.definitions.specs.Values.{Field}
use Rattle.definitions.specs.Vectors.{place_at}
use Rattle.mesh_lists.specs.Parts.{keys_of_ids}
use Rattle.vertex_numbers.specs.Numbering.{NumbersIds, nodes_before}
use Rattle.slab_texts.specs.declared.nodes.Nodes.{Nodes}

-- the pieces of the lattice tetrahedra whose lowest vertex has an id
abbrev pub pieces_at : Dims → List State → ℕ → List (List ℕ)
pieces_at d ss id = flat_map (tet_pieces d ss) (tets_from d (vertex_at d id))

-- the numbers of the nodes of the vertices of these ids, how many they are, and the number of the first
pub record HasNodes (d : Dims) (ss : List State) (n : Nodes) : Type 0 where
  pub padded : ArePadded d ss
  pub numbers : NumbersIds d ss n.start n.end n.starts
  pub count : length n.places.items ≡ length (keys_of_ids d ss n.start (n.end - n.start))
  pub first : n.first ≡ nodes_before d ss n.start
  pub few : n.first + length n.places.items < 2 ^ 31

-- and where they stand
abbrev pub HasPlaces : Field → List State → Nodes → Type 0
HasPlaces f ss n = n.places.items ≡ map (node_place f ss) (keys_of_ids f.dims ss n.start (n.end - n.start))

-- some places in a row of a list of places, from one with a number on
pub record AreInRow (all : List Place) (first : ℕ) (places : List Place) : Type 0 where
  pub place : (n : ℕ) → first ≤ n → n < first + length places → place_at all n ≡ place_at places (n - first)
