-- Which nodes occur at the vertices of some ids, and their numbers.
use Rattle.std.specs.Prelude.{◌≡◌, ℕ, ◌+◌, ◌-◌, ◌*◌, ◌/◌, ◌%◌, ◌^◌, ◌<◌, ◌≤◌, true, Bool, List, [], length, map, filter, slice_index, count_ones, vec_capacity}
use Rattle.std.specs.List.{range_with_len}
use Rattle.definitions.specs.declared.Dims.{Dims}
use Rattle.definitions.specs.declared.State.{State}
use Rattle.definitions.specs.Lattice.{vertices}
use Rattle.definitions.specs.Mesh.{all_pieces, node_keys, number_of, occurs}
use Rattle.vertex_numbers.specs.Bits.{bits, has_bit}
use Rattle.vertex_numbers.specs.declared.starts.Draft.{Draft}

-- Of the vertices of `len` ids from `first` on: the bits of the nodes at each, and how many nodes of the mesh stand before its first.
pub record Numbering : Type 0 where
  pub first : ℕ
  pub len : ℕ
  pub nodes : List ℕ
  pub before : List ℕ

-- the key is that of a node at one of these vertices
pub record HoldsKey (n : Numbering) (key : ℕ) : Type 0 where
  pub low : n.first ≤ key / 8
  pub high : key / 8 < n.first + n.len

-- whether the node with a key occurs, and its number if it does
abbrev pub used_in : Numbering → ℕ → Bool
used_in n key = has_bit (slice_index n.nodes (key / 8 - n.first)) (key % 8)

abbrev pub number_in : Numbering → ℕ → ℕ
number_in n key = slice_index n.before (key / 8 - n.first) + count_ones (slice_index n.nodes (key / 8 - n.first) % 2 ^ (key % 8))

-- as many of each, so few that no number is too great
pub record AreStarts (nodes before : List ℕ) : Type 0 where
  pub whole : length before ≡ length nodes
  pub few : (n : ℕ) → n < length before → slice_index before n + 8 < 2 ^ 32

-- which nodes a numbering says that occur, and that their numbers are those of the mesh
abbrev pub TellsUsed : Dims → List State → Numbering → Type 0
TellsUsed d ss n = (key : ℕ) → HoldsKey n key → used_in n key ≡ occurs (all_pieces d ss) key

abbrev pub TellsNumbers : Dims → List State → Numbering → Type 0
TellsNumbers d ss n = (key : ℕ) → HoldsKey n key → occurs (all_pieces d ss) key ≡ true → number_in n key ≡ number_of (node_keys d ss) key

-- a numbering of the nodes of the vertices of the ids from a on and before b, and one of all nodes
pub record NumbersIds (d : Dims) (ss : List State) (a b : ℕ) (n : Numbering) : Type 0 where
  pub first : n.first ≡ a
  pub end : n.first + n.len ≡ b
  pub used : TellsUsed d ss n
  pub number : TellsNumbers d ss n

abbrev pub NumbersMesh : Dims → List State → Numbering → Type 0
NumbersMesh d ss n = NumbersIds d ss 0 (length (vertices d)) n

-- those of the mesh: the bits of a vertex's nodes, and how many stand before its first
unfoldable pub mesh_bits : Dims → List State → ℕ → ℕ
mesh_bits d ss id = bits (map (occurs (all_pieces d ss)) (range_with_len (8 * id) 8))

unfoldable pub nodes_before : Dims → List State → ℕ → ℕ
nodes_before d ss id = length (filter (occurs (all_pieces d ss)) (range_with_len 0 (8 * id)))

-- starts of the ids from its first on, as far as they are worked out
pub record IsDraft (d : Dims) (ss : List State) (id : ℕ) (draft : Draft) : Type 0 where
  pub begun : draft.first ≤ id
  pub nodes : draft.nodes.items ≡ map (mesh_bits d ss) (range_with_len draft.first (id - draft.first))
  pub before : draft.before.items ≡ map (nodes_before d ss) (range_with_len draft.first (id - draft.first))
  pub count : draft.count ≡ nodes_before d ss id

-- there is room for so many more
pub record HasRoom (draft : Draft) (n : ℕ) : Type 0 where
  pub nodes : length draft.nodes.items + n ≤ vec_capacity draft.nodes
  pub before : length draft.before.items + n ≤ vec_capacity draft.before

pub record IsEmpty (first count : ℕ) (draft : Draft) : Type 0 where
  pub at_first : draft.first ≡ first
  pub no_nodes : draft.nodes.items ≡ []
  pub no_before : draft.before.items ≡ []
  pub at_count : draft.count ≡ count
