-- What is proved of the nodes of the mesh and their numbers.
use Rattle.std.specs.Prelude.{◌≡◌, ◌⊎◌, ◌↔◌, ◌+◌, ◌*◌, ◌/◌, ◌%◌, ◌<◌, ◌≤◌, ℕ, true, false, List, length, map, filter, flat_map, count_by, slice_index, sum, Contains, Some}
use Rattle.std.specs.List.{range_with_len}
use Rattle.definitions.specs.declared.Dims.{Dims}
use Rattle.definitions.specs.declared.Vertex.{Vertex}
use Rattle.definitions.specs.declared.State.{State}
use Rattle.definitions.specs.declared.Sign.{Sign}
use Rattle.definitions.specs.declared.Sign.TheVariants.{Minus, Plus}
use Rattle.definitions.specs.Lattice.{InDomain, layer, layers, neighbour, vertices, vertex_at}
use Rattle.definitions.specs.Layout.{layer_len, layer_start}
use Rattle.definitions.specs.Cuts.{are_opposite}
use Rattle.definitions.specs.Stencils.{is_minus, is_plus}
use Rattle.definitions.specs.Tetrahedra.{lattice_tets, tets_from}
use Rattle.definitions.specs.Pieces.{pieces}
use Rattle.lattice_laws.specs.Ascending.{Has}
use Rattle.lattice_laws.specs.NumberedTetrahedra.{IsNumberedTet}
use Rattle.stencil_laws.specs.Cases.{case_pieces}
use Rattle.definitions.specs.Values.{Field}
use Rattle.definitions.specs.States.{Shares, sign_of_state, states}
use Rattle.definitions.specs.Mesh.{state_at, tet_pieces, all_pieces, occurs, ArePadded, node_keys, layer_pieces, layer_node_keys, number_of}
use Rattle.node_laws.specs.Used.{told, used_at, AgreeAround, pieces_of, pieces_from, shape_pieces}
use Rattle.node_laws.specs.Reasons.{Reason, sign}

-- ---- which nodes occur

-- No vertex of the padding is Plus, whatever the field and the shares.
abbrev pub StatesArePadded : Type 0
StatesArePadded = (f : Field) (s : Shares) → ArePadded f.dims (states f s)

-- A key occurs in the mesh exactly where it has a reason.
abbrev pub NodesHaveReasons : Type 0
NodesHaveReasons = (d : Dims) (ss : List State) → ArePadded d ss → (key : ℕ) → (occurs (all_pieces d ss) key ≡ true) ↔ Reason d ss key

-- What is read off the states of a vertex and its neighbours is true exactly of the nodes that occur.
abbrev pub UsedNodesOccur : Type 0
UsedNodesOccur =
    (d : Dims) (ss : List State) → ArePadded d ss → (key : ℕ) → key < 8 * length (vertices d)
    → used_at d (told d ss) key ≡ occurs (all_pieces d ss) key

-- Whether a node occurs is read off its layer, the two below and the two above.
abbrev pub UsedByReach : Type 0
UsedByReach =
    (d : Dims) (said others : Vertex → State) (key : ℕ) → key < 8 * length (vertices d) → AgreeAround d (vertex_at d (key / 8)).h said others
    → used_at d said key ≡ used_at d others key

-- Each Plus vertex is a node, and no Minus vertex is one.
abbrev pub PlusVerticesAreNodes : Type 0
PlusVerticesAreNodes = (d : Dims) (ss : List State) → ArePadded d ss → (n : ℕ) → n < length ss → sign_of_state (state_at ss n) ≡ Plus → Contains (node_keys d ss) (8 * n)

abbrev pub MinusVerticesAreNoNodes : Type 0
MinusVerticesAreNoNodes =
    (d : Dims) (ss : List State) → ArePadded d ss → (n : ℕ) → n < length ss → sign_of_state (state_at ss n) ≡ Minus → Contains (node_keys d ss) (8 * n) → ⊥

-- A node of a lattice tetrahedron's pieces is a node of the mesh.
abbrev pub PiecesUseNodes : Type 0
PiecesUseNodes =
    (d : Dims) (ss : List State) (tet : List Vertex) (key : ℕ) → Has tet (lattice_tets d) → occurs (tet_pieces d ss tet) key ≡ true
    → occurs (all_pieces d ss) key ≡ true

-- The keys that occur are of the vertices that there are.
abbrev pub KeysAreBelow : Type 0
KeysAreBelow = (d : Dims) (ss : List State) (key : ℕ) → ArePadded d ss → occurs (all_pieces d ss) key ≡ true → key < 8 * length (vertices d)

-- the edge from v in a direction leads to w, and of its ends one is Plus and the other Minus
pub record IsCrossed (d : Dims) (ss : List State) (v : Vertex) (dir : ℕ) (w : Vertex) : Type 0 where
  pub leads : neighbour d v dir true ≡ Some w
  pub within : InDomain d w
  pub opposite : are_opposite (sign d ss v) (sign d ss w) ≡ true

-- where a node stands: at a vertex in the domain that is not Minus, or on an edge from a vertex in the domain that is crossed
pub record StandsInDomain (d : Dims) (ss : List State) (key : ℕ) : Type 0 where
  pub vertex : InDomain d (vertex_at d (key / 8))
  pub edge : (key % 8 ≡ 0) ⊎ ((w : Vertex) × IsCrossed d ss (vertex_at d (key / 8)) (key % 8) w)
  pub kept : key % 8 ≡ 0 → is_minus (sign d ss (vertex_at d (key / 8))) ≡ false

-- Each node stands in the domain.
abbrev pub NodesStandInDomain : Type 0
NodesStandInDomain = (d : Dims) (ss : List State) (key : ℕ) → ArePadded d ss → occurs (all_pieces d ss) key ≡ true → StandsInDomain d ss key

-- ---- numbers of nodes

-- The number of a node is how many lower keys occur.
abbrev pub NumbersAreRanks : Type 0
NumbersAreRanks =
    (d : Dims) (ss : List State) (key : ℕ) → occurs (all_pieces d ss) key ≡ true → key < 8 * length (vertices d)
    → number_of (node_keys d ss) key ≡ length (filter (occurs (all_pieces d ss)) (range_with_len 0 key))

-- A node's number is the place of its key among the nodes' keys; it leads back to the key, and different keys have different numbers.
pub record NumbersFit (d : Dims) (ss : List State) : Type 0 where
  pub below : (key : ℕ) → occurs (all_pieces d ss) key ≡ true → key < 8 * length (vertices d) → number_of (node_keys d ss) key < length (node_keys d ss)
  pub back : (key : ℕ) → occurs (all_pieces d ss) key ≡ true → key < 8 * length (vertices d) → slice_index (node_keys d ss) (number_of (node_keys d ss) key) ≡ key
  pub differ : (a b : ℕ) → occurs (all_pieces d ss) a ≡ true → occurs (all_pieces d ss) b ≡ true → a < 8 * length (vertices d) → b < 8 * length (vertices d)
      → number_of (node_keys d ss) a ≡ number_of (node_keys d ss) b → a ≡ b

abbrev pub NumbersLeadBack : Type 0
NumbersLeadBack = (d : Dims) (ss : List State) → NumbersFit d ss

-- The number of a node is the number of those of lower vertices, and of those of its own vertex with lower directions.
abbrev pub NumbersByVertex : Type 0
NumbersByVertex =
    (d : Dims) (ss : List State) (key : ℕ) → occurs (all_pieces d ss) key ≡ true → key < 8 * length (vertices d)
    → number_of (node_keys d ss) key
    ≡ length (filter (occurs (all_pieces d ss)) (range_with_len 0 (8 * (key / 8)))) + length (filter (occurs (all_pieces d ss)) (range_with_len (8 * (key / 8)) (key % 8)))

-- ---- layers

-- The nodes of a layer are those of its ids' keys that occur.
abbrev pub LayersHaveKeys : Type 0
LayersHaveKeys =
    (d : Dims) (ss : List State) (h : ℕ) → h < layers d
    → layer_node_keys d ss h ≡ filter (occurs (all_pieces d ss)) (range_with_len (8 * layer_start d h) (8 * layer_len d h))

-- They are read off the states of the layer, of the two layers below it and of the two above.
abbrev pub LayersHaveUsedKeys : Type 0
LayersHaveUsedKeys =
    (d : Dims) (ss : List State) (h : ℕ) (said : Vertex → State) → ArePadded d ss → h < layers d → AgreeAround d h said (told d ss)
    → layer_node_keys d ss h ≡ filter (used_at d said) (range_with_len (8 * layer_start d h) (8 * layer_len d h))

-- All nodes are those of each layer, one layer after another.
abbrev pub KeysJoin : Type 0
KeysJoin = (d : Dims) (ss : List State) → node_keys d ss ≡ flat_map (layer_node_keys d ss) (range_with_len 0 (layers d))

-- Below a layer there are as many nodes as the layers below it have together.
abbrev pub CountsBelow : Type 0
CountsBelow =
    (d : Dims) (ss : List State) (h : ℕ) → h ≤ layers d
    → length (filter (occurs (all_pieces d ss)) (range_with_len 0 (8 * layer_start d h))) ≡ sum (map (λ g. length (layer_node_keys d ss g)) (range_with_len 0 h))

-- All pieces are those of each layer, one layer after another.
abbrev pub PiecesJoin : Type 0
PiecesJoin = (d : Dims) (ss : List State) → all_pieces d ss ≡ flat_map (layer_pieces d ss) (range_with_len 0 (layers d))

-- The pieces of a layer are read off the states of the layer, of the two layers below it and of the two above.
abbrev pub LayersHavePieces : Type 0
LayersHavePieces =
    (d : Dims) (ss : List State) (h : ℕ) (said : Vertex → State) → h < layers d → AgreeAround d h said (told d ss)
    → layer_pieces d ss h ≡ flat_map (pieces_of d said) (flat_map (tets_from d) (layer d h))

-- the key is of a node of the mesh that stands in layer h or one of the two above it
pub record StandsAbove (d : Dims) (ss : List State) (h key : ℕ) : Type 0 where
  pub occurs_too : occurs (all_pieces d ss) key ≡ true
  pub low : h ≤ (vertex_at d (key / 8)).h
  pub high : (vertex_at d (key / 8)).h ≤ h + 2

-- The nodes of a layer's pieces stand in the layer or the two above it.
abbrev pub PiecesUseNearLayers : Type 0
PiecesUseNearLayers = (d : Dims) (ss : List State) (h key : ℕ) → h < layers d → occurs (layer_pieces d ss h) key ≡ true → StandsAbove d ss h key

-- How many pieces a lattice tetrahedron has follows from its four signs alone.
abbrev pub PieceCountsBySigns : Type 0
PieceCountsBySigns = (tet : List Vertex) (ids : List ℕ) (signs : List Sign) → IsNumberedTet tet ids → length (pieces tet ids signs) ≡ length (case_pieces signs)

-- And it follows from how many of them are Plus and how many are Minus.
abbrev pub PieceCountsByShape : Type 0
PieceCountsByShape = (signs : List Sign) → length signs ≡ 4 → length (case_pieces signs) ≡ shape_pieces (count_by is_plus signs) (count_by is_minus signs)

-- How many pieces a layer has is read off the states of the layer, of the two layers below it and of the two above.
abbrev pub LayersCountPieces : Type 0
LayersCountPieces =
    (d : Dims) (ss : List State) (h : ℕ) (said : Vertex → State) → h < layers d → AgreeAround d h said (told d ss)
    → length (layer_pieces d ss h) ≡ sum (map (pieces_from d said) (layer d h))
