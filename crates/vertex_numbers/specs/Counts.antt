-- How many nodes and tetrahedra belong to a vertex, by what is told, and to each layer of the mesh.
use Rattle.std.specs.Prelude.{ℕ, ◌+◌, ◌*◌, List, length, map}
use Rattle.std.specs.List.{range_with_len}
use Rattle.definitions.specs.declared.Dims.{Dims}
use Rattle.definitions.specs.declared.Vertex.{Vertex}
use Rattle.definitions.specs.declared.State.{State}
use Rattle.definitions.specs.Lattice.{layers, vertex_at}
use Rattle.definitions.specs.Layout.{layer_start}
use Rattle.lattice_counts.specs.Counts.{row_len}
use Rattle.definitions.specs.Mesh.{layer_node_keys, layer_pieces}
use Rattle.vertex_numbers.specs.Around.{nodes_of, pieces_from}
use Rattle.vertex_numbers.specs.Bits.{trues}
use Rattle.vertex_numbers.specs.declared.counts.LayerCount.{LayerCount}

-- the counts of the mesh by layers
abbrev pub count_of_layer : Dims → List State → ℕ → LayerCount
count_of_layer d ss h = record { h = h; nodes = length (layer_node_keys d ss h); tets = length (layer_pieces d ss h) }

abbrev pub layer_counts : Dims → List State → List LayerCount
layer_counts d ss = map (count_of_layer d ss) (range_with_len 0 (layers d))

-- the first id of row j of layer h, and its ids
abbrev pub row_start : Dims → ℕ → ℕ → ℕ
row_start d h j = layer_start d h + j * row_len d.nx h

abbrev pub row_ids : Dims → ℕ → ℕ → List ℕ
row_ids d h j = range_with_len (row_start d h j) (row_len d.nx h)

-- those at a vertex, and at the vertex with an id
unfoldable pub vertex_nodes : Dims → (Vertex → State) → Vertex → ℕ
vertex_nodes d told v = trues (nodes_of d told v)

unfoldable pub vertex_pieces : Dims → (Vertex → State) → Vertex → ℕ
vertex_pieces d told v = pieces_from d told v

abbrev pub nodes_at_id : Dims → (Vertex → State) → ℕ → ℕ
nodes_at_id d told n = vertex_nodes d told (vertex_at d n)

abbrev pub pieces_at_id : Dims → (Vertex → State) → ℕ → ℕ
pieces_at_id d told n = vertex_pieces d told (vertex_at d n)
