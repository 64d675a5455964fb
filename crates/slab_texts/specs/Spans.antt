-- The nodes and the tetrahedra of some layers one after another, from one on and before another.
use Rattle.std.specs.Prelude.{ℕ, ◌+◌, ◌-◌, List, flat_map, length, map}
use Rattle.std.specs.List.{enumerate_from, range_with_len}
use Rattle.definitions.specs.declared.Dims.{Dims}
use Rattle.definitions.specs.declared.Place.{Place}
use Rattle.definitions.specs.declared.State.{State}
use Rattle.definitions.specs.declared.Extreme.{Extreme}
use Rattle.definitions.specs.Angles.{angles_of}
use Rattle.definitions.specs.Mesh.{layer_node_keys, layer_pieces, node_place}
use Rattle.definitions.specs.Values.{Field}
use Rattle.formats.specs.declared.Frame.{Frame}
use Rattle.mesh_texts.specs.Nodes.{Node, node_of_key}
use Rattle.mesh_texts.specs.Lines.{ele_lines, node_lines, renumbered}
use Rattle.mesh_lists.specs.Parts.{mesh_of, numbered}

unfoldable pub span_keys : Dims → List State → ℕ → ℕ → List ℕ
span_keys d ss from to = flat_map (layer_node_keys d ss) (range_with_len from (to - from))

unfoldable pub span_pieces : Dims → List State → ℕ → ℕ → List (List ℕ)
span_pieces d ss from to = flat_map (layer_pieces d ss) (range_with_len from (to - from))

-- how many stand in the layers below one
abbrev pub nodes_below : Dims → List State → ℕ → ℕ
nodes_below d ss h = length (span_keys d ss 0 h)

abbrev pub tets_below : Dims → List State → ℕ → ℕ
tets_below d ss h = length (span_pieces d ss 0 h)

-- the places of the nodes, the nodes, and the tetrahedra by the numbers of their nodes
abbrev pub span_places : Field → List State → ℕ → ℕ → List Place
span_places f ss from to = map (node_place f ss) (span_keys f.dims ss from to)

abbrev pub span_nodes : Field → List State → ℕ → ℕ → List Node
span_nodes f ss from to = map (node_of_key f ss) (span_keys f.dims ss from to)

abbrev pub span_tets : Dims → List State → ℕ → ℕ → List (List ℕ)
span_tets d ss from to = numbered d ss (span_pieces d ss from to)

-- their lines in the files of the whole mesh, whose numbers begin at `first`, and the angles of the tetrahedra
unfoldable pub span_node_lines : Frame → ℕ → Field → List State → ℕ → ℕ → List ℕ
span_node_lines frame first f ss from to = node_lines frame (first + nodes_below f.dims ss from) (span_nodes f ss from to)

unfoldable pub span_tet_lines : ℕ → Dims → List State → ℕ → ℕ → List ℕ
span_tet_lines first d ss from to = ele_lines (first + tets_below d ss from) (map (renumbered first) (span_tets d ss from to))

unfoldable pub span_angles : Field → List State → ℕ → ℕ → List Extreme
span_angles f ss from to = flat_map (angles_of (mesh_of f ss).places) (enumerate_from (tets_below f.dims ss from) (span_tets f.dims ss from to))
