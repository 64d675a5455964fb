-- The lines of nodes and of tetrahedra.
use Rattle.std.specs.Prelude.{ℕ, ◌+◌, Bool, List, [], ◌∷◌, map, flat_map, codes, decimal, if◌then◌else◌}
use Rattle.std.specs.List.{enumerate_from}
use Rattle.formats.specs.declared.Frame.{Frame}
use Rattle.formats.specs.Texts.{line}
use Rattle.mesh_texts.specs.Frames.{frame_text}
use Rattle.mesh_texts.specs.Nodes.{Node}

-- the marker of a node: 1 where it is a level node
abbrev pub marker_text : Bool → List ℕ
marker_text level = if level then codes "1" else codes "0"

-- the line of a node: its number, its place in a frame, and its marker
abbrev pub node_line : Frame → ℕ × Node → List ℕ
node_line frame node =
    line (decimal node.0 ∷ frame_text frame 0 node.1.place.x ∷ frame_text frame 1 node.1.place.y ∷ frame_text frame 2 node.1.place.z ∷ marker_text node.1.level ∷ [])

-- the lines of some nodes, numbered from a number on
abbrev pub node_lines : Frame → ℕ → List Node → List ℕ
node_lines frame from nodes = flat_map (node_line frame) (enumerate_from from nodes)

-- the line of a tetrahedron: its number, and its nodes
abbrev pub ele_line : ℕ × List ℕ → List ℕ
ele_line tet = line (decimal tet.0 ∷ map decimal tet.1)

-- the lines of some tetrahedra, numbered from a number on
abbrev pub ele_lines : ℕ → List (List ℕ) → List ℕ
ele_lines from tets = flat_map ele_line (enumerate_from from tets)

-- the node numbers of a tetrahedron where numbers begin at `first`
abbrev pub renumbered : ℕ → List ℕ → List ℕ
renumbered first tet = map (λ n. first + n) tet
