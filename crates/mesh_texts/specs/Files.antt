-- The whole texts. Nodes and tetrahedra are numbered from `first` on.
use Rattle.std.specs.Prelude.{ℕ, List, [], ◌∷◌, ◌++◌, map, length, codes, decimal}
use Rattle.formats.specs.declared.Frame.{Frame}
use Rattle.formats.specs.Texts.{line}
use Rattle.mesh_texts.specs.Nodes.{Node}
use Rattle.mesh_texts.specs.Lines.{node_lines, ele_lines, renumbered}

-- a .node file: the number of nodes, and each node
unfoldable pub node_text : Frame → ℕ → List Node → List ℕ
node_text frame first nodes = line (decimal (length nodes) ∷ codes "3" ∷ codes "0" ∷ codes "1" ∷ []) ++ node_lines frame first nodes

-- an .ele file: the number of tetrahedra, and each tetrahedron
unfoldable pub ele_text : ℕ → List (List ℕ) → List ℕ
ele_text first tets = line (decimal (length tets) ∷ codes "4" ∷ codes "0" ∷ []) ++ ele_lines first (map (renumbered first) tets)

-- how many nodes and tetrahedra there are, a line each
unfoldable pub counts_text : ℕ → ℕ → List ℕ
counts_text nodes tets = line (codes "nodes" ∷ decimal nodes ∷ []) ++ line (codes "tetrahedra" ∷ decimal tets ∷ [])
