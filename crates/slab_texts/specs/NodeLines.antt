-- Lines of nodes, one after another.
use Rattle.std.specs.Prelude.{◌≡◌, ℕ, ◌+◌, true, List, ◌++◌, length}
use Rattle.definitions.specs.declared.State.{State}
use Rattle.definitions.specs.Mesh.{all_pieces, node_place, occurs}
use Rattle.definitions.specs.declared.Vertex.{Vertex}
use Rattle.definitions.specs.Places.{state_place}
use Rattle.definitions.specs.States.{sign_of_state}
use Rattle.definitions.specs.Stencils.{is_zero}
use Rattle.definitions.specs.Values.{Field}
use Rattle.mesh_lists.specs.Parts.{place_on_edge}
use Rattle.formats.specs.declared.Frame.{Frame}
use Rattle.mesh_texts.specs.Lines.{node_lines}
use Rattle.mesh_texts.specs.Nodes.{Node}
use Rattle.node_ele_write.specs.Printable.{IsPrintable}
use Rattle.slab_texts.specs.declared.node_lines.NodeLines.{NodeLines}

-- the node of a vertex in a state, and that on the edge from a vertex in a direction
abbrev pub vertex_node : Vertex → State → Node
vertex_node v s = record { place = state_place v s; level = is_zero (sign_of_state s) }

abbrev pub edge_node : Field → Vertex → ℕ → Node
edge_node f v dir = record { place = place_on_edge f v dir; level = true }

-- some nodes more
pub record AddsNodes (frame : Frame) (old : NodeLines) (nodes : List Node) (new : NodeLines) : Type 0 where
  pub text : new.text.items ≡ old.text.items ++ node_lines frame old.number nodes
  pub number : new.number ≡ old.number + length nodes

-- each node that occurs stands at a place that is printed
abbrev pub ArePrintable : Frame → Field → List State → Type 0
ArePrintable frame f ss = (key : ℕ) → occurs (all_pieces f.dims ss) key ≡ true → IsPrintable frame (node_place f ss key)
