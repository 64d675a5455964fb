-- The nodes at a vertex, as far as their numbers need them.
use Rattle.std.specs.Prelude.{◌≡◌, ℕ, ◌+◌, ◌*◌, ◌%◌, ◌^◌, ◌<◌, count_ones}
use Rattle.vertex_numbers.specs.declared.vertex_nodes.VertexNodes.{VertexNodes}
use Rattle.vertex_numbers.specs.Numbering.{Numbering, number_in}

-- they give the numbers of the nodes at the vertex of this id, and these are small
pub record AreNodesAt (n : Numbering) (id : ℕ) (nodes : VertexNodes) : Type 0 where
  pub number : (dir : ℕ) → dir < 8 → number_in n (8 * id + dir) ≡ nodes.before + count_ones (nodes.bits % 2 ^ dir)
  pub few : nodes.before + 8 < 2 ^ 32
