-- Each Plus vertex is a node of the mesh, and no Minus vertex is.
use Rattle.std.proofs.Common.{◌≡◌, ℕ, ◌+◌, ◌*◌, ◌<◌, List, length, sym, ap, subst, ◌∙◌, arith}
use Rattle.std.specs.Prelude.{Contains}
use Rattle.std.specs.List.{range_with_len}
use Rattle.std.proofs.lemmas.Bool.{both_ways}
use Rattle.definitions.specs.declared.Dims.{Dims}
use Rattle.definitions.specs.declared.State.{State}
use Rattle.definitions.specs.declared.Sign.TheVariants.{Minus, Plus}
use Rattle.definitions.specs.Lattice.{id, vertices, vertex_at, direction}
use Rattle.definitions.specs.States.{sign_of_state}
use Rattle.definitions.specs.Stencils.{is_plus, is_minus}
use Rattle.definitions.specs.Mesh.{state_at, all_pieces, occurs, ArePadded, node_keys}
use Rattle.lattice_laws.specs.Ascending.{Has}
use Rattle.lattice_laws.proofs.Directions.{direction_known}
use Rattle.lattice_laws.proofs.Members.{has_range, has_filter, from_filter, place_of}
use Rattle.lattice_laws.proofs.Sublists.{has_at}
use Rattle.lattice_laws.proofs.Vertices.{id-vertex_at, from_vertices}
use Rattle.node_laws.specs.Reasons.{Reason, plus, beside, crossed, sign}
use Rattle.node_laws.specs.Laws.{PlusVerticesAreNodes, MinusVerticesAreNoNodes}
use Rattle.node_laws.proofs.NodesOfTheMesh.{nodes_have_reasons}

same_eighth : (m n : ℕ) → 8 * m ≡ 8 * n → m ≡ n
same_eighth m n e = omega arith

no_cut : {X : Type 0} (m n k : ℕ) → 0 < k → k < 8 → 8 * m ≡ 8 * n + k → X
no_cut m n k lo hi e = absurd (omega arith)

module _ (d : Dims) (ss : List State) (padded : ArePadded d ss) (n : ℕ) (lt : n < length ss) where
  below : n < length (vertices d)
  below = subst (λ m. n < m) padded.whole lt

  plus_node : sign_of_state (state_at ss n) ≡ Plus → Contains (node_keys d ss) (8 * n)
  unfolding node_keys
  plus_node s =
      let e = id-vertex_at d n below in
      let why : Reason d ss (8 * n) =
      plus (vertex_at d n) (from_vertices d (vertex_at d n) (has_at (vertices d) n _ below)) (ap (λ m. 8 * m) (sym e)) (ap (λ m. is_plus (sign_of_state (state_at ss m))) e ∙ ap is_plus s) in
      let b = below in
      place_of (8 * n) (8 * n) (node_keys d ss)
      (has_filter (occurs (all_pieces d ss)) (8 * n) (range_with_len 0 (8 * length (vertices d))) (has_range 0 (8 * length (vertices d)) (8 * n) (omega arith) (omega arith)) ((nodes_have_reasons d ss padded (8 * n)).1 why))

  no_reason : sign_of_state (state_at ss n) ≡ Minus → Reason d ss (8 * n) → ⊥
  no_reason s (plus v k e p) = both_ways (is_plus (sign d ss v)) (ap (λ m. is_plus (sign_of_state (state_at ss m))) (sym (same_eighth n (id d v) e)) ∙ ap is_plus s) p
  no_reason s (beside v w k l e m near p) = both_ways (is_minus (sign d ss v)) m (ap (λ m. is_minus (sign_of_state (state_at ss m))) (sym (same_eighth n (id d v) e)) ∙ ap is_minus s)
  no_reason s (crossed u w k l e near b o) = let r = direction_known u w near b in no_cut n (id d u) (direction u w) r.0 r.1 e

  minus_node : sign_of_state (state_at ss n) ≡ Minus → Contains (node_keys d ss) (8 * n) → ⊥
  unfolding node_keys
  minus_node s c =
      let h : Has (8 * n) (node_keys d ss) = subst (λ m. Has m (node_keys d ss)) c.2 (has_at (node_keys d ss) c.0 (8 * n) c.1) in
      no_reason s ((nodes_have_reasons d ss padded (8 * n)).0 (from_filter (occurs (all_pieces d ss)) (8 * n) (range_with_len 0 (8 * length (vertices d))) h).1)

-- each Plus vertex is a node, and no Minus vertex is
pub plus_vertices_are_nodes : PlusVerticesAreNodes
plus_vertices_are_nodes d ss padded n lt s = plus_node d ss padded n lt s

pub minus_vertices_are_no_nodes : MinusVerticesAreNoNodes
minus_vertices_are_no_nodes d ss padded n lt s c = minus_node d ss padded n lt s c
