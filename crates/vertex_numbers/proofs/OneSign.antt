-- Where a vertex and its neighbours upwards are all Plus the vertex is the only node and each of its six lattice tetrahedra one piece, and where all are Minus there is neither.
use Rattle.std.proofs.Common.{◌≡◌, ◌||◌, Bool, true, false, List, ◌∷◌, map, if◌then◌else◌, refl, sym, ap, ◌∙◌}
use Rattle.std.specs.Prelude.{⊤}
use Rattle.definitions.specs.declared.Dims.{Dims}
use Rattle.definitions.specs.declared.Vertex.{Vertex}
use Rattle.definitions.specs.declared.State.{State}
use Rattle.definitions.specs.declared.Sign.{Sign}
use Rattle.definitions.specs.declared.Sign.TheVariants.{Minus, Plus}
use Rattle.definitions.specs.Lattice.{InDomain, id}
use Rattle.definitions.specs.Mesh.{ArePadded}
use Rattle.node_laws.specs.Used.{told}
use Rattle.vertex_numbers.specs.Alike.{all_with, AreAlike}
use Rattle.vertex_numbers.specs.Around.{crosses, has_plus_there, is_node, nodes_of, pieces_up, signs_towards}
use Rattle.vertex_numbers.specs.Bits.{bits, trues}
use Rattle.vertex_numbers.specs.Counts.{vertex_nodes, vertex_pieces}
use Rattle.vertex_numbers.specs.Numbering.{mesh_bits}
use Rattle.vertex_numbers.specs.Rows.{sign_if_plus}
use Rattle.vertex_numbers.proofs.NodesTold.{nodes_occur}

module _ (d : Dims) (t : Vertex → State) (v : Vertex) where
  nodes_of_one : (s : Sign) → AreAlike d t v s → vertex_nodes d t v ≡ trues (is_node s (has_plus_there (all_with s) || has_plus_there (signs_towards d t v false)) ∷ map (crosses s) (all_with s))
  unfolding vertex_nodes
  nodes_of_one s a = λ i. trues (is_node (a.own i) (has_plus_there (a.up i) || has_plus_there (signs_towards d t v false)) ∷ map (crosses (a.own i)) (a.up i))

  pieces_of_one : (s : Sign) → AreAlike d t v s → vertex_pieces d t v ≡ pieces_up s (all_with s)
  unfolding vertex_pieces
  pieces_of_one s a = λ i. pieces_up (a.own i) (a.up i)

  bits_of_one : (s : Sign) → AreAlike d t v s → bits (nodes_of d t v) ≡ bits (is_node s (has_plus_there (all_with s) || has_plus_there (signs_towards d t v false)) ∷ map (crosses s) (all_with s))
  bits_of_one s a = λ i. bits (is_node (a.own i) (has_plus_there (a.up i) || has_plus_there (signs_towards d t v false)) ∷ map (crosses (a.own i)) (a.up i))

  pub nodes_of_run : (b : Bool) → AreAlike d t v (sign_if_plus b) → vertex_nodes d t v ≡ (if b then 1 else 0)
  nodes_of_run true a = nodes_of_one Plus a
  nodes_of_run false a = nodes_of_one Minus a

  pub pieces_of_run : (b : Bool) → AreAlike d t v (sign_if_plus b) → vertex_pieces d t v ≡ (if b then 6 else 0)
  pieces_of_run true a = pieces_of_one Plus a
  pieces_of_run false a = pieces_of_one Minus a

  bits_of_run : (b : Bool) → AreAlike d t v (sign_if_plus b) → bits (nodes_of d t v) ≡ (if b then 1 else 0)
  bits_of_run true a = bits_of_one Plus a
  bits_of_run false a = bits_of_one Minus a

-- the bits of a vertex of the mesh
pub mesh_bits_of_run : (d : Dims) (ss : List State) → ArePadded d ss → (v : Vertex) → InDomain d v → (b : Bool) → AreAlike d (told d ss) v (sign_if_plus b) → mesh_bits d ss (id d v) ≡ (if b then 1 else 0)
unfolding mesh_bits
mesh_bits_of_run d ss padded v inside b a =
    sym (ap bits (nodes_occur d (λ h. ⊤) (told d ss) ss (λ w p q. refl) v inside (λ g p q r. tt) padded)) ∙ bits_of_run d (told d ss) v b a
