-- What a numbering says of the nodes of a vertex.
use Rattle.std.proofs.Common.{◌≡◌, ℕ, ◌+◌, ◌*◌, ◌/◌, ◌<◌, ◌≤◌, arith, sym, subst, List, length}
use Rattle.std.specs.List.{list_any}
use Rattle.list_words.proofs.Ranges.{any_agree}
use Rattle.definitions.specs.declared.Dims.{Dims}
use Rattle.definitions.specs.declared.Vertex.{Vertex}
use Rattle.definitions.specs.declared.State.{State}
use Rattle.definitions.specs.Lattice.{InDomain, id, vertices}
use Rattle.definitions.specs.Mesh.{all_pieces, occurs}
use Rattle.lattice_laws.proofs.Vertices.{vertex_at-id}
use Rattle.vertex_numbers.specs.Numbering.{Numbering, TellsUsed, used_in}
use Rattle.mesh_lists.specs.Parts.{keys_of_vertex}

pub vertex_within : (d : Dims) (v : Vertex) (n : ℕ) → InDomain d v → n ≡ id d v → n < length (vertices d)
vertex_within d v n inside e = subst (λ m. m < length (vertices d)) (sym e) (vertex_at-id d v inside).0

-- what is used at a vertex
pub same_used : (d : Dims) (ss : List State) (n : Numbering) (m : ℕ) → TellsUsed d ss n → n.first ≤ m → m < n.first + n.len → list_any (used_in n) (keys_of_vertex m) ≡ list_any (occurs (all_pieces d ss)) (keys_of_vertex m)
same_used d ss n m used low high =
    any_agree (used_in n) (occurs (all_pieces d ss)) (8 * m) 8 (λ k lo hi. let q : k / 8 ≡ m = omega arith in used k (record { low = omega arith; high = omega arith }))
