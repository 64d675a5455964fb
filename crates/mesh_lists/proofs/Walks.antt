-- Walks over the vertices of ids one after another.
use Rattle.std.proofs.Common.{◌≡◌, ℕ, ◌^◌, ◌<◌, ◌≤◌, arith, refl, sym, subst, length}
use Rattle.bcc_lattice.proofs.NextVertex.{HasId, in_loop}
use Rattle.definitions.specs.declared.Dims.{Dims}
use Rattle.definitions.specs.declared.Vertex.{Vertex}
use Rattle.definitions.specs.Lattice.{IsDims, vertex_at, vertices}
use Rattle.lattice_counts.proofs.Ranks.{id_small}

pub in_walk : (d : Dims) (v : Vertex) (n end : ℕ) → n < end → end ≤ length (vertices d) → (n < length (vertices d) → v ≡ vertex_at d n) → HasId d v n
in_walk d v n end lt within at = let below : n < length (vertices d) = omega arith in in_loop d d v n (length (vertices d)) refl refl below at

pub small_id : (d : Dims) (v : Vertex) (n : ℕ) → IsDims d → HasId d v n → n < 2 ^ 27
small_id d v n is h = subst (λ m. m < 2 ^ 27) (sym h.number) (id_small d is v h.domain)
