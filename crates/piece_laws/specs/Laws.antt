-- What is proved of the pieces of all lattice tetrahedra, over the infinite lattice with its vertices moved by d, with signs and cuts given at all vertices and edges.
use Rattle.std.specs.Prelude.{◌≡◌, ℕ, ◌<◌, List, [], ◌∷◌, map, length}
use Rattle.std.proofs.Math.IntN.{ℤ, pos, ◌*ℤ◌, nat_abs}
use lib.Signed.{◌<ℤ◌}
use Rattle.definitions.specs.declared.Sign.{Sign}
use Rattle.definitions.specs.declared.Corner.{Corner}
use Rattle.exact.specs.Dominance.{IsDominant}
use Rattle.lattice_laws.specs.Ascending.{Has}
use Rattle.lattice_laws.specs.Vectors.{Vector, ◌*ᵥ◌}
use Rattle.lattice_laws.specs.Kinds.{Kind, Slot}
use Rattle.moved_lattice.specs.WeightedSums.{sum4, combination, total_weight, AreSmall, IsLattice, moved_place, volume_of_four}
use Rattle.stencil_laws.specs.Cases.{case_pieces}
use Rattle.stencil_laws.specs.NodeRows.{order_sign, AreCutNumbers, entry_of}
use Rattle.stencil_laws.specs.Weights.{weight_at}
use Rattle.piece_laws.specs.Renaming.{AreCuts, renamed, vertex_at, signs_at, lattice_weight, slot_weight}
use Rattle.piece_laws.specs.SignedVolumes.{kind_sign, lattice_place, piece_rows}

-- Two weighted pieces p of one and q of another lattice tetrahedron have equal weights at common nodes: each vertex with a weight of the second is a
-- vertex of the first, in a slot that `slots` gives, and with its nodes so renamed the second gives each node of the first the weight that it has there.
pub record AgreeAtNodes (cut : Vector → Vector → ℤ) (b : Vector) (κ : Kind) (b' : Vector) (κ' : Kind) (p q : List Corner) (wa wb : List ℕ) : Type 0 where
  pub slots : ℕ → ℕ
  pub into : (s : ℕ) → s < 4 → (nat_abs (lattice_weight cut b' κ' wb q s) ≡ 0 → ⊥) → (slots s < 4) × (vertex_at b' κ' s ≡ vertex_at b κ (slots s))
  pub weights : (e : Corner) → weight_at p wa e ≡ weight_at (map (renamed slots) q) wb e

-- Pieces of two moved lattice tetrahedra meet in their common nodes alone: weights of both with equal sums that give the same moved place agree at each node.
abbrev pub MovedPiecesMeet : Type 0
MovedPiecesMeet =
    (d : Vector → Vector) → AreSmall d → (sign : Vector → Sign) (cut : Vector → Vector → ℤ) → AreCuts cut
    → (b : Vector) (κ : Kind) (b' : Vector) (κ' : Kind) → IsLattice b → IsLattice b'
    → (p q : List Corner) → Has p (case_pieces (signs_at sign b κ)) → Has q (case_pieces (signs_at sign b' κ')) → (wa wb : List ℕ)
    → total_weight (slot_weight cut b κ wa p) ≡ total_weight (slot_weight cut b' κ' wb q)
    → moved_place d b κ (slot_weight cut b κ wa p) ≡ moved_place d b' κ' (slot_weight cut b' κ' wb q)
    → AgreeAtNodes cut b κ b' κ' p q wa wb

-- The volume of a piece has the sign of the order of its nodes times that of its lattice tetrahedron, where 8192 times each node is its row's sum of the lattice places.
abbrev pub PiecesHaveSignedVolumes : Type 0
PiecesHaveSignedVolumes =
    (bs : Vector) (κ : Kind) (r : List ℤ) (signs : List Sign) (a b c d : Corner) (n : Slot → Vector)
    → AreCutNumbers r → IsDominant (entry_of r) → length signs ≡ 4 → Has (a ∷ b ∷ c ∷ d ∷ []) (case_pieces signs)
    → ((i : Slot) → sum4 (piece_rows r signs a b c d i) ≡ pos 8192)
    → ((i : Slot) → pos 8192 *ᵥ n i ≡ combination (piece_rows r signs a b c d i) (lattice_place bs κ))
    → pos 0 <ℤ ((order_sign signs (a ∷ b ∷ c ∷ d ∷ []) *ℤ kind_sign κ) *ℤ volume_of_four n)
