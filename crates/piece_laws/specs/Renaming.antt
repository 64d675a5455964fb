-- Nodes of one lattice tetrahedron written as nodes of another, by a renaming of the slots of their common vertices.
use Rattle.std.specs.Prelude.{◌≡◌, ℕ, ◌<◌, Bool, true, List, [], ◌∷◌}
use Rattle.std.proofs.Math.IntN.{ℤ, pos, nat_abs}
use lib.Signed.{◌<ℤ◌}
use Rattle.definitions.specs.declared.Sign.{Sign}
use Rattle.definitions.specs.declared.Corner.{Corner}
use Rattle.definitions.specs.declared.Corner.TheVariants.{Whole, Cut}
use Rattle.lattice_laws.specs.Vectors.{Vector}
use Rattle.lattice_laws.specs.Kinds.{Kind, Slot, slot_of, number_of_slot}
use Rattle.moved_lattice.specs.WeightedSums.{vertex_of}
use Rattle.stencil_laws.specs.Cases.{four_signs}
use Rattle.stencil_laws.specs.Weights.{weighted_sum, entry}

-- a node with its slots renamed
abbrev pub renamed : (ℕ → ℕ) → Corner → Corner
renamed μ (Whole a) = Whole (μ a)
renamed μ (Cut a b) = Cut (μ a) (μ b)

-- cuts of all edges: each has a number of 1 to 4095
abbrev pub AreCuts : (Vector → Vector → ℤ) → Type 0
AreCuts cut = (u w : Vector) → (pos 0 <ℤ cut u w) × (cut u w <ℤ pos 4096)

-- the numbers of a tetrahedron's six cuts
abbrev pub cuts_of : (Vector → Vector → ℤ) → (ℕ → Vector) → List ℤ
cuts_of cut u = cut (u 0) (u 1) ∷ cut (u 0) (u 2) ∷ cut (u 0) (u 3) ∷ cut (u 1) (u 2) ∷ cut (u 1) (u 3) ∷ cut (u 2) (u 3) ∷ []

-- a node all of whose slots have weights
pub data Shared (is_weighted : ℕ → Bool) : Corner → Type 0 where
  shared_whole : (a : ℕ) → a < 4 → is_weighted a ≡ true → Shared is_weighted (Whole a)
  shared_cut : (a b : ℕ) → a < b → b < 4 → is_weighted a ≡ true → is_weighted b ≡ true → Shared is_weighted (Cut a b)

-- ---- a lattice tetrahedron at b, with signs and cuts given at all vertices of the lattice

-- the vertex in slot n, and the signs of all four
abbrev pub vertex_at : Vector → Kind → ℕ → Vector
vertex_at b κ n = vertex_of b κ (slot_of n)

abbrev pub signs_at : (Vector → Sign) → Vector → Kind → List Sign
signs_at sign b κ = four_signs (sign (vertex_at b κ 0)) (sign (vertex_at b κ 1)) (sign (vertex_at b κ 2)) (sign (vertex_at b κ 3))

-- the weight of a vertex, of 4096, by weights of the nodes of a piece
abbrev pub lattice_weight : (Vector → Vector → ℤ) → Vector → Kind → List ℕ → List Corner → ℕ → ℤ
lattice_weight cut b κ ws p j = weighted_sum ws p (entry (cuts_of cut (vertex_at b κ)) j)

-- the same, by the slot of the vertex
abbrev pub slot_weight : (Vector → Vector → ℤ) → Vector → Kind → List ℕ → List Corner → Slot → ℕ
slot_weight cut b κ ws p s = nat_abs (lattice_weight cut b κ ws p (number_of_slot s))
