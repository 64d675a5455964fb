-- The numbers of six cuts and the sixteen entries of a matrix, in the order in which the rows of nodes name them.
use Rattle.std.specs.Prelude.{ℕ, zero, suc, ◌<◌, List, [], ◌∷◌}
use Rattle.std.proofs.Common.{◌≡◌, refl, arith}
use Rattle.std.proofs.Math.IntN.{ℤ, pos}
use lib.Signed.{◌<ℤ◌}
use Rattle.exact.specs.Polynomials.{value_at}
use Rattle.lattice_laws.specs.Kinds.{Slot, slot_0, slot_1, slot_2, slot_3, number_of_slot}
use Rattle.stencil_laws.specs.NodeRows.{cut_variable, AreCutNumbers, entry_of}

-- from the cut between two slots, and the row of each
abbrev pub values_by : (ℕ → ℕ → ℤ) → (ℕ → Slot → ℤ) → List ℤ
values_by cut row =
    cut 0 1 ∷ cut 0 2 ∷ cut 0 3 ∷ cut 1 2 ∷ cut 1 3 ∷ cut 2 3
    ∷ row 0 slot_0 ∷ row 0 slot_1 ∷ row 0 slot_2 ∷ row 0 slot_3
    ∷ row 1 slot_0 ∷ row 1 slot_1 ∷ row 1 slot_2 ∷ row 1 slot_3
    ∷ row 2 slot_0 ∷ row 2 slot_1 ∷ row 2 slot_2 ∷ row 2 slot_3
    ∷ row 3 slot_0 ∷ row 3 slot_1 ∷ row 3 slot_2 ∷ row 3 slot_3 ∷ []

module _ (cut : ℕ → ℕ → ℤ) (row : ℕ → Slot → ℤ) where
  pub are_cut_numbers : ((a c : ℕ) → (pos 0 <ℤ cut a c) × (cut a c <ℤ pos 4096)) → AreCutNumbers (values_by cut row)
  are_cut_numbers fits zero h = fits 0 1
  are_cut_numbers fits (suc zero) h = fits 0 2
  are_cut_numbers fits (suc (suc zero)) h = fits 0 3
  are_cut_numbers fits (suc (suc (suc zero))) h = fits 1 2
  are_cut_numbers fits (suc (suc (suc (suc zero)))) h = fits 1 3
  are_cut_numbers fits (suc (suc (suc (suc (suc zero))))) h = fits 2 3
  are_cut_numbers fits (suc (suc (suc (suc (suc (suc i)))))) h = absurd (omega arith)

  pub cut_value : (a c : ℕ) → a < c → c < 4 → value_at (values_by cut row) (cut_variable a c) ≡ cut a c
  cut_value zero (suc zero) h i = refl
  cut_value zero (suc (suc zero)) h i = refl
  cut_value zero (suc (suc (suc zero))) h i = refl
  cut_value (suc zero) (suc (suc zero)) h i = refl
  cut_value (suc zero) (suc (suc (suc zero))) h i = refl
  cut_value (suc (suc zero)) (suc (suc (suc zero))) h i = refl
  cut_value a c h i = absurd (omega arith)

  pub row_value : (a : ℕ) → a < 4 → (j : Slot) → entry_of (values_by cut row) a (number_of_slot j) ≡ row a j
  row_value zero h slot_0 = refl
  row_value zero h j = refl
  row_value (suc zero) h slot_0 = refl
  row_value (suc zero) h j = refl
  row_value (suc (suc zero)) h slot_0 = refl
  row_value (suc (suc zero)) h j = refl
  row_value (suc (suc (suc zero))) h slot_0 = refl
  row_value (suc (suc (suc zero))) h j = refl
  row_value (suc (suc (suc (suc a)))) h j = absurd (omega arith)
