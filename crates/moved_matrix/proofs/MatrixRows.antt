-- The rows of a matrix, from their entries to what they say of the tetrahedron.
use Rattle.std.proofs.Common.{◌≡◌, ℕ, zero, suc, ◌<◌, ◌≤◌, ◌==◌, cond, List, [], ◌∷◌, unsigned_abs, refl, sym, ap, ◌∙◌, subst, arith}
use Rattle.std.specs.Prelude.{slice_index_or}
use Rattle.std.proofs.Math.IntN.{ℤ, pos, ◌+ℤ◌, neg_ℤ, nat_abs}
use Rattle.std.proofs.lemmas.Int.{ints}
use Rattle.determinants.proofs.Entries.{as_word, word_is}
use lib.Signed.{◌<ℤ◌}
use Rattle.definitions.specs.declared.Place.{Place}
use Rattle.definitions.specs.declared.Vertex.{Vertex}
use Rattle.definitions.specs.declared.State.{State}
use Rattle.definitions.specs.Pieces.{slot}
use Rattle.definitions.specs.Vectors.{dot, place_at}
use Rattle.bcc_lattice.specs.Bounds.{IsSmallPlace}
use Rattle.exact.specs.Dominance.{IsDominant, entry}
use Rattle.lattice_laws.specs.Kinds.{Kind, kind_146, Slot, slot_0, slot_1, slot_2, slot_3, number_of_slot}
use Rattle.lattice_laws.specs.Vectors.{Vector, ◌+ᵥ◌, ◌-ᵥ◌, ◌*ᵥ◌}
use Rattle.displacement_laws.specs.DisplacedRows.{displaced_row}
use Rattle.displacement_laws.proofs.DisplacedRows.{row_sum, row_place, row_dominates}
use Rattle.displacement_laws.proofs.Displacements.{near_states_are_displaced}
use Rattle.moved_lattice.specs.Duals.{dual}
use Rattle.moved_lattice.specs.MovedMatrix.{others}
use Rattle.moved_lattice.specs.WeightedSums.{sum4, combination}
use Rattle.moved_matrix.specs.Matrix.{AreForms}
use Rattle.moved_matrix.specs.Moved.{by_slot, displacement_at, is_near_at, moved_at_slot, place_at_slot, state_in}
use Rattle.moved_matrix.proofs.Steps.{HasKind}
use Rattle.moved_matrix.proofs.Words.{word_64, own_word}

-- ---- forms are small

dual_small : (κ : Kind) (s : Slot) → IsSmallPlace 1 (dual κ s)
dual_small κ slot_0 = go κ
  where
    go : (κ : Kind) → IsSmallPlace 1 (dual κ slot_0)
    go kind_146 = record { x = omega arith; y = omega arith; z = omega arith }
    go κ = record { x = omega arith; y = omega arith; z = omega arith }
dual_small κ slot_1 = go κ
  where
    go : (κ : Kind) → IsSmallPlace 1 (dual κ slot_1)
    go kind_146 = record { x = omega arith; y = omega arith; z = omega arith }
    go κ = record { x = omega arith; y = omega arith; z = omega arith }
dual_small κ slot_2 = go κ
  where
    go : (κ : Kind) → IsSmallPlace 1 (dual κ slot_2)
    go kind_146 = record { x = omega arith; y = omega arith; z = omega arith }
    go κ = record { x = omega arith; y = omega arith; z = omega arith }
dual_small κ slot_3 = go κ
  where
    go : (κ : Kind) → IsSmallPlace 1 (dual κ slot_3)
    go kind_146 = record { x = omega arith; y = omega arith; z = omega arith }
    go κ = record { x = omega arith; y = omega arith; z = omega arith }

pub forms_small : (forms : List Place) (κ : Kind) → AreForms forms κ → (j : ℕ) → j < 4 → IsSmallPlace 1 (place_at forms j)
forms_small forms κ h zero lt = subst (IsSmallPlace 1) (sym (h slot_0)) (dual_small κ slot_0)
forms_small forms κ h (suc zero) lt = subst (IsSmallPlace 1) (sym (h slot_1)) (dual_small κ slot_1)
forms_small forms κ h (suc (suc zero)) lt = subst (IsSmallPlace 1) (sym (h slot_2)) (dual_small κ slot_2)
forms_small forms κ h (suc (suc (suc zero))) lt = subst (IsSmallPlace 1) (sym (h slot_3)) (dual_small κ slot_3)
forms_small forms κ h (suc (suc (suc (suc j)))) lt = absurd (omega arith)

-- ---- an entry

displaced_is : (κ : Kind) (s : Slot) (d : Vector) (j : Slot) → displaced_row κ s d j ≡ cond (number_of_slot s == number_of_slot j) (pos 8192) (pos 0) +ℤ dot (dual κ j) d
displaced_is κ slot_0 d slot_0 = refl
displaced_is κ slot_0 d j = refl
displaced_is κ slot_1 d slot_0 = refl
displaced_is κ slot_1 d j = refl
displaced_is κ slot_2 d slot_0 = refl
displaced_is κ slot_2 d j = refl
displaced_is κ slot_3 d slot_0 = refl
displaced_is κ slot_3 d j = refl

pub entry_is : (κ : Kind) (s j : Slot) (at : ℕ) (form shift : Vector) (own w : ℤ) → number_of_slot s ≡ at → form ≡ dual κ j → own ≡ cond (at == number_of_slot j) (pos 8192) (pos 0) → w ≡ word_64 own +ℤ dot form shift → unsigned_abs w ≤ 16384
    → as_word w ≡ displaced_row κ s shift j
entry_is κ s j at form shift own w e f g h small =
    word_is w small
    ∙ h
    ∙ (λ i. own_word (at == number_of_slot j) own g i +ℤ dot (f i) shift)
    ∙ (λ i. cond (sym e i == number_of_slot j) (pos 8192) (pos 0) +ℤ dot (dual κ j) shift)
    ∙ sym (displaced_is κ s shift j)

pub four_small : (a b c d : ℤ) → unsigned_abs a ≤ 16384 → unsigned_abs b ≤ 16384 → unsigned_abs c ≤ 16384 → unsigned_abs d ≤ 16384
    → (j : ℕ) → j < 4 → unsigned_abs (slice_index_or {A = ℤ} (as_word a ∷ as_word b ∷ as_word c ∷ as_word d ∷ []) j (pos 0)) ≤ 16384
four_small a b c d ha hb hc hd zero lt = subst (λ z. unsigned_abs z ≤ 16384) (sym (word_is a ha)) ha
four_small a b c d ha hb hc hd (suc zero) lt = subst (λ z. unsigned_abs z ≤ 16384) (sym (word_is b hb)) hb
four_small a b c d ha hb hc hd (suc (suc zero)) lt = subst (λ z. unsigned_abs z ≤ 16384) (sym (word_is c hc)) hc
four_small a b c d ha hb hc hd (suc (suc (suc zero))) lt = subst (λ z. unsigned_abs z ≤ 16384) (sym (word_is d hd)) hd
four_small a b c d ha hb hc hd (suc (suc (suc (suc j)))) lt = absurd (omega arith)

-- ---- a row

-- what the row of a slot is to be
pub record IsRow (tet : List Vertex) (states : List State) (s : Slot) (r : List ℤ) : Type 0 where
  pub sum : sum4 (by_slot r) ≡ pos 8192
  pub place : pos 8192 *ᵥ moved_at_slot tet states s ≡ combination (by_slot r) (place_at_slot tet)
  pub dominant : pos (others s (λ j. nat_abs (by_slot r j))) <ℤ by_slot r s

put_back : (p q : Vector) → p ≡ q +ᵥ (p -ᵥ q)
put_back p q = λ i. record { x = go p.x q.x i; y = go p.y q.y i; z = go p.z q.z i }
  where
    go : (a b : ℤ) → a ≡ b +ℤ (a +ℤ neg_ℤ b)
    go a b = omega (arith, ints)

pub is_row : (tet : List Vertex) (states : List State) (k : HasKind tet) (s : Slot) (r : List ℤ) (d : Vector) → is_near_at states (number_of_slot s) → d ≡ displacement_at tet states s → ((j : Slot) → by_slot r j ≡ displaced_row k.kind s d j) → IsRow tet states s r
is_row tet states k s r d near e h =
    let same : by_slot r ≡ displaced_row k.kind s (displacement_at tet states s) = λ i j. (h j ∙ (λ t. displaced_row k.kind s (e t) j)) i in
    record {
      sum = ap sum4 same ∙ row_sum k.kind s (displacement_at tet states s);
      place =
          (λ i. pos 8192 *ᵥ put_back (moved_at_slot tet states s) (place_at_slot tet s) i)
          ∙ (λ i. pos 8192 *ᵥ (k.places s i +ᵥ displacement_at tet states s))
          ∙ sym (row_place k.kind s (place_at_slot tet slot_0) (displacement_at tet states s))
          ∙ (λ i. combination (sym same i) (λ j. sym (k.places j) i));
      dominant =
          subst (λ (w : Slot → ℤ). pos (others s (λ j. nat_abs (w j))) <ℤ w s) (sym same)
          (row_dominates k.kind s (displacement_at tet states s) (near_states_are_displaced (slot tet (number_of_slot s)) (state_in states (number_of_slot s)) near));
    }

-- ---- four rows

-- what a matrix of four rows is to be
pub record AreRows (tet : List Vertex) (states : List State) (m : List (List ℤ)) : Type 0 where
  pub row : (s : Slot) → IsRow tet states s (slice_index_or m (number_of_slot s) [])

pub four_rows : (tet : List Vertex) (states : List State) (p q r t : List ℤ) → IsRow tet states slot_0 p → IsRow tet states slot_1 q → IsRow tet states slot_2 r → IsRow tet states slot_3 t → AreRows tet states (p ∷ q ∷ r ∷ t ∷ [])
four_rows tet states p q r t a b c d = record { row = go }
  where
    go : (s : Slot) → IsRow tet states s (slice_index_or (p ∷ q ∷ r ∷ t ∷ []) (number_of_slot s) [])
    go slot_0 = a
    go slot_1 = b
    go slot_2 = c
    go slot_3 = d

pub rows_dominate : (tet : List Vertex) (states : List State) (m : List (List ℤ)) → AreRows tet states m → IsDominant (entry m)
rows_dominate tet states m h = ((h.row slot_0).dominant, (h.row slot_1).dominant, (h.row slot_2).dominant, (h.row slot_3).dominant)

pub rows_small : (p q r t : List ℤ) → ((j : ℕ) → j < 4 → unsigned_abs (slice_index_or p j (pos 0)) ≤ 16384) → ((j : ℕ) → j < 4 → unsigned_abs (slice_index_or q j (pos 0)) ≤ 16384) → ((j : ℕ) → j < 4 → unsigned_abs (slice_index_or r j (pos 0)) ≤ 16384)
    → ((j : ℕ) → j < 4 → unsigned_abs (slice_index_or t j (pos 0)) ≤ 16384) → (i j : ℕ) → i < 4 → j < 4 → unsigned_abs (entry (p ∷ q ∷ r ∷ t ∷ []) i j) ≤ 16384
rows_small p q r t a b c d zero j lt le = a j le
rows_small p q r t a b c d (suc zero) j lt le = b j le
rows_small p q r t a b c d (suc (suc zero)) j lt le = c j le
rows_small p q r t a b c d (suc (suc (suc zero))) j lt le = d j le
rows_small p q r t a b c d (suc (suc (suc (suc i)))) j lt le = absurd (omega arith)
