-- Two lattice tetrahedra that hold one point give the same weighted sums of any values at the vertices.
use Rattle.std.proofs.Common.{◌≡◌, ℕ, refl, sym, ap, ◌∙◌, arith, Bool, true, false, ◌&&◌}
use Rattle.std.proofs.Math.IntN.{ℤ, pos, ◌+ℤ◌, ◌*ℤ◌}
use Rattle.std.proofs.lemmas.Int.{ints}
use Rattle.std.proofs.lemmas.Bool.{eq-eqb}
use Rattle.exact.proofs.IntegerLaws.{zero_mul}
use Rattle.lattice_laws.specs.Vectors.{Vector}
use Rattle.lattice_laws.specs.Kinds.{Kind, Slot, offset}
use Rattle.moved_lattice.specs.WeightedSums.{sum4, IsLattice, vertex_of, Holds, Matches, has_none, same_vertex}
use Rattle.lattice_laws.specs.Vectors.{same_integer, same_vector}
use Rattle.lattice_laws.proofs.SameVectors.{same_integer-true, same_vector-true}
use Rattle.moved_lattice.proofs.EveryKind.{every_kind, every_slot, kind_passes, slot_passes}
use Rattle.moved_lattice.proofs.SlotSums.{delta, sum4_same, delta_row, delta_column, zero_row, swap}
use Rattle.moved_lattice.proofs.CommonPoint.{weights_match, one_weight}

abbrev indicator : Bool → ℤ
indicator true = pos 1
indicator false = pos 0

same_integer_shifted : (b x y : ℤ) → same_integer (b +ℤ x) (b +ℤ y) ≡ same_integer x y
same_integer_shifted b x y = go (same_integer x y) (same_integer (b +ℤ x) (b +ℤ y)) refl refl
  where
    go : (p q : Bool) → same_integer x y ≡ p → same_integer (b +ℤ x) (b +ℤ y) ≡ q → q ≡ p
    go true true hp hq = refl
    go false false hp hq = refl
    go true false hp hq =
        let e : same_integer (b +ℤ x) (b +ℤ y) ≡ true = let f = same_integer-true x y hp in eq-eqb _ _ (omega (arith, ints)) in cc
    go false true hp hq =
        let e : same_integer x y ≡ true = let f = same_integer-true (b +ℤ x) (b +ℤ y) hq in eq-eqb _ _ (omega (arith, ints)) in cc

-- two slots of a kind stand in one place only where they are one slot
abbrev slots_differ : Bool
slots_differ = every_kind (λ κ. every_slot (λ i. every_slot (λ t. same_integer (indicator (same_vector (offset κ i) (offset κ t))) (delta i t))))

all_differ : slots_differ ≡ true
all_differ = refl

closed : (κ : Kind) (i t : Slot) → indicator (same_vector (offset κ i) (offset κ t)) ≡ delta i t
closed κ i t =
    same_integer-true _ _
    (slot_passes (λ t. same_integer (indicator (same_vector (offset κ i) (offset κ t))) (delta i t))
    (slot_passes (λ i. every_slot (λ t. same_integer (indicator (same_vector (offset κ i) (offset κ t))) (delta i t)))
    (kind_passes (λ κ. every_slot (λ i. every_slot (λ t. same_integer (indicator (same_vector (offset κ i) (offset κ t))) (delta i t)))) all_differ κ) i) t)

own : (b : Vector) (κ : Kind) (i t : Slot) → indicator (same_vector (vertex_of b κ i) (vertex_of b κ t)) ≡ delta i t
own b κ i t =
    let x = same_integer_shifted b.x (offset κ i).x (offset κ t).x in
    let y = same_integer_shifted b.y (offset κ i).y (offset κ t).y in
    let z = same_integer_shifted b.z (offset κ i).z (offset κ t).z in
    (λ j. indicator (x j && (y j && z j))) ∙ closed κ i t

-- weighted sums of any values at the vertices agree
pub sums_agree : (b : Vector) (κ : Kind) (w : Slot → ℕ) (b' : Vector) (κ' : Kind) (w' : Slot → ℕ) (p : Vector) (n : ℕ) → ((s : Slot) → IsLattice (vertex_of b κ s)) → IsLattice b → ((s : Slot) → IsLattice (vertex_of b' κ' s)) → IsLattice b'
    → Holds b κ w p n → Holds b' κ' w' p n → (f : Vector → ℤ) → sum4 (λ i. pos (w i) *ℤ f (vertex_of b κ i)) ≡ sum4 (λ j. pos (w' j) *ℤ f (vertex_of b' κ' j))
sums_agree b κ w b' κ' w' p n l l0 l' l0' h h' f =
    sum4_same (λ i. pos (w i) *ℤ f (vertex_of b κ i)) (λ i. sum4 (λ j. indicator (same_vector (vertex_of b κ i) (vertex_of b' κ' j)) *ℤ (pos (w i) *ℤ f (vertex_of b κ i)))) (λ i. sym (row i (weights_match b κ w b' κ' w' p n l l0' h h' i)))
    ∙ sum4_same _ _ (λ i. sum4_same (λ j. indicator (same_vector (vertex_of b κ i) (vertex_of b' κ' j)) *ℤ (pos (w i) *ℤ f (vertex_of b κ i))) (λ j. indicator (same_vector (vertex_of b κ i) (vertex_of b' κ' j)) *ℤ (pos (w' j) *ℤ f (vertex_of b' κ' j))) (λ j. cell i j (same_vector (vertex_of b κ i) (vertex_of b' κ' j)) refl))
    ∙ swap (λ i j. indicator (same_vector (vertex_of b κ i) (vertex_of b' κ' j)) *ℤ (pos (w' j) *ℤ f (vertex_of b' κ' j)))
    ∙ sum4_same (λ j. sum4 (λ i. indicator (same_vector (vertex_of b κ i) (vertex_of b' κ' j)) *ℤ (pos (w' j) *ℤ f (vertex_of b' κ' j)))) (λ j. pos (w' j) *ℤ f (vertex_of b' κ' j)) (λ j. column j (weights_match b' κ' w' b κ w p n l' l0 h' h j))
  where
    row : (i : Slot) → Matches w κ' b' w' (vertex_of b κ i) (w i) → sum4 (λ j. indicator (same_vector (vertex_of b κ i) (vertex_of b' κ' j)) *ℤ (pos (w i) *ℤ f (vertex_of b κ i))) ≡ pos (w i) *ℤ f (vertex_of b κ i)
    row i (has_none e) = zero_row (λ j. indicator (same_vector (vertex_of b κ i) (vertex_of b' κ' j))) _ (ap (λ m. pos m *ℤ f (vertex_of b κ i)) e ∙ zero_mul (f (vertex_of b κ i)))
    row i (same_vertex t e x) =
        sum4_same (λ j. indicator (same_vector (vertex_of b κ i) (vertex_of b' κ' j)) *ℤ (pos (w i) *ℤ f (vertex_of b κ i))) (λ j. delta t j *ℤ (pos (w i) *ℤ f (vertex_of b κ i)))
        (λ j. ap (λ c. c *ℤ (pos (w i) *ℤ f (vertex_of b κ i))) (ap (λ u. indicator (same_vector u (vertex_of b' κ' j))) e ∙ own b' κ' t j))
        ∙ delta_row t (λ j. pos (w i) *ℤ f (vertex_of b κ i))

    column : (j : Slot) → Matches w' κ b w (vertex_of b' κ' j) (w' j) → sum4 (λ i. indicator (same_vector (vertex_of b κ i) (vertex_of b' κ' j)) *ℤ (pos (w' j) *ℤ f (vertex_of b' κ' j))) ≡ pos (w' j) *ℤ f (vertex_of b' κ' j)
    column j (has_none e) = zero_row (λ i. indicator (same_vector (vertex_of b κ i) (vertex_of b' κ' j))) _ (ap (λ m. pos m *ℤ f (vertex_of b' κ' j)) e ∙ zero_mul (f (vertex_of b' κ' j)))
    column j (same_vertex t e x) =
        sum4_same (λ i. indicator (same_vector (vertex_of b κ i) (vertex_of b' κ' j)) *ℤ (pos (w' j) *ℤ f (vertex_of b' κ' j))) (λ i. delta i t *ℤ (pos (w' j) *ℤ f (vertex_of b' κ' j)))
        (λ i. ap (λ c. c *ℤ (pos (w' j) *ℤ f (vertex_of b' κ' j))) (ap (λ u. indicator (same_vector (vertex_of b κ i) u)) e ∙ own b κ i t))
        ∙ delta_column t (pos (w' j) *ℤ f (vertex_of b' κ' j))

    cell : (i j : Slot) (x : Bool) → same_vector (vertex_of b κ i) (vertex_of b' κ' j) ≡ x → indicator (same_vector (vertex_of b κ i) (vertex_of b' κ' j)) *ℤ (pos (w i) *ℤ f (vertex_of b κ i)) ≡ indicator (same_vector (vertex_of b κ i) (vertex_of b' κ' j)) *ℤ (pos (w' j) *ℤ f (vertex_of b' κ' j))
    cell i j true e =
        let u = same_vector-true (vertex_of b κ i) (vertex_of b' κ' j) e in
        let m = one_weight b κ w b' κ' w' p n i j h h' u in
        ap (λ c. indicator (same_vector (vertex_of b κ i) (vertex_of b' κ' j)) *ℤ c) (λ t. pos (m t) *ℤ f (u t))
    cell i j false e =
        let z = ap indicator e in
        ap (λ c. c *ℤ (pos (w i) *ℤ f (vertex_of b κ i))) z ∙ zero_mul (pos (w i) *ℤ f (vertex_of b κ i)) ∙ sym (ap (λ c. c *ℤ (pos (w' j) *ℤ f (vertex_of b' κ' j))) z ∙ zero_mul (pos (w' j) *ℤ f (vertex_of b' κ' j)))
