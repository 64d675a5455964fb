-- One step of the contraction, on a lattice tetrahedron with its states.
use Rattle.std.proofs.Common.{◌≡◌, ℕ, ◌*◌, ◌<◌, ◌≤◌, max, List, [], ◌∷◌, refl, sym, ap, ◌∙◌, arith, subst}
use Rattle.std.proofs.Math.IntN.{ℤ, pos, ◌+ℤ◌, ◌*ℤ◌, neg_ℤ, nat_abs}
use Rattle.std.proofs.lemmas.Int.{ints, unsigned_abs-mul}
use Rattle.definitions.specs.declared.Vertex.{Vertex}
use Rattle.definitions.specs.declared.State.{State}
use Rattle.definitions.specs.Pieces.{slot}
use Rattle.definitions.specs.Places.{lattice_place}
use Rattle.exact.specs.Polynomials.{variable, constant, plus, times}
use Rattle.exact.proofs.Ring.{ring}
use Rattle.lattice_laws.specs.Kinds.{Kind, kind_146, Slot, slot_0, slot_1, slot_2, slot_3, number_of_slot, offset, vector_of, KindOfTet, tet_of_kind}
use Rattle.lattice_laws.specs.NumberedTetrahedra.{IsNumberedTet}
use Rattle.lattice_laws.specs.Vectors.{Vector, norm, ◌+ᵥ◌, ◌*ᵥ◌, origin, x_of, y_of, z_of}
use Rattle.lattice_laws.proofs.SixKinds.{numbered_kind}
use Rattle.moved_lattice.specs.WeightedSums.{sum4, combination}
use Rattle.moved_lattice.proofs.Contraction.{contraction}
use Rattle.displacement_laws.proofs.Displacements.{displacements_are_small, near_states_are_displaced}
use Rattle.moved_matrix.specs.Matrix.{StandsAs}
use Rattle.moved_matrix.specs.Moved.{displacement_at, by_slot, changes, is_near_at, place_at_slot, state_in}

-- ---- the places of a lattice tetrahedron's vertices

-- a kind with the places of the vertices, from the lowest
pub record HasKind (tet : List Vertex) : Type 0 where
  pub kind : Kind
  pub stands : StandsAs tet kind
  pub places : (s : Slot) → place_at_slot tet s ≡ place_at_slot tet slot_0 +ᵥ pos 4096 *ᵥ offset kind s

one_place : (t u : Vertex) (s : Vector) → vector_of u ≡ vector_of t +ᵥ s → lattice_place u ≡ lattice_place t +ᵥ pos 4096 *ᵥ s
one_place t u s e = λ i. record { x = go u.x t.x s.x (ap x_of e) i; y = go u.y t.y s.y (ap y_of e) i; z = go u.h t.h s.z (ap z_of e) i }
  where
    go : (m n : ℕ) (s : ℤ) → pos m ≡ pos n +ℤ s → (pos m +ℤ neg_ℤ (pos 2)) *ℤ pos 4096 ≡ (pos n +ℤ neg_ℤ (pos 2)) *ℤ pos 4096 +ℤ pos 4096 *ℤ s
    go m n s e = omega (arith, ints)

lowest : (κ : Kind) → offset κ slot_0 ≡ origin
lowest kind_146 = refl
lowest κ = refl

nowhere : (t : Vertex) → vector_of t ≡ vector_of t +ᵥ origin
nowhere t = λ i. record { x = go t.x i; y = go t.y i; z = go t.h i }
  where
    go : (m : ℕ) → pos m ≡ pos m +ℤ pos 0
    go m = omega (arith, ints)

kind_places : (t u v w : Vertex) → KindOfTet t u v w → HasKind (t ∷ u ∷ v ∷ w ∷ [])
kind_places t u v w (tet_of_kind κ e f g) = record { kind = κ; stands = stand; places = go }
  where
    stand : (s : Slot) → vector_of (slot (t ∷ u ∷ v ∷ w ∷ []) (number_of_slot s)) ≡ vector_of t +ᵥ offset κ s
    stand slot_0 = nowhere t ∙ (λ i. vector_of t +ᵥ sym (lowest κ) i)
    stand slot_1 = e
    stand slot_2 = f
    stand slot_3 = g

    go : (s : Slot) → place_at_slot (t ∷ u ∷ v ∷ w ∷ []) s ≡ lattice_place t +ᵥ pos 4096 *ᵥ offset κ s
    go slot_0 = one_place t t (offset κ slot_0) (nowhere t ∙ (λ i. vector_of t +ᵥ sym (lowest κ) i))
    go slot_1 = one_place t u (offset κ slot_1) e
    go slot_2 = one_place t v (offset κ slot_2) f
    go slot_3 = one_place t w (offset κ slot_3) g

pub kind_of_numbered : (tet : List Vertex) (ids : List ℕ) → IsNumberedTet tet ids → HasKind tet
kind_of_numbered tet ids h = let k = numbered_kind tet ids h in subst (λ (vs : List Vertex). HasKind vs) (sym k.4) (kind_places k.0 k.1 k.2 k.3 k.5)

-- ---- weights with no sum

-- of weights that add up to 0, the sum of the places is 4096 times that of the vertices
no_base : (a b c d p q r s o : ℤ) → a +ℤ b +ℤ c +ℤ d ≡ pos 0
    → a *ℤ (o +ℤ pos 4096 *ℤ p) +ℤ b *ℤ (o +ℤ pos 4096 *ℤ q) +ℤ c *ℤ (o +ℤ pos 4096 *ℤ r) +ℤ d *ℤ (o +ℤ pos 4096 *ℤ s) ≡ pos 4096 *ℤ (a *ℤ p +ℤ b *ℤ q +ℤ c *ℤ r +ℤ d *ℤ s)
no_base a b c d p q r s o e =
    ring (a ∷ b ∷ c ∷ d ∷ p ∷ q ∷ r ∷ s ∷ o ∷ [])
    (plus (plus (plus (times (variable 0) (plus (variable 8) (times (constant (pos 4096)) (variable 4)))) (times (variable 1) (plus (variable 8) (times (constant (pos 4096)) (variable 5))))) (times (variable 2) (plus (variable 8) (times (constant (pos 4096)) (variable 6))))) (times (variable 3) (plus (variable 8) (times (constant (pos 4096)) (variable 7)))))
    (plus (times (plus (plus (plus (variable 0) (variable 1)) (variable 2)) (variable 3)) (variable 8)) (times (constant (pos 4096)) (plus (plus (plus (times (variable 0) (variable 4)) (times (variable 1) (variable 5))) (times (variable 2) (variable 6))) (times (variable 3) (variable 7))))) refl
    ∙ (λ i. e i *ℤ o +ℤ pos 4096 *ℤ (a *ℤ p +ℤ b *ℤ q +ℤ c *ℤ r +ℤ d *ℤ s))
    ∙ none o (pos 4096 *ℤ (a *ℤ p +ℤ b *ℤ q +ℤ c *ℤ r +ℤ d *ℤ s))
  where
    none : (o t : ℤ) → pos 0 *ℤ o +ℤ t ≡ t
    none o t = ring (o ∷ t ∷ []) (plus (times (constant (pos 0)) (variable 0)) (variable 1)) (variable 1) refl

module _ (tet : List Vertex) (k : HasKind tet) (w : Slot → ℤ) (none : sum4 w ≡ pos 0) where
  places_by_offsets : combination w (place_at_slot tet) ≡ pos 4096 *ᵥ combination w (offset k.kind)
  places_by_offsets =
      (λ i. combination w (λ s. k.places s i))
      ∙ (λ i. record {
        x = no_base (w slot_0) (w slot_1) (w slot_2) (w slot_3) (offset k.kind slot_0).x (offset k.kind slot_1).x (offset k.kind slot_2).x (offset k.kind slot_3).x (place_at_slot tet slot_0).x none i;
        y = no_base (w slot_0) (w slot_1) (w slot_2) (w slot_3) (offset k.kind slot_0).y (offset k.kind slot_1).y (offset k.kind slot_2).y (offset k.kind slot_3).y (place_at_slot tet slot_0).y none i;
        z = no_base (w slot_0) (w slot_1) (w slot_2) (w slot_3) (offset k.kind slot_0).z (offset k.kind slot_1).z (offset k.kind slot_2).z (offset k.kind slot_3).z (place_at_slot tet slot_0).z none i;
      })

  norm_scaled : (p : Vector) → norm (pos 4096 *ᵥ p) ≡ 4096 * norm p
  norm_scaled p = go p.x p.y p.z
    where
      go : (a b c : ℤ) → max (max (nat_abs (pos 4096 *ℤ a)) (nat_abs (pos 4096 *ℤ b))) (nat_abs (pos 4096 *ℤ c)) ≡ 4096 * max (max (nat_abs a) (nat_abs b)) (nat_abs c)
      go a b c =
          let e = unsigned_abs-mul (pos 4096) a in
          let f = unsigned_abs-mul (pos 4096) b in
          let g = unsigned_abs-mul (pos 4096) c in
          omega arith

  contracts : (d : Slot → Vector) → ((s : Slot) → norm (d s) ≤ 2047) → 4096 * norm (combination w d) ≤ 4094 * norm (combination w (place_at_slot tet))
  contracts d small =
      let c = contraction k.kind w d none small in
      let e = norm_scaled (combination w (offset k.kind)) in
      let f = ap norm places_by_offsets in
      omega arith

-- ---- the step

change_sum : (a b c d e f g h : ℤ) → a +ℤ b +ℤ c +ℤ d ≡ e +ℤ f +ℤ g +ℤ h → (e +ℤ neg_ℤ a) +ℤ (f +ℤ neg_ℤ b) +ℤ (g +ℤ neg_ℤ c) +ℤ (h +ℤ neg_ℤ d) ≡ pos 0
change_sum a b c d e f g h k = omega (arith, ints)

pub step_contracts : (tet : List Vertex) (ids : List ℕ) (states : List State) (from to : List ℤ) → IsNumberedTet tet ids → ((s : ℕ) → s < 4 → is_near_at states s) → sum4 (by_slot from) ≡ sum4 (by_slot to)
    → 4096 * norm (combination (changes from to) (displacement_at tet states)) ≤ 4094 * norm (combination (changes from to) (place_at_slot tet))
step_contracts tet ids states from to h near sums =
    contracts tet (kind_of_numbered tet ids h) (changes from to)
    (change_sum (by_slot from slot_0) (by_slot from slot_1) (by_slot from slot_2) (by_slot from slot_3) (by_slot to slot_0) (by_slot to slot_1) (by_slot to slot_2) (by_slot to slot_3) sums)
    (displacement_at tet states) (λ s. displacements_are_small (displacement_at tet states s) (near_states_are_displaced (slot tet (number_of_slot s)) (state_in states (number_of_slot s)) (near (number_of_slot s) (below_four s))))
  where
    below_four : (s : Slot) → number_of_slot s < 4
    below_four slot_0 = omega arith
    below_four s = omega arith
