-- Each tetrahedron of the mesh has a volume above zero: its piece's nodes are rows' sums of the lattice vertices, and so are they with cuts at the middles.
use Rattle.std.specs.Prelude.{ℕ, zero, suc, ◌+◌, ◌*◌, ◌<◌, Bool, true, false, nat_lt, List, [], ◌∷◌, length, map, if◌then◌else◌, int_lt}
use Rattle.std.proofs.Common.{◌≡◌, refl, sym, ap, subst, ◌∙◌, arith, inl, inr, ◌⊎◌}
use Rattle.std.proofs.Math.IntN.{ℤ, pos, negsuc, ◌+ℤ◌, ◌*ℤ◌, neg_ℤ, nat_abs}
use Rattle.std.proofs.lemmas.Int.{ints}
use Rattle.std.proofs.lemmas.Bool.{ltb-true, and_parts}
use Rattle.std.proofs.lemmas.Bool.Decides.{nat_tests}
use Rattle.std.proofs.lemmas.List.{length-map}
use Rattle.std.proofs.lemmas.Simd.{map-map}
use lib.Signed.{◌<ℤ◌}
use borrow.Author.Differences.{below_in}
use Rattle.definitions.specs.declared.Vertex.{Vertex}
use Rattle.definitions.specs.declared.Place.{Place}
use Rattle.definitions.specs.declared.Sign.{Sign}
use Rattle.definitions.specs.declared.Sign.TheVariants.{Minus}
use Rattle.definitions.specs.declared.Corner.{Corner}
use Rattle.definitions.specs.declared.Corner.TheVariants.{Whole, Cut}
use Rattle.definitions.specs.declared.State.{State}
use Rattle.definitions.specs.declared.State.TheVariants as state
use Rattle.definitions.specs.Lattice.{in_domain, vertex}
use Rattle.definitions.specs.Values.{Field}
use Rattle.definitions.specs.States.{Shares, IsShares, state_of, sign_of_state}
use Rattle.definitions.specs.Stencils.{is_plus, sign_at}
use Rattle.definitions.specs.Pieces.{middle, oriented, slot}
use Rattle.definitions.specs.Vectors.{det, place_at}
use Rattle.definitions.specs.Mesh.{mesh}
use Rattle.definitions.specs.Soundness.{IsPositive}
use Rattle.exact.specs.Polynomials.{variable, constant, plus, times, negate, evaluate, value_at}
use Rattle.exact.specs.Determinants.{det3}
use Rattle.exact.specs.Dominance.{IsDominant}
use Rattle.exact.proofs.Ring.{ring}
use Rattle.exact.proofs.IntegerOrder.{factor_positive}
use Rattle.lattice_laws.specs.Ascending.{Has}
use Rattle.lattice_laws.specs.Vectors.{Vector, vector, origin, ◌+ᵥ◌, ◌*ᵥ◌}
use Rattle.lattice_laws.specs.Kinds.{Kind, Slot, slot_0, slot_1, slot_2, slot_3, slot_of, number_of_slot, vector_of}
use Rattle.lattice_laws.proofs.Volumes.{det_by_rows, det_swap}
use Rattle.moved_lattice.specs.WeightedSums.{sum4, combination, volume_of_four}
use Rattle.moved_lattice.specs.MovedMatrix.{others}
use Rattle.stencil_laws.specs.NodeRows.{cut_variable, in_column, moved_row, AreCutNumbers, entry_of, order_sign}
use Rattle.piece_laws.specs.Renaming.{vertex_at, signs_at}
use Rattle.piece_laws.specs.SignedVolumes.{kind_sign, lattice_place, piece_rows}
use Rattle.piece_laws.proofs.SignedVolumes.{pieces_have_signed_volumes}
use Rattle.displacement_laws.specs.Displacements.{displacement}
use Rattle.displacement_laws.specs.DisplacedRows.{displaced_row}
use Rattle.displacement_laws.proofs.DisplacedRows.{row_dominates, row_sum}
use Rattle.parent_laws.specs.Everywhere.{at_coordinates, sign_on, displacement_on, cut_on}
use Rattle.parent_laws.specs.Parents.{signs_of, node_number, Parent, from_padding, IsNodePlace}
use Rattle.displacement_laws.proofs.Displacements.{not_moved}
use Rattle.moved_lattice.proofs.WeightedVolumes.{scaled_volume}
use Rattle.parent_laws.proofs.Distances.{displacements}
use Rattle.parent_laws.proofs.Everywhere.{cuts_fit}
use Rattle.piece_laws.proofs.PiecesMeet.{in_slots, sign_four}
use Rattle.parent_laws.proofs.Nodes.{piece_is, nodes_stand_on_edges, parent_in_case}
use Rattle.parent_laws.proofs.Parents.{tets_have_parents}
use Rattle.lattice_laws.proofs.Sublists.{all_by_place}
use Rattle.stencil_laws.specs.Cases.{case_pieces}
use Rattle.sound_laws.specs.Laws.{TetsArePositive}
use Rattle.sound_laws.proofs.Values.{values_by, are_cut_numbers, cut_value, row_value}
use Rattle.sound_laws.proofs.Rows.{column, column_sum, column_place, sum_of_rows, place_of_rows, moved_place}
use Rattle.lattice_laws.proofs.Members.{all_from_members}
use Rattle.lattice_laws.proofs.Lists.{four_of}

-- ---- the rows of a node

-- the row of a node in 8192 parts
abbrev row_of : List ℤ → List Sign → Corner → Slot → ℤ
row_of r signs c j = evaluate r (moved_row signs c (number_of_slot j))

-- a place is the sum of the lattice vertices by the node's row
record HasRow (b : Vector) (κ : Kind) (r : List ℤ) (signs : List Sign) (c : Corner) (p : Vector) : Type 0 where
  sum : sum4 (row_of r signs c) ≡ pos 8192
  place : pos 8192 *ᵥ p ≡ combination (row_of r signs c) (lattice_place b κ)

-- two parts of an edge's ends, for 8192 times a place
twice : (k : ℤ) (p q l : Vector) → pos 4096 *ᵥ p ≡ (pos 4096 +ℤ neg_ℤ k) *ᵥ q +ᵥ k *ᵥ l → pos 8192 *ᵥ p ≡ (pos 2 *ℤ (pos 4096 +ℤ neg_ℤ k)) *ᵥ q +ᵥ (pos 2 *ℤ k) *ᵥ l
twice k p q l e = λ i. vector (go p.x q.x l.x (ap (λ (v : Vector). v.x) e) i) (go p.y q.y l.y (ap (λ (v : Vector). v.y) e) i) (go p.z q.z l.z (ap (λ (v : Vector). v.z) e) i)
  where
    go : (x y z : ℤ) → pos 4096 *ℤ x ≡ (pos 4096 +ℤ neg_ℤ k) *ℤ y +ℤ k *ℤ z → pos 8192 *ℤ x ≡ (pos 2 *ℤ (pos 4096 +ℤ neg_ℤ k)) *ℤ y +ℤ (pos 2 *ℤ k) *ℤ z
    go x y z h =
        ring (x ∷ []) (times (constant (pos 8192)) (variable 0)) (times (constant (pos 2)) (times (constant (pos 4096)) (variable 0))) refl
        ∙ (λ i. pos 2 *ℤ h i)
        ∙ ring (k ∷ y ∷ z ∷ []) (times (constant (pos 2)) (plus (times (plus (constant (pos 4096)) (negate (variable 0))) (variable 1)) (times (variable 0) (variable 2))))
        (plus (times (times (constant (pos 2)) (plus (constant (pos 4096)) (negate (variable 0)))) (variable 1)) (times (times (constant (pos 2)) (variable 0)) (variable 2))) refl

-- a cut's two columns add up to 8192
cut_total : (k : ℤ) → (pos 2 *ℤ (pos 4096 +ℤ neg_ℤ k)) +ℤ (pos 2 *ℤ k) ≡ pos 8192
cut_total k = ring (k ∷ []) (plus (times (constant (pos 2)) (plus (constant (pos 4096)) (negate (variable 0)))) (times (constant (pos 2)) (variable 0))) (constant (pos 8192)) refl

-- a cut whose number is k
cut_has_row : (b : Vector) (κ : Kind) (r : List ℤ) (signs : List Sign) (a c : ℕ) (k : ℤ) (p : Vector) → a < 4 → c < 4 → value_at r (cut_variable a c) ≡ k
    → pos 4096 *ᵥ p ≡ (pos 4096 +ℤ neg_ℤ k) *ᵥ lattice_place b κ (slot_of a) +ᵥ k *ᵥ lattice_place b κ (slot_of c) → HasRow b κ r signs (Cut a c) p
cut_has_row b κ r signs a c k p ha hc e h =
    let x = times (constant (pos 2)) (plus (constant (pos 4096)) (negate (variable (cut_variable a c)))) in
    let y = times (constant (pos 2)) (variable (cut_variable a c)) in
    record {
      sum = sum_of_rows (column r x a) (column r y c) ∙ (λ i. column_sum r x a ha i +ℤ column_sum r y c hc i) ∙ cut_total (value_at r (cut_variable a c));
      place =
          twice k p (lattice_place b κ (slot_of a)) (lattice_place b κ (slot_of c)) h
          ∙ (λ i. (pos 2 *ℤ (pos 4096 +ℤ neg_ℤ (sym e i))) *ᵥ lattice_place b κ (slot_of a) +ᵥ (pos 2 *ℤ sym e i) *ᵥ lattice_place b κ (slot_of c))
          ∙ sym (place_of_rows (column r x a) (column r y c) (lattice_place b κ) ∙ (λ i. column_place r x (lattice_place b κ) a ha i +ᵥ column_place r y (lattice_place b κ) c hc i));
    }

-- a vertex by its row of the matrix, or by one column where it is Plus
whole_has_row : (b : Vector) (κ : Kind) (r : List ℤ) (signs : List Sign) (a : ℕ) (p : Vector) → a < 4 → (is_plus (sign_at signs a) ≡ true → p ≡ lattice_place b κ (slot_of a))
    → (e : Slot → ℤ) → ((j : Slot) → entry_of r a (number_of_slot j) ≡ e j) → sum4 e ≡ pos 8192 → pos 8192 *ᵥ p ≡ combination e (lattice_place b κ) → HasRow b κ r signs (Whole a) p
whole_has_row b κ r signs a p ha plain e is_entry sum place = record { sum = sum_at (is_plus (sign_at signs a)); place = place_at' (is_plus (sign_at signs a)) refl }
  where
    sum_at : (t : Bool) → sum4 (λ j. evaluate r (if t then in_column (constant (pos 8192)) a (number_of_slot j) else variable (6 + 4 * a + number_of_slot j))) ≡ pos 8192
    sum_at true = column_sum r (constant (pos 8192)) a ha
    sum_at false = (λ i. sum4 (λ j. is_entry j i)) ∙ sum

    place_at' : (t : Bool) → is_plus (sign_at signs a) ≡ t
        → pos 8192 *ᵥ p ≡ combination (λ j. evaluate r (if t then in_column (constant (pos 8192)) a (number_of_slot j) else variable (6 + 4 * a + number_of_slot j))) (lattice_place b κ)
    place_at' true q = ap (λ v. pos 8192 *ᵥ v) (plain q) ∙ sym (column_place r (constant (pos 8192)) (lattice_place b κ) a ha)
    place_at' false q = place ∙ (λ i. combination (λ j. sym (is_entry j) i) (lattice_place b κ))

-- ---- volumes
det_is_volume : (a b c d : Vector) (n : Slot → Vector) → n slot_0 ≡ a → n slot_1 ≡ b → n slot_2 ≡ c → n slot_3 ≡ d → det (a ∷ b ∷ c ∷ d ∷ []) ≡ volume_of_four n
det_is_volume a b c d n ea eb ec ed =
    det_by_rows a b c d
    ∙ (λ i. det3 ((sym eb i).x +ℤ neg_ℤ (sym ea i).x) ((sym eb i).y +ℤ neg_ℤ (sym ea i).y) ((sym eb i).z +ℤ neg_ℤ (sym ea i).z) ((sym ec i).x +ℤ neg_ℤ (sym ea i).x) ((sym ec i).y +ℤ neg_ℤ (sym ea i).y) ((sym ec i).z +ℤ neg_ℤ (sym ea i).z)
    ((sym ed i).x +ℤ neg_ℤ (sym ea i).x) ((sym ed i).y +ℤ neg_ℤ (sym ea i).y) ((sym ed i).z +ℤ neg_ℤ (sym ea i).z))

-- a shift leaves volumes as they are
shifted_volume : (a b c d : Place) → det (from_padding a ∷ from_padding b ∷ from_padding c ∷ from_padding d ∷ []) ≡ det (a ∷ b ∷ c ∷ d ∷ [])
shifted_volume a b c d =
    det_by_rows (from_padding a) (from_padding b) (from_padding c) (from_padding d)
    ∙ (λ i. det3 (go b.x a.x i) (go b.y a.y i) (go b.z a.z i) (go c.x a.x i) (go c.y a.y i) (go c.z a.z i) (go d.x a.x i) (go d.y a.y i) (go d.z a.z i))
    ∙ sym (det_by_rows a b c d)
  where
    go : (x y : ℤ) → (x +ℤ pos 8192) +ℤ neg_ℤ (y +ℤ pos 8192) ≡ x +ℤ neg_ℤ y
    go x y = omega (arith, ints)

pulled : (z s d : ℤ) → z *ℤ (s *ℤ (s *ℤ (s *ℤ d))) ≡ s *ℤ (s *ℤ (s *ℤ (z *ℤ d)))
pulled z s d = ring (z ∷ s ∷ d ∷ []) (times (variable 0) (times (variable 1) (times (variable 1) (times (variable 1) (variable 2))))) (times (variable 1) (times (variable 1) (times (variable 1) (times (variable 0) (variable 2))))) refl

-- two numbers that have the sign of a third
same_side : (u d v : ℤ) → pos 0 <ℤ (u *ℤ d) → pos 0 <ℤ (u *ℤ v) → ((d <ℤ pos 0) × (v <ℤ pos 0)) ⊎ ((pos 0 <ℤ d) × (pos 0 <ℤ v))
same_side (pos zero) d v h k = absurd (none (pos 0 *ℤ d) (ring (d ∷ []) (times (constant (pos 0)) (variable 0)) (constant (pos 0)) refl) h)
  where
    none : (x : ℤ) → x ≡ pos 0 → pos 0 <ℤ x → ⊥
    none x e h = absurd (omega (arith, ints))
same_side (pos (suc n)) d v h k = inr (factor_positive (pos (suc n)) d 0 (below_in _ _ (omega arith)) h, factor_positive (pos (suc n)) v 0 (below_in _ _ (omega arith)) k)
same_side (negsuc n) d v h k = inl (down d h, down v k)
  where
    turned : (m x : ℤ) → neg_ℤ m *ℤ x ≡ m *ℤ neg_ℤ x
    turned m x = ring (m ∷ x ∷ []) (times (negate (variable 0)) (variable 1)) (times (variable 0) (negate (variable 1))) refl

    below : (x : ℤ) → pos 0 <ℤ neg_ℤ x → x <ℤ pos 0
    below x h = below_in _ _ (omega (arith, ints))

    down : (x : ℤ) → pos 0 <ℤ (negsuc n *ℤ x) → x <ℤ pos 0
    down x h = below x (factor_positive (pos (suc n)) (neg_ℤ x) 0 (below_in _ _ (omega arith)) (subst (λ (z : ℤ). pos 0 <ℤ z) (turned (pos (suc n)) x) h))

-- ---- a Plus vertex is not moved
plus_stands : (f : Field) (s : Shares) (u : Vector) → is_plus (sign_on f s u) ≡ true → displacement_on f s u ≡ origin
plus_stands f s u e = go u.x u.y u.z e
  where
    of_state : (v : Vertex) (t : State) → is_plus (sign_of_state t) ≡ true → displacement v t ≡ origin
    of_state v state.Minus e = cc
    of_state v state.Plus e = not_moved v state.Plus refl
    of_state v (state.Zero edge k) e = cc

    at : (v : Vertex) (b : Bool) → is_plus (if b then sign_of_state (state_of f s v) else Minus) ≡ true → (if b then displacement v (state_of f s v) else origin) ≡ origin
    at v true e = of_state v (state_of f s v) e
    at v false e = refl

    go : (x y z : ℤ) → is_plus (at_coordinates f.dims Minus (λ v. sign_of_state (state_of f s v)) x y z) ≡ true → at_coordinates f.dims origin (λ v. displacement v (state_of f s v)) x y z ≡ origin
    go (pos x) (pos y) (pos z) e = at (vertex z y x) (in_domain f.dims (vertex z y x)) e
    go (pos x) (pos y) (negsuc z) e = refl
    go (pos x) (negsuc y) z e = refl
    go (negsuc x) y z e = refl

-- no displacement on top of a place
pub onto_origin : (p q : Vector) → q ≡ origin → p +ᵥ q ≡ p
onto_origin p q e = (λ i. p +ᵥ e i) ∙ (λ i. vector (go p.x i) (go p.y i) (go p.z i))
  where
    go : (x : ℤ) → x +ℤ pos 0 ≡ x
    go x = omega (arith, ints)

-- ---- cuts at the middles, and no vertex moved
abbrev middles : ℕ → ℕ → ℤ
middles a c = pos 2048

abbrev unmoved_rows : ℕ → Slot → ℤ
unmoved_rows = column [] (constant (pos 8192))

abbrev unmoved : List ℤ
unmoved = values_by middles unmoved_rows

unmoved_are_numbers : AreCutNumbers unmoved
unmoved_are_numbers = are_cut_numbers middles unmoved_rows (λ a c. (below_in _ _ (omega arith), below_in _ _ (omega arith)))

unmoved_dominates : IsDominant (entry_of unmoved)
unmoved_dominates = (below_in _ _ (omega arith), below_in _ _ (omega arith), below_in _ _ (omega arith), below_in _ _ (omega arith))

-- ---- a lattice tetrahedron of a field
module _ (f : Field) (s : Shares) (ok : IsShares s) (b : Vector) (κ : Kind) where
  signs : List Sign
  signs = signs_at (sign_on f s) b κ

  abbrev shift : ℕ → Vector
  shift a = displacement_on f s (vertex_at b κ a)

  abbrev cuts : ℕ → ℕ → ℤ
  cuts a c = cut_on f (vertex_at b κ a) (vertex_at b κ c)

  abbrev rows : ℕ → Slot → ℤ
  rows a = displaced_row κ (slot_of a) (shift a)

  -- the numbers of the cuts and the matrix of the moved vertices
  abbrev values : List ℤ
  values = values_by cuts rows

  cuts_are_numbers : AreCutNumbers values
  cuts_are_numbers = are_cut_numbers cuts rows (λ a c. cuts_fit f (vertex_at b κ a) (vertex_at b κ c))

  dominates : IsDominant (entry_of values)
  dominates = (above 0, above 1, above 2, above 3)
    where
      above : (a : ℕ) → pos (others (slot_of a) (λ j. nat_abs (displaced_row κ (slot_of a) (shift a) j))) <ℤ displaced_row κ (slot_of a) (shift a) (slot_of a)
      above a = row_dominates κ (slot_of a) (shift a) (displacements f s ok (vertex_at b κ a))

  -- a node's place has its row
  node_has_row : (c : Corner) (p : Vector) → IsNodePlace f s b κ p c → HasRow b κ values signs c p
  unfolding signs
  node_has_row (Whole a) p h =
      whole_has_row b κ values signs a p h.0
      (λ e. h.1 ∙ onto_origin (lattice_place b κ (slot_of a)) (shift a) (plus_stands f s (vertex_at b κ a) (ap is_plus (sym (sign_four (λ n. sign_on f s (vertex_at b κ n)) a h.0)) ∙ e)))
      (displaced_row κ (slot_of a) (shift a)) (row_value cuts rows a h.0) (row_sum κ (slot_of a) (shift a))
      (ap (λ v. pos 8192 *ᵥ v) h.1 ∙ sym (moved_place b κ (slot_of a) (shift a)))
  node_has_row (Cut a c) p h = cut_has_row b κ values signs a c (cut_on f (vertex_at b κ a) (vertex_at b κ c)) p (omega arith) h.1 (cut_value cuts rows a c h.0 h.1) h.4

  -- ---- the same with cuts at the middles, and no vertex moved
  module _ (tet : List Vertex) (slots : (j : ℕ) → j < 4 → vector_of (slot tet j) ≡ vertex_at b κ j) where
    middle_has_row : (c : Corner) → in_slots c ≡ true → HasRow b κ unmoved signs c (pos 2048 *ᵥ middle tet c)
    middle_has_row (Whole a) e =
        let h = ltb-true a 4 e in
        let v = slot tet a in
        let stands : pos 2048 *ᵥ middle tet (Whole a) ≡ lattice_place b κ (slot_of a) = (λ i. vector (doubled v.x i) (doubled v.y i) (doubled v.h i)) ∙ ap (λ u. pos 4096 *ᵥ u) (slots a h) in
        whole_has_row b κ unmoved signs a (pos 2048 *ᵥ middle tet (Whole a)) h (λ q. stands) (unmoved_rows a) (row_value middles unmoved_rows a h) (column_sum [] (constant (pos 8192)) a h)
        (ap (λ u. pos 8192 *ᵥ u) stands ∙ sym (column_place [] (constant (pos 8192)) (lattice_place b κ) a h))
      where
        doubled : (n : ℕ) → pos 2048 *ℤ pos (2 * n) ≡ pos 4096 *ℤ pos n
        doubled n = omega (arith, ints)
    middle_has_row (Cut a c) e =
        let g = and_parts (nat_lt a c) (nat_lt c 4) e in
        let lt = ltb-true a c g.0 in
        let hc = ltb-true c 4 g.1 in
        let ha : a < 4 = omega arith in
        let v = slot tet a in
        let w = slot tet c in
        cut_has_row b κ unmoved signs a c (pos 2048) (pos 2048 *ᵥ middle tet (Cut a c)) ha hc (cut_value middles unmoved_rows a c lt hc)
        ((λ i. vector (halved v.x w.x i) (halved v.y w.y i) (halved v.h w.h i))
        ∙ (λ i. (pos 4096 +ℤ neg_ℤ (pos 2048)) *ᵥ (pos 4096 *ᵥ slots a ha i) +ᵥ pos 2048 *ᵥ (pos 4096 *ᵥ slots c hc i)))
      where
        halved : (m n : ℕ) → pos 4096 *ℤ (pos 2048 *ℤ pos (m + n)) ≡ ((pos 4096 +ℤ neg_ℤ (pos 2048)) *ℤ (pos 4096 *ℤ pos m)) +ℤ (pos 2048 *ℤ (pos 4096 *ℤ pos n))
        halved m n = omega (arith, ints)

-- ---- the sign of a piece's volume
abbrev four : {X : Type 0} → X → X → X → X → Slot → X
four a b c d slot_0 = a
four a b c d slot_1 = b
four a b c d slot_2 = c
four a b c d slot_3 = d

signed : (b : Vector) (κ : Kind) (r : List ℤ) (signs : List Sign) → length signs ≡ 4 → AreCutNumbers r → IsDominant (entry_of r) → (c0 c1 c2 c3 : Corner) → Has (c0 ∷ c1 ∷ c2 ∷ c3 ∷ []) (case_pieces signs) → (q0 q1 q2 q3 : Vector)
    → HasRow b κ r signs c0 q0 → HasRow b κ r signs c1 q1 → HasRow b κ r signs c2 q2 → HasRow b κ r signs c3 q3
    → pos 0 <ℤ ((order_sign signs (c0 ∷ c1 ∷ c2 ∷ c3 ∷ []) *ℤ kind_sign κ) *ℤ volume_of_four (four q0 q1 q2 q3))
signed b κ r signs len numbers dominant c0 c1 c2 c3 m q0 q1 q2 q3 h0 h1 h2 h3 = pieces_have_signed_volumes b κ r signs c0 c1 c2 c3 (four q0 q1 q2 q3) numbers dominant len m sums places
  where
    sums : (i : Slot) → sum4 (piece_rows r signs c0 c1 c2 c3 i) ≡ pos 8192
    sums slot_0 = h0.sum
    sums slot_1 = h1.sum
    sums slot_2 = h2.sum
    sums slot_3 = h3.sum

    places : (i : Slot) → pos 8192 *ᵥ four q0 q1 q2 q3 i ≡ combination (piece_rows r signs c0 c1 c2 c3 i) (lattice_place b κ)
    places slot_0 = h0.place
    places slot_1 = h1.place
    places slot_2 = h2.place
    places slot_3 = h3.place

is_below : (d : ℤ) → d <ℤ pos 0 → int_lt d (pos 0) ≡ true
is_below (pos n) h = absurd (omega (arith, ints))
is_below (negsuc n) h = refl

is_above : (d : ℤ) → pos 0 <ℤ d → int_lt d (pos 0) ≡ false
is_above (pos n) h = not_below n
  where
    not_below : (n : ℕ) → nat_lt n 0 ≡ false
    not_below n = grind (arith, nat_tests)
is_above (negsuc n) h = absurd (omega (arith, ints))

-- with its last two nodes swapped where the middles are below zero, the piece is above zero
oriented_volume : (tet : List Vertex) (g : Corner → Place) (c0 c1 c2 c3 : Corner) (u : ℤ)
    → pos 0 <ℤ (u *ℤ det (middle tet c0 ∷ middle tet c1 ∷ middle tet c2 ∷ middle tet c3 ∷ [])) → pos 0 <ℤ (u *ℤ det (g c0 ∷ g c1 ∷ g c2 ∷ g c3 ∷ []))
    → pos 0 <ℤ det (map g (oriented tet (c0 ∷ c1 ∷ c2 ∷ c3 ∷ [])))
unfolding oriented
oriented_volume tet g c0 c1 c2 c3 u h k = go (same_side u d v h k)
  where
    d : ℤ
    d = det (middle tet c0 ∷ middle tet c1 ∷ middle tet c2 ∷ middle tet c3 ∷ [])

    v : ℤ
    v = det (g c0 ∷ g c1 ∷ g c2 ∷ g c3 ∷ [])

    turned : (x y : ℤ) → y ≡ pos 0 +ℤ neg_ℤ x → x <ℤ pos 0 → pos 0 <ℤ y
    turned x y e h = below_in _ _ (omega (arith, ints))

    go : ((det (middle tet c0 ∷ middle tet c1 ∷ middle tet c2 ∷ middle tet c3 ∷ []) <ℤ pos 0) × (det (g c0 ∷ g c1 ∷ g c2 ∷ g c3 ∷ []) <ℤ pos 0))
        ⊎ ((pos 0 <ℤ det (middle tet c0 ∷ middle tet c1 ∷ middle tet c2 ∷ middle tet c3 ∷ [])) × (pos 0 <ℤ det (g c0 ∷ g c1 ∷ g c2 ∷ g c3 ∷ [])))
        → pos 0 <ℤ det (map g (if int_lt (det (middle tet c0 ∷ middle tet c1 ∷ middle tet c2 ∷ middle tet c3 ∷ [])) (pos 0) then c0 ∷ c1 ∷ c3 ∷ c2 ∷ [] else c0 ∷ c1 ∷ c2 ∷ c3 ∷ []))
    go (inl p) =
        subst (λ (b : Bool). pos 0 <ℤ det (map g (if b then c0 ∷ c1 ∷ c3 ∷ c2 ∷ [] else c0 ∷ c1 ∷ c2 ∷ c3 ∷ []))) (sym (is_below _ p.0))
        (turned (det (g c0 ∷ g c1 ∷ g c2 ∷ g c3 ∷ [])) (det (g c0 ∷ g c1 ∷ g c3 ∷ g c2 ∷ [])) (det_swap (g c0) (g c1) (g c2) (g c3)) p.1)
    go (inr p) = subst (λ (b : Bool). pos 0 <ℤ det (map g (if b then c0 ∷ c1 ∷ c3 ∷ c2 ∷ [] else c0 ∷ c1 ∷ c2 ∷ c3 ∷ []))) (sym (is_above _ p.0)) p.1

-- the middles' volume, from that of 2048 times as much
from_scaled : (u : ℤ) (m0 m1 m2 m3 : Vector) → pos 0 <ℤ (u *ℤ volume_of_four (four (pos 2048 *ᵥ m0) (pos 2048 *ᵥ m1) (pos 2048 *ᵥ m2) (pos 2048 *ᵥ m3))) → pos 0 <ℤ (u *ℤ det (m0 ∷ m1 ∷ m2 ∷ m3 ∷ []))
from_scaled u m0 m1 m2 m3 h =
    subst (λ (z : ℤ). pos 0 <ℤ (u *ℤ z)) (sym (det_is_volume m0 m1 m2 m3 (four m0 m1 m2 m3) refl refl refl refl))
    (down (u *ℤ volume_of_four (four m0 m1 m2 m3))
    (subst (λ (z : ℤ). pos 0 <ℤ z) (ap (λ z. u *ℤ z) (sym (scaled_volume (pos 2048) (four m0 m1 m2 m3))) ∙ pulled u (pos 2048) (volume_of_four (four m0 m1 m2 m3))) h))
  where
    down : (z : ℤ) → pos 0 <ℤ (pos 2048 *ℤ (pos 2048 *ℤ (pos 2048 *ℤ z))) → pos 0 <ℤ z
    down z h =
        factor_positive (pos 2048) z 0 above
        (factor_positive (pos 2048) (pos 2048 *ℤ z) 0 above
        (factor_positive (pos 2048) (pos 2048 *ℤ (pos 2048 *ℤ z)) 0 above h))
      where
        above : pos 0 <ℤ pos 2048
        above = below_in _ _ (omega arith)

from_shifted : (u : ℤ) (a b c d : Place) → pos 0 <ℤ (u *ℤ volume_of_four (four (from_padding a) (from_padding b) (from_padding c) (from_padding d))) → pos 0 <ℤ (u *ℤ det (a ∷ b ∷ c ∷ d ∷ []))
from_shifted u a b c d h =
    subst (λ (z : ℤ). pos 0 <ℤ (u *ℤ z)) (sym (det_is_volume (from_padding a) (from_padding b) (from_padding c) (from_padding d) (four (from_padding a) (from_padding b) (from_padding c) (from_padding d)) refl refl refl refl) ∙ shifted_volume a b c d) h

module _ (f : Field) (s : Shares) (ok : IsShares s) (t : List ℕ) (o : Parent f s t) where
  -- the place of a node
  abbrev node_place : Corner → Place
  node_place c = place_at (mesh f s).places (node_number f s o.tet c)

  four_positive : (c0 c1 c2 c3 : Corner) → o.piece ≡ c0 ∷ c1 ∷ c2 ∷ c3 ∷ [] → pos 0 <ℤ det (map node_place (oriented o.tet o.piece))
  unfolding signs
  four_positive c0 c1 c2 c3 e =
      let b = o.base in
      let κ = o.kind in
      let sg = signs_at (sign_on f s) b κ in
      let m : Has (c0 ∷ c1 ∷ c2 ∷ c3 ∷ []) (case_pieces sg) = subst (λ p. Has p (case_pieces sg)) e o.in_case in
      let i = parent_in_case f s t o in
      let p = piece_is (signs_of f s o.tet) o.piece (length-map o.tet (λ v. sign_of_state (state_of f s v)) ∙ o.lattice.four) i in
      let has : (c : Corner) → Has c (c0 ∷ c1 ∷ c2 ∷ c3 ∷ []) → Has c o.piece = λ c h. subst (Has c) (sym e) h in
      let row : (c : Corner) → Has c (c0 ∷ c1 ∷ c2 ∷ c3 ∷ []) → HasRow b κ (values f s ok b κ) sg c (from_padding (node_place c)) = λ c h. node_has_row f s ok b κ c (from_padding (node_place c)) (nodes_stand_on_edges f s t o c (has c h)) in
      let mid : (c : Corner) → Has c (c0 ∷ c1 ∷ c2 ∷ c3 ∷ []) → HasRow b κ unmoved sg c (pos 2048 *ᵥ middle o.tet c) = λ c h. middle_has_row f s ok b κ o.tet o.stands.slots c (p.nodes c (has c h)).0 in
      let u = order_sign sg (c0 ∷ c1 ∷ c2 ∷ c3 ∷ []) *ℤ kind_sign κ in
      subst (λ l. pos 0 <ℤ det (map node_place (oriented o.tet l))) (sym e)
      (oriented_volume o.tet node_place c0 c1 c2 c3 u
      (from_scaled u (middle o.tet c0) (middle o.tet c1) (middle o.tet c2) (middle o.tet c3)
      (signed b κ unmoved sg refl unmoved_are_numbers unmoved_dominates c0 c1 c2 c3 m (pos 2048 *ᵥ middle o.tet c0) (pos 2048 *ᵥ middle o.tet c1) (pos 2048 *ᵥ middle o.tet c2) (pos 2048 *ᵥ middle o.tet c3)
      (mid c0 (inl refl)) (mid c1 (inr (inl refl))) (mid c2 (inr (inr (inl refl)))) (mid c3 (inr (inr (inr (inl refl)))))))
      (from_shifted u (node_place c0) (node_place c1) (node_place c2) (node_place c3)
      (signed b κ (values f s ok b κ) sg refl (cuts_are_numbers f s ok b κ) (dominates f s ok b κ) c0 c1 c2 c3 m (from_padding (node_place c0)) (from_padding (node_place c1)) (from_padding (node_place c2)) (from_padding (node_place c3))
      (row c0 (inl refl)) (row c1 (inr (inl refl))) (row c2 (inr (inr (inl refl)))) (row c3 (inr (inr (inr (inl refl))))))))

  parent_positive : IsPositive (mesh f s).places t
  parent_positive =
      let i = parent_in_case f s t o in
      let p = piece_is (signs_of f s o.tet) o.piece (length-map o.tet (λ v. sign_of_state (state_of f s v)) ∙ o.lattice.four) i in
      let c = four_of o.piece p.four in
      subst (λ ps. pos 0 <ℤ det ps) (sym (ap (map (place_at (mesh f s).places)) o.nodes ∙ map-map (place_at (mesh f s).places) (node_number f s o.tet) (oriented o.tet o.piece)))
      (four_positive c.0 c.1 c.2 c.3 c.4)

pub tets_are_positive : TetsArePositive
tets_are_positive f s ok =
    all_by_place (IsPositive (mesh f s).places) (mesh f s).tets
    (all_from_members (IsPositive (mesh f s).places) (mesh f s).tets (λ t m. parent_positive f s ok t (tets_have_parents f s t m)))
