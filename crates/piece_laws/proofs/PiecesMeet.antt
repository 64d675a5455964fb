-- Pieces of two moved lattice tetrahedra meet in their common nodes alone.
use Rattle.std.specs.Prelude.{◌≡◌, ⊤, ℕ, zero, suc, ◌<◌, Bool, true, false, not, ◌&&◌, ◌||◌, ◌==◌, nat_lt, List, [], ◌∷◌, map}
use Rattle.std.specs.List.{list_all}
use Rattle.std.proofs.Common.{refl, sym, ap, subst, ◌∙◌, arith, inl, inr, ◌⊎◌}
use Rattle.std.proofs.Math.IntN.{ℤ, pos, negsuc, ◌+ℤ◌, ◌*ℤ◌, neg_ℤ, nat_abs}
use Rattle.std.proofs.lemmas.Int.{ints}
use Rattle.std.proofs.lemmas.Bool.{eqb-true, eq-eqb, ltb-true, and_parts, or_right}
use lib.Signed.{◌<ℤ◌, ◌≤ℤ◌}
use borrow.Author.Differences.{at_most_in, below_in}
use Rattle.definitions.specs.declared.Sign.{Sign}
use Rattle.definitions.specs.declared.Corner.{Corner}
use Rattle.definitions.specs.declared.Corner.TheVariants.{Whole, Cut}
use Rattle.definitions.specs.Stencils.{sign_at, same_corner, kept, facets}
use Rattle.definitions.specs.Facets.{fill}
use Rattle.exact.specs.Polynomials.{value_at}
use Rattle.exact.proofs.IntegerOrder.{sum_nonnegative, parts_zero, times_zero, size_of_nonnegative}
use Rattle.lattice_laws.specs.Ascending.{Has}
use Rattle.lattice_laws.specs.FiniteTests.{every_case}
use Rattle.lattice_laws.specs.Vectors.{Vector}
use Rattle.lattice_laws.specs.Kinds.{Kind, Slot, slot_of, number_of_slot}
use Rattle.lattice_laws.proofs.Lists.{all_at_member}
use Rattle.lattice_laws.proofs.FiniteTests.{case_at}
use Rattle.moved_lattice.specs.WeightedSums.{total_weight, AreSmall, IsLattice, vertex_of, Matches, has_none, same_vertex, moved_place}
use Rattle.moved_lattice.proofs.OneToOne.{moved_meet}
use Rattle.moved_lattice.proofs.VertexOrder.{ComesBefore, vertex_rising, in_order, same_slot, slot_of-number, number_of_slot-of}
use Rattle.stencil_laws.specs.Cases.{case_pieces, is_node_of, four_signs}
use Rattle.stencil_laws.specs.NodeRows.{cut_variable, AreCutNumbers}
use Rattle.stencil_laws.specs.Weights.{weighted_sum, weight_at, entry, SameVertexWeights, WeightsIn}
use Rattle.stencil_laws.proofs.Forms.{same_corner-itself}
use Rattle.stencil_laws.proofs.MeetingInATetrahedron.{has_plus_of, meet_in_tetrahedron}
use Rattle.piece_laws.specs.Renaming.{AreCuts, renamed, cuts_of, Shared, shared_whole, shared_cut, vertex_at, signs_at, lattice_weight, slot_weight}
use Rattle.piece_laws.specs.Laws.{MovedPiecesMeet}
use Rattle.piece_laws.proofs.Renaming.{only_if, WeightsShared, renamed_sum, gathered, cut_at, row_whole, row_cut}
use Rattle.piece_laws.proofs.CommonPiece.{choose}

-- ---- nodes of pieces
pub data IsProper : Corner → Type 0 where
  proper_whole : (a : ℕ) → a < 4 → IsProper (Whole a)
  proper_cut : (a b : ℕ) → a < b → b < 4 → IsProper (Cut a b)

-- the slots of a node are four, and those of a cut ascend
abbrev pub in_slots : Corner → Bool
in_slots (Whole a) = nat_lt a 4
in_slots (Cut a b) = nat_lt a b && nat_lt b 4

pub proper_from_test : (c : Corner) → in_slots c ≡ true → IsProper c
proper_from_test (Whole a) e = proper_whole a (ltb-true _ _ e)
proper_from_test (Cut a b) e = let f = and_parts (nat_lt a b) _ e in proper_cut a b (ltb-true _ _ f.0) (ltb-true _ _ f.1)

all_pieces_proper : every_case (λ x. list_all (list_all in_slots) (case_pieces x)) ≡ true
unfolding kept facets fill
all_pieces_proper = refl

abbrev pub AreProper : List Corner → Type 0
AreProper [] = ⊤
AreProper (c ∷ l) = IsProper c × AreProper l

all_proper : (l : List Corner) → list_all in_slots l ≡ true → AreProper l
all_proper [] e = tt
all_proper (c ∷ l) e = let f = and_parts (in_slots c) _ e in (proper_from_test c f.0, all_proper l f.1)

piece_is_proper : (a b c d : Sign) (q : List Corner) → Has q (case_pieces (four_signs a b c d)) → AreProper q
piece_is_proper a b c d q i = all_proper q (all_at_member (list_all in_slots) (case_pieces (four_signs a b c d)) q (case_at (λ x. list_all (list_all in_slots) (case_pieces x)) all_pieces_proper a b c d) i)

-- ---- parts that are chosen, sums and products
only_if_nonneg : (b : Bool) (x : ℤ) → pos 0 <ℤ x → pos 0 ≤ℤ only_if b x
only_if_nonneg true x h = at_most_in _ _ (omega (arith, ints))
only_if_nonneg false x h = at_most_in _ _ (omega arith)

rest_positive : (x : ℤ) → x <ℤ pos 4096 → pos 0 <ℤ (pos 4096 +ℤ neg_ℤ x)
rest_positive x h = below_in _ _ (omega (arith, ints))

only_if_itself : (a : ℕ) (x : ℤ) → only_if (a == a) x ≡ x
only_if_itself a x = ap (λ b. only_if b x) (eq-eqb a a refl)

pub above_left : (x y : ℤ) → pos 0 <ℤ x → pos 0 ≤ℤ y → pos 0 <ℤ (x +ℤ y)
above_left x y h i = below_in _ _ (omega (arith, ints))

pub above_right : (x y : ℤ) → pos 0 ≤ℤ x → pos 0 <ℤ y → pos 0 <ℤ (x +ℤ y)
above_right x y h i = below_in _ _ (omega (arith, ints))

pub times_nonneg : (w : ℕ) (x : ℤ) → pos 0 ≤ℤ x → pos 0 ≤ℤ (pos w *ℤ x)
times_nonneg w (pos n) h = at_most_in _ _ (omega arith)
times_nonneg w (negsuc n) h = absurd h.le

-- ---- entries are at least 0, and above 0 in a node's own columns
module _ (cut : Vector → Vector → ℤ) (fits : AreCuts cut) (u : ℕ → Vector) where
  cut_fits : (a b : ℕ) → a < b → b < 4 → (pos 0 <ℤ value_at (cuts_of cut u) (cut_variable a b)) × (value_at (cuts_of cut u) (cut_variable a b) <ℤ pos 4096)
  cut_fits a b h i = subst (λ (x : ℤ). (pos 0 <ℤ x) × (x <ℤ pos 4096)) (sym (cut_at cut u a b h i)) (fits (u a) (u b))

  pub entry_nonneg : (j : ℕ) (c : Corner) → IsProper c → pos 0 ≤ℤ entry (cuts_of cut u) j c
  entry_nonneg j c (proper_whole a h) = subst (λ (x : ℤ). pos 0 ≤ℤ x) (sym (row_whole (cuts_of cut u) j a)) (only_if_nonneg (a == j) (pos 4096) (below_in _ _ (omega arith)))
  entry_nonneg j c (proper_cut a b lt h) =
      let f = cut_fits a b lt h in
      subst (λ (x : ℤ). pos 0 ≤ℤ x) (sym (row_cut (cuts_of cut u) j a b)) (sum_nonnegative _ _ (only_if_nonneg (a == j) (pos 4096 +ℤ neg_ℤ (value_at (cuts_of cut u) (cut_variable a b))) (rest_positive _ f.1)) (only_if_nonneg (b == j) (value_at (cuts_of cut u) (cut_variable a b)) f.0))

  pub entry_whole : (a : ℕ) → pos 0 <ℤ entry (cuts_of cut u) a (Whole a)
  entry_whole a = subst (λ (x : ℤ). pos 0 <ℤ x) (sym (row_whole (cuts_of cut u) a a ∙ only_if_itself a (pos 4096))) (below_in _ _ (omega arith))

  pub entry_first : (a b : ℕ) → a < b → b < 4 → pos 0 <ℤ entry (cuts_of cut u) a (Cut a b)
  entry_first a b lt h =
      let f = cut_fits a b lt h in
      subst (λ (x : ℤ). pos 0 <ℤ x) (sym (row_cut (cuts_of cut u) a a b)) (above_left _ _ (subst (λ (x : ℤ). pos 0 <ℤ x) (sym (only_if_itself a (pos 4096 +ℤ neg_ℤ (value_at (cuts_of cut u) (cut_variable a b))))) (rest_positive _ f.1)) (only_if_nonneg (b == a) (value_at (cuts_of cut u) (cut_variable a b)) f.0))

  pub entry_second : (a b : ℕ) → a < b → b < 4 → pos 0 <ℤ entry (cuts_of cut u) b (Cut a b)
  entry_second a b lt h =
      let f = cut_fits a b lt h in
      subst (λ (x : ℤ). pos 0 <ℤ x) (sym (row_cut (cuts_of cut u) b a b)) (above_right _ _ (only_if_nonneg (a == b) (pos 4096 +ℤ neg_ℤ (value_at (cuts_of cut u) (cut_variable a b))) (rest_positive _ f.1)) (subst (λ (x : ℤ). pos 0 <ℤ x) (sym (only_if_itself b (value_at (cuts_of cut u) (cut_variable a b)))) f.0))

  pub sum_nonneg : (j : ℕ) (ws : List ℕ) (l : List Corner) → AreProper l → pos 0 ≤ℤ weighted_sum ws l (entry (cuts_of cut u) j)
  sum_nonneg j [] l h = at_most_in _ _ (omega arith)
  sum_nonneg j (w ∷ ws) [] h = at_most_in _ _ (omega arith)
  sum_nonneg j (w ∷ ws) (c ∷ l) h = sum_nonnegative _ _ (times_nonneg w _ (entry_nonneg j c h.0)) (sum_nonneg j ws l h.1)

  -- where a vertex has no weight, nodes with that column have none
  abbrev NoneAt : ℕ → List ℕ → List Corner → Type 0
  NoneAt j [] l = ⊤
  NoneAt j (w ∷ ws) [] = ⊤
  NoneAt j (w ∷ ws) (c ∷ l) = (pos 0 <ℤ entry (cuts_of cut u) j c → w ≡ 0) × NoneAt j ws l

  none_at : (j : ℕ) (ws : List ℕ) (l : List Corner) → AreProper l → weighted_sum ws l (entry (cuts_of cut u) j) ≤ℤ pos 0 → NoneAt j ws l
  none_at j [] l h e = tt
  none_at j (w ∷ ws) [] h e = tt
  none_at j (w ∷ ws) (c ∷ l) h e =
      let s = parts_zero _ _ (times_nonneg w _ (entry_nonneg j c h.0)) (sum_nonneg j ws l h.1) e in
      ((λ p. times_zero w _ p s.0), none_at j ws l h.1 s.1)

  shared_all : (is_weighted : ℕ → Bool) (ws : List ℕ) (l : List Corner) → AreProper l → ((j : ℕ) → j < 4 → is_weighted j ≡ false → NoneAt j ws l) → WeightsShared is_weighted ws l
  shared_all is_weighted [] l h f = tt
  shared_all is_weighted (w ∷ ws) [] h f = tt
  shared_all is_weighted (w ∷ ws) (c ∷ l) h f = (go c h.0 (λ j i e. (f j i e).0), shared_all is_weighted ws l h.1 (λ j i e. (f j i e).1))
    where
      go : (c : Corner) → IsProper c → ((j : ℕ) → j < 4 → is_weighted j ≡ false → pos 0 <ℤ entry (cuts_of cut u) j c → w ≡ 0) → (w ≡ 0) ⊎ Shared is_weighted c
      go c (proper_whole a h) g = one (is_weighted a) refl
        where
          one : (b : Bool) → is_weighted a ≡ b → (w ≡ 0) ⊎ Shared is_weighted (Whole a)
          one true e = inr (shared_whole a h e)
          one false e = inl (g a h e (entry_whole a))
      go c (proper_cut a b lt h) g = two (is_weighted a) (is_weighted b) refl refl
        where
          two : (p q : Bool) → is_weighted a ≡ p → is_weighted b ≡ q → (w ≡ 0) ⊎ Shared is_weighted (Cut a b)
          two true true e f = inr (shared_cut a b lt h e f)
          two false q e f = inl (g a (omega arith) e (entry_first a b lt h))
          two true false e f = inl (g b h f (entry_second a b lt h))

  valid : AreCutNumbers (cuts_of cut u)
  valid zero h = fits (u 0) (u 1)
  valid (suc zero) h = fits (u 0) (u 2)
  valid (suc (suc zero)) h = fits (u 0) (u 3)
  valid (suc (suc (suc zero))) h = fits (u 1) (u 2)
  valid (suc (suc (suc (suc zero)))) h = fits (u 1) (u 3)
  valid (suc (suc (suc (suc (suc zero))))) h = fits (u 2) (u 3)
  valid (suc (suc (suc (suc (suc (suc i)))))) h = absurd (omega arith)

-- four signs by their slots
pub sign_four : (f : ℕ → Sign) (s : ℕ) → s < 4 → sign_at (four_signs (f 0) (f 1) (f 2) (f 3)) s ≡ f s
sign_four f zero h = refl
sign_four f (suc zero) h = refl
sign_four f (suc (suc zero)) h = refl
sign_four f (suc (suc (suc zero))) h = refl
sign_four f (suc (suc (suc (suc s)))) h = absurd (omega arith)

-- ---- pieces of two moved lattice tetrahedra
module _ (d : Vector → Vector) (small : AreSmall d) (sign : Vector → Sign) (cut : Vector → Vector → ℤ) (fits : AreCuts cut) where
  abbrev pub matched_slot : (b : Vector) (κ : Kind) (w : Slot → ℕ) (w' : Slot → ℕ) (v : Vector) (n : ℕ) → Matches w' κ b w v n → ℕ
  matched_slot b κ w w' v n (has_none e) = 0
  matched_slot b κ w w' v n (same_vertex i e m) = number_of_slot i

  module _ (b : Vector) (κ : Kind) (b' : Vector) (κ' : Kind) (lb : IsLattice b) (lb' : IsLattice b') (p q : List Corner)
      (ip : Has p (case_pieces (signs_at sign b κ))) (iq : Has q (case_pieces (signs_at sign b' κ'))) (wa wb : List ℕ)
      (total : total_weight (slot_weight cut b κ wa p) ≡ total_weight (slot_weight cut b' κ' wb q))
      (place : moved_place d b κ (slot_weight cut b κ wa p) ≡ moved_place d b' κ' (slot_weight cut b' κ' wb q)) where
    abbrev pub is_weighted : ℕ → Bool
    is_weighted s = not (nat_abs (lattice_weight cut b' κ' wb q s) == 0)

    pub back : (i : Slot) → Matches (slot_weight cut b' κ' wb q) κ b (slot_weight cut b κ wa p) (vertex_of b' κ' i) (slot_weight cut b' κ' wb q i)
    back i = moved_meet d small b' κ' (slot_weight cut b' κ' wb q) b κ (slot_weight cut b κ wa p) lb' lb (sym total) (sym place) i

    forth : (i : Slot) → Matches (slot_weight cut b κ wa p) κ' b' (slot_weight cut b' κ' wb q) (vertex_of b κ i) (slot_weight cut b κ wa p i)
    forth i = moved_meet d small b κ (slot_weight cut b κ wa p) b' κ' (slot_weight cut b' κ' wb q) lb lb' total place i

    abbrev pub μ : ℕ → ℕ
    μ s = matched_slot b κ (slot_weight cut b κ wa p) (slot_weight cut b' κ' wb q) (vertex_at b' κ' s) (slot_weight cut b' κ' wb q (slot_of s)) (back (slot_of s))

    proper_p : AreProper p
    proper_p = piece_is_proper (sign (vertex_at b κ 0)) (sign (vertex_at b κ 1)) (sign (vertex_at b κ 2)) (sign (vertex_at b κ 3)) p ip

    proper_q : AreProper q
    proper_q = piece_is_proper (sign (vertex_at b' κ' 0)) (sign (vertex_at b' κ' 1)) (sign (vertex_at b' κ' 2)) (sign (vertex_at b' κ' 3)) q iq

    is_abs : (j : ℕ) → pos (nat_abs (lattice_weight cut b κ wa p j)) ≡ lattice_weight cut b κ wa p j
    is_abs j = size_of_nonnegative (lattice_weight cut b κ wa p j) (sum_nonneg cut fits (vertex_at b κ) j wa p proper_p)

    is_abs' : (s : ℕ) → pos (nat_abs (lattice_weight cut b' κ' wb q s)) ≡ lattice_weight cut b' κ' wb q s
    is_abs' s = size_of_nonnegative (lattice_weight cut b' κ' wb q s) (sum_nonneg cut fits (vertex_at b' κ') s wb q proper_q)

    not_zero : (n : ℕ) → not (n == 0) ≡ true → n ≡ 0 → ⊥
    not_zero n e f = let g = eq-eqb n 0 f in go (n == 0) g e
      where
        go : (t : Bool) → t ≡ true → not t ≡ true → ⊥
        go true g e = cc
        go false g e = cc

    is_zero : (n : ℕ) → not (n == 0) ≡ false → n ≡ 0
    is_zero n e = go (n == 0) refl e
      where
        go : (t : Bool) → (n == 0) ≡ t → not t ≡ false → n ≡ 0
        go true g e = eqb-true n 0 g
        go false g e = cc

    facts : (s : ℕ) → s < 4 → is_weighted s ≡ true → (m : Matches (slot_weight cut b' κ' wb q) κ b (slot_weight cut b κ wa p) (vertex_at b' κ' s) (slot_weight cut b' κ' wb q (slot_of s)))
        → (matched_slot b κ (slot_weight cut b κ wa p) (slot_weight cut b' κ' wb q) (vertex_at b' κ' s) (slot_weight cut b' κ' wb q (slot_of s)) m < 4)
        × (vertex_at b' κ' s ≡ vertex_at b κ (matched_slot b κ (slot_weight cut b κ wa p) (slot_weight cut b' κ' wb q) (vertex_at b' κ' s) (slot_weight cut b' κ' wb q (slot_of s)) m))
        × (lattice_weight cut b' κ' wb q s ≡ lattice_weight cut b κ wa p (matched_slot b κ (slot_weight cut b κ wa p) (slot_weight cut b' κ' wb q) (vertex_at b' κ' s) (slot_weight cut b' κ' wb q (slot_of s)) m))
    facts s h e (has_none z) = absurd (not_zero (nat_abs (lattice_weight cut b' κ' wb q s)) e (ap (λ n. nat_abs (lattice_weight cut b' κ' wb q n)) (sym (number_of_slot-of s h)) ∙ z))
    facts s h e (same_vertex i f m) = (
      (slot_of-number i).1,
      f ∙ ap (vertex_of b κ) (sym (slot_of-number i).0),
      sym (is_abs' s) ∙ ap pos (ap (λ n. nat_abs (lattice_weight cut b' κ' wb q n)) (sym (number_of_slot-of s h)) ∙ m) ∙ is_abs (number_of_slot i),
    )

    into : (s : ℕ) → s < 4 → is_weighted s ≡ true → (μ s < 4) × (vertex_at b' κ' s ≡ vertex_at b κ (μ s))
    into s h e = let f = facts s h e (back (slot_of s)) in (f.0, f.1)

    alike : (s : ℕ) → s < 4 → is_weighted s ≡ true → lattice_weight cut b' κ' wb q s ≡ lattice_weight cut b κ wa p (μ s)
    alike s h e = (facts s h e (back (slot_of s))).2

    no_weight : (s : ℕ) → s < 4 → is_weighted s ≡ false → lattice_weight cut b' κ' wb q s ≡ pos 0
    no_weight s h e = sym (is_abs' s) ∙ ap pos (is_zero (nat_abs (lattice_weight cut b' κ' wb q s)) e)

    rising : (s t : ℕ) → s < t → t < 4 → is_weighted s ≡ true → is_weighted t ≡ true → μ s < μ t
    rising s t lt h es et =
        let a = into s (omega arith) es in
        let c = into t h et in
        in_order b κ (μ s) (μ t) a.0 c.0 (subst (λ (v : Vector). ComesBefore (vertex_at b κ (μ s)) v) c.1 (subst (λ (v : Vector). ComesBefore v (vertex_at b' κ' t)) a.1 (vertex_rising b' κ' s t lt h)))

    from : (j : ℕ) → j < 4 → (lattice_weight cut b κ wa p j ≡ pos 0) ⊎ ((s : ℕ) × (s < 4) × (is_weighted s ≡ true) × (μ s ≡ j))
    from j h = go (forth (slot_of j))
      where
        zero_at : slot_weight cut b κ wa p (slot_of j) ≡ 0 → lattice_weight cut b κ wa p j ≡ pos 0
        zero_at z = sym (is_abs j) ∙ ap pos (ap (λ n. nat_abs (lattice_weight cut b κ wa p n)) (sym (number_of_slot-of j h)) ∙ z)

        go : Matches (slot_weight cut b κ wa p) κ' b' (slot_weight cut b' κ' wb q) (vertex_of b κ (slot_of j)) (slot_weight cut b κ wa p (slot_of j)) → (lattice_weight cut b κ wa p j ≡ pos 0) ⊎ ((s : ℕ) × (s < 4) × (is_weighted s ≡ true) × (μ s ≡ j))
        go (has_none z) = inl (zero_at z)
        go (same_vertex i f m) = two (is_weighted (number_of_slot i)) refl
          where
            two : (t : Bool) → is_weighted (number_of_slot i) ≡ t → (lattice_weight cut b κ wa p j ≡ pos 0) ⊎ ((s : ℕ) × (s < 4) × (is_weighted s ≡ true) × (μ s ≡ j))
            two true e =
                let g = into (number_of_slot i) (slot_of-number i).1 e in
                inr (number_of_slot i, (slot_of-number i).1, e, same_slot b κ (μ (number_of_slot i)) j g.0 h (sym g.1 ∙ ap (vertex_of b' κ') (slot_of-number i).0 ∙ sym f))
            two false e = inl (zero_at (m ∙ is_zero (nat_abs (lattice_weight cut b' κ' wb q (number_of_slot i))) e))

    sames : (s : ℕ) → s < 4 → is_weighted s ≡ true → sign_at (signs_at sign b' κ') s ≡ sign_at (signs_at sign b κ) (μ s)
    sames s h e =
        let g = into s h e in
        sign_four (λ n. sign (vertex_at b' κ' n)) s h ∙ ap sign g.1 ∙ sym (sign_four (λ n. sign (vertex_at b κ n)) (μ s) g.0)

    at_most_zero : (x : ℤ) → x ≡ pos 0 → x ≤ℤ pos 0
    at_most_zero x e = at_most_in _ _ (omega (arith, ints))

    shared : WeightsShared is_weighted wb q
    shared = shared_all cut fits (vertex_at b' κ') is_weighted wb q proper_q (λ j h e. none_at cut fits (vertex_at b' κ') j wb q proper_q (at_most_zero _ (no_weight j h e)))

    agree : SameVertexWeights (cuts_of cut (vertex_at b κ)) wa p wb (map (renamed μ) q)
    agree j h =
        sym (renamed_sum cut (vertex_at b κ) (vertex_at b' κ') μ is_weighted into rising j wb q shared
        ∙ gathered cut (vertex_at b κ) (vertex_at b' κ') μ is_weighted into rising (λ j. lattice_weight cut b κ wa p j) (λ s. lattice_weight cut b' κ' wb q s) no_weight alike from j h)

    weights_in : (r : List Corner) → ((c : Corner) → is_node_of q c ≡ true → Shared is_weighted c → is_node_of r (renamed μ c) ≡ true) → (ws : List ℕ) (l : List Corner) → ((c : Corner) → is_node_of l c ≡ true → is_node_of q c ≡ true) → WeightsShared is_weighted ws l → WeightsIn r ws (map (renamed μ) l)
    weights_in r f [] [] sub h = tt
    weights_in r f [] (c ∷ l) sub h = tt
    weights_in r f (w ∷ ws) [] sub h = tt
    weights_in r f (w ∷ ws) (c ∷ l) sub h = (go h.0, weights_in r f ws l (λ d i. sub d (or_right (same_corner d c) (is_node_of l d) i)) h.1)
      where
        go : (w ≡ 0) ⊎ Shared is_weighted c → (w ≡ 0) ⊎ (is_node_of r (renamed μ c) ≡ true)
        go (inl z) = inl z
        go (inr sh) = inr (f c (sub c (ap (λ t. t || is_node_of l c) (same_corner-itself c))) sh)

    -- the theorem: equal moved places have equal weights at every node of the first, the second's nodes being written as nodes of the first
    pub pieces_meet : (e : Corner) → weight_at p wa e ≡ weight_at (map (renamed μ) q) wb e
    pieces_meet = go (choose (sign (vertex_at b κ 0)) (sign (vertex_at b κ 1)) (sign (vertex_at b κ 2)) (sign (vertex_at b κ 3)) (sign (vertex_at b' κ' 0)) (sign (vertex_at b' κ' 1)) (sign (vertex_at b' κ' 2)) (sign (vertex_at b' κ' 3)) μ is_weighted (λ s h e. (into s h e).0) rising sames (has_plus_of (sign (vertex_at b κ 0)) (sign (vertex_at b κ 1)) (sign (vertex_at b κ 2)) (sign (vertex_at b κ 3)) p ip) p q ip iq)
      where
        go : (r : List Corner) × Has r (case_pieces (signs_at sign b κ)) × ((c : Corner) → is_node_of q c ≡ true → Shared is_weighted c → is_node_of r (renamed μ c) ≡ true) → (e : Corner) → weight_at p wa e ≡ weight_at (map (renamed μ) q) wb e
        go r = meet_in_tetrahedron (sign (vertex_at b κ 0)) (sign (vertex_at b κ 1)) (sign (vertex_at b κ 2)) (sign (vertex_at b κ 3)) (cuts_of cut (vertex_at b κ)) wa p r.0 wb (map (renamed μ) q) (valid cut fits (vertex_at b κ)) ip r.1 (weights_in r.0 r.2 wb q (λ c i. i) shared) agree

-- the law
pub moved_pieces_meet : MovedPiecesMeet
moved_pieces_meet d small sign cut fits b κ b' κ' lb lb' p q ip iq wa wb total place = record {
  slots = μ d small sign cut fits b κ b' κ' lb lb' p q ip iq wa wb total place;
  into = λ s h e. into d small sign cut fits b κ b' κ' lb lb' p q ip iq wa wb total place s h (not_test (nat_abs (lattice_weight cut b' κ' wb q s)) e);
  weights = pieces_meet d small sign cut fits b κ b' κ' lb lb' p q ip iq wa wb total place;
}
  where
    not_test : (n : ℕ) → (n ≡ 0 → ⊥) → not (n == 0) ≡ true
    not_test n h = go (n == 0) refl
      where
        go : (t : Bool) → (n == 0) ≡ t → not t ≡ true
        go true e = absurd (h (eqb-true n 0 e))
        go false e = refl
