-- Sorted sides: each place stands once among them, and those with the same nodes stand together.
use Rattle.std.proofs.Common.{◌≡◌, ◌≢◌, ◌⊎◌, inl, inr, ℕ, zero, suc, ◌%◌, ◌+◌, ◌-◌, ◌*◌, ◌/◌, ◌<◌, Some, None, Option, eqb, List, [], ◌∷◌, length, get_or, refl, sym, ap, ◌∙◌, subst, arith}
use Rattle.std.specs.Prelude.{All, Contains, count_by, IsPermutation}
use Rattle.std.specs.List.Sorted.{IsNonDecreasingBy}
use Rattle.std.proofs.lemmas.Bool.{ne_eqb, eq-eqb, cases_order}
use Rattle.std.proofs.lemmas.List.{get_or_default, get_or-replicate}
use Rattle.std.proofs.lemmas.List.Elements.{Contains-get_or}
use Rattle.std.proofs.lemmas.List.Sorted.{All-permutation, Contains-permutation, length_permutation, sum_by-IsPermutation}
use Rattle.face_neigh.specs.declared.side.Side.{Side}
use Rattle.face_neigh.specs.Sides.{IsSmall, key_of, side_of, sides}
use Rattle.face_neigh.specs.Pairs.{side_at, noted, none_noted, IsOther, NotesPairs}
use Rattle.face_neigh.proofs.Counts.{counts_two, counts_single}
use Rattle.face_neigh.proofs.Triples.{nodes_of, nodes_from_key, key_from_nodes}
use Rattle.face_neigh.proofs.Places.{IsFit, side, key, triangle_at, length_sides, side_is}

place_of_side : (p : ℕ) (x : List ℕ) → (side_of p x).place ≡ p
place_of_side p (a ∷ b ∷ c ∷ []) = refl
place_of_side p [] = refl
place_of_side p (a ∷ []) = refl
place_of_side p (a ∷ b ∷ []) = refl
place_of_side p (a ∷ b ∷ c ∷ d ∷ x) = refl

-- another triangle with the same nodes, and its tetrahedron
pub record IsPartner (tets : List (List ℕ)) (fit : IsFit tets) (p v : ℕ) : Type 0 where
  pub at : ℕ
  pub below : at < 4 * length tets
  pub other : at ≢ p
  pub same : key tets fit at ≡ key tets fit p
  pub tet : v ≡ at / 4

module _ (tets : List (List ℕ)) (fit : IsFit tets) where
  -- a side that stands at its place
  pub record IsSideOf (s : Side) : Type 0 where
    pub below : s.place < 4 * length tets
    pub is : s ≡ side tets fit s.place

  sides_are : All IsSideOf (sides tets)
  sides_are k d lt =
      let l = length_sides tets fit in
      let e = side_is tets fit k d (omega arith) in
      let pl : (get_or (sides tets) k d).place ≡ k = ap (λ (s : Side). s.place) e ∙ place_of_side k (triangle_at tets fit k) in
      record { below = omega arith; is = e ∙ ap (side tets fit) (sym pl) }

  module _ (sorted : List Side) (perm : IsPermutation (sides tets) sorted) (small : All IsSmall sorted) (rises : IsNonDecreasingBy key_of sorted) where
    pub length_sorted : length sorted ≡ 4 * length tets
    length_sorted = length_permutation (sides tets) sorted perm ∙ length_sides tets fit

    pub sorted_are : (k : ℕ) → k < 4 * length tets → IsSideOf (side_at sorted k)
    sorted_are k lt = let l = length_sorted in All-permutation IsSideOf (sides tets) sorted perm sides_are k _ (omega arith)

    key_at : (k : ℕ) → k < 4 * length tets → nodes_of (side_at sorted k) ≡ key tets fit (side_at sorted k).place
    key_at k lt = ap nodes_of ((sorted_are k lt).is)

    -- where a place stands
    stands : (p : ℕ) → p < 4 * length tets → (k : ℕ) × (k < 4 * length tets) × ((side_at sorted k).place ≡ p)
    stands p lt =
        let l = length_sides tets fit in
        let m = length_sorted in
        let d : Side = side tets fit p in
        let e = side_is tets fit p d lt in
        let h = Contains-permutation (sides tets) sorted d perm (subst (Contains (sides tets)) e (Contains-get_or (sides tets) p d (omega arith))) in
        let lk : h.0 < 4 * length tets = (let w = h.1 in omega arith) in
        let at : side_at sorted h.0 ≡ d = get_or_default sorted h.0 _ d h.1 ∙ h.2 in
        (h.0, lk, ap (λ (s : Side). s.place) at ∙ place_of_side p (triangle_at tets fit p))

    once : (p : ℕ) → p < 4 * length tets → count_by (λ (s : Side). eqb s.place p) sorted ≡ 1
    once p lt =
        let l = length_sides tets fit in
        let d : Side = side tets fit p in
        sum_by-IsPermutation _ (sides tets) sorted perm
        ∙ counts_single (λ (s : Side). eqb s.place p) (sides tets) p d (omega arith) (eq-eqb _ p (place_is p d lt)) (λ j e ne lj. ne_eqb _ p (λ z. ne (sym (place_is j e (omega arith)) ∙ z)))
      where
        place_is : (j : ℕ) (e : Side) → j < 4 * length tets → (get_or (sides tets) j e).place ≡ j
        place_is j e lj = ap (λ (s : Side). s.place) (side_is tets fit j e lj) ∙ place_of_side j (triangle_at tets fit j)

    -- no place stands twice
    pub places_differ : (j k : ℕ) → j < k → k < 4 * length tets → (side_at sorted j).place ≢ (side_at sorted k).place
    places_differ j k lt lk e =
        let m = length_sorted in
        let p = (side_at sorted k).place in
        let one = once p ((sorted_are k lk).below) in
        let two = counts_two (λ (s : Side). eqb s.place p) sorted j k _ lt (omega arith) (eq-eqb _ p e) (eq-eqb _ p refl) in
        absurd (omega arith)

    -- a place whose triangle has another with the same nodes stands beside one of them
    beside : (p q : ℕ) → p < 4 * length tets → q < 4 * length tets → p ≢ q → key tets fit p ≡ key tets fit q
        → (k : ℕ) × (k + 1 < 4 * length tets) × (key_of (side_at sorted k) ≡ key_of (side_at sorted (k + 1))) × (((side_at sorted k).place ≡ p) ⊎ ((side_at sorted (k + 1)).place ≡ p))
    beside p q lp lq ne e = between (stands p lp) (stands q lq)
      where
        between : (k : ℕ) × (k < 4 * length tets) × ((side_at sorted k).place ≡ p) → (k : ℕ) × (k < 4 * length tets) × ((side_at sorted k).place ≡ q)
            → (k : ℕ) × (k + 1 < 4 * length tets) × (key_of (side_at sorted k) ≡ key_of (side_at sorted (k + 1))) × (((side_at sorted k).place ≡ p) ⊎ ((side_at sorted (k + 1)).place ≡ p))
        between (i, li, ei) (j, lj, ej) =
            let m = length_sorted in
            let ki : nodes_of (side_at sorted i) ≡ key tets fit p = key_at i li ∙ ap (key tets fit) ei in
            let kj : nodes_of (side_at sorted j) ≡ key tets fit q = key_at j lj ∙ ap (key tets fit) ej in
            let kk : key_of (side_at sorted i) ≡ key_of (side_at sorted j) = key_from_nodes (side_at sorted i) (side_at sorted j) (ki ∙ (e ∙ sym kj)) in
            elim (cases_order i j) [
              | inl same ↦ absurd (ne (sym ei ∙ (ap (λ n. (side_at sorted n).place) same ∙ ej)))
              | inr o ↦ elim o [
                | inl lt ↦
                    (let a : i + 1 < 4 * length tets = omega arith in
                    let low = rises i (i + 1) (record { low = 0; middle = 0; high = 0; place = 0 }) (omega arith) (omega arith) in
                    let high = rises (i + 1) j (record { low = 0; middle = 0; high = 0; place = 0 }) (omega arith) (omega arith) in
                    let same : key_of (side_at sorted i) ≡ key_of (side_at sorted (i + 1)) = omega arith in
                    (i, a, same, inl ei))
                | inr gt ↦
                    (let b : i - 1 + 1 ≡ i = omega arith in
                    let a : i - 1 + 1 < 4 * length tets = omega arith in
                    let low = rises j (i - 1) (record { low = 0; middle = 0; high = 0; place = 0 }) (omega arith) (omega arith) in
                    let high = rises (i - 1) i (record { low = 0; middle = 0; high = 0; place = 0 }) (omega arith) (omega arith) in
                    let same : key_of (side_at sorted (i - 1)) ≡ key_of (side_at sorted i) = omega arith in
                    (i - 1, a, same ∙ ap (λ n. key_of (side_at sorted n)) (sym b), inr (ap (λ n. (side_at sorted n).place) b ∙ ei)))
              ]
            ]

    module _ (old found : List (List (Option ℕ))) (empty : (p : ℕ) → p < 4 * length tets → noted old p ≡ None) (notes : NotesPairs old found sorted (length sorted)) where
      -- what is noted is a partner
      pub noted_is : (p v : ℕ) → p < 4 * length tets → noted found p ≡ Some v → IsPartner tets fit p v
      noted_is p v lp e = elim (notes.right p v e) [ inl was ↦ absurd (never (sym was ∙ empty p lp)) | inr w ↦ of_pair w.0 (below w.0 w.1) w.2 ]
        where
          never : Some v ≡ None → ⊥
          never h = cc

          below : (k : ℕ) → k + 1 < length sorted → k + 1 < 4 * length tets
          below k lt = let m = length_sorted in omega arith

          of_pair : (k : ℕ) → k + 1 < 4 * length tets → IsOther (side_at sorted k) (side_at sorted (k + 1)) p v → IsPartner tets fit p v
          of_pair k lt (equal, who) =
              let m = length_sorted in
              let same : nodes_of (side_at sorted k) ≡ nodes_of (side_at sorted (k + 1)) = nodes_from_key (side_at sorted k) (side_at sorted (k + 1)) (small k _ (omega arith)) (small (k + 1) _ (omega arith)) equal in
              let apart = places_differ k (k + 1) (omega arith) lt in
              let ka = key_at k (omega arith) in
              let kb = key_at (k + 1) lt in
              elim who [
                | inl w ↦ record {
                  at = (side_at sorted (k + 1)).place;
                  below = (sorted_are (k + 1) lt).below;
                  other = λ z. apart (sym (z ∙ w.0));
                  same = sym kb ∙ (sym same ∙ (ka ∙ ap (key tets fit) (sym w.0)));
                  tet = w.1;
                }
                | inr w ↦ record {
                  at = (side_at sorted k).place;
                  below = (sorted_are k (omega arith)).below;
                  other = λ z. apart (z ∙ w.0);
                  same = sym ka ∙ (same ∙ (kb ∙ ap (key tets fit) (sym w.0)));
                  tet = w.1;
                }
              ]

      -- where there is a partner, something is noted
      pub is_noted : (p v : ℕ) → p < 4 * length tets → IsPartner tets fit p v → noted found p ≢ None
      is_noted p v lp h = at_pair (beside p h.at lp h.below (λ z. h.other (sym z)) (sym h.same))
        where
          at_pair : (k : ℕ) × (k + 1 < 4 * length tets) × (key_of (side_at sorted k) ≡ key_of (side_at sorted (k + 1))) × (((side_at sorted k).place ≡ p) ⊎ ((side_at sorted (k + 1)).place ≡ p)) → noted found p ≢ None
          at_pair (k, lt, same, who) =
              let m = length_sorted in
              let both = notes.both k (omega arith) same in
              elim who [
                | inl e ↦ subst (λ n. noted found n ≢ None) e both.0
                | inr e ↦ subst (λ n. noted found n ≢ None) e both.1
              ]

none_row : (t count : ℕ) → t < count → get_or (none_noted count) t [] ≡ None ∷ None ∷ None ∷ None ∷ []
none_row t count lt = get_or-replicate count t (None ∷ None ∷ None ∷ None ∷ []) [] lt

none_at : (i : ℕ) → get_or {A = Option ℕ} (None ∷ None ∷ None ∷ None ∷ []) i None ≡ None
none_at zero = refl
none_at (suc zero) = refl
none_at (suc (suc zero)) = refl
none_at (suc (suc (suc zero))) = refl
none_at (suc (suc (suc (suc i)))) = refl

-- nothing is noted where nothing is noted yet
pub nothing_noted : (count p : ℕ) → p < 4 * count → noted (none_noted count) p ≡ None
nothing_noted count p lt = ap (λ row. get_or row (3 - p % 4) None) (none_row (p / 4) count (omega arith)) ∙ none_at (3 - p % 4)

pub rows_of_none : (count t : ℕ) → t < count → length (get_or (none_noted count) t []) ≡ 4
rows_of_none count t lt = ap length (none_row t count lt)

-- each place is one of four of a tetrahedron
pub places_below : (tets : List (List ℕ)) (fit : IsFit tets) (sorted : List Side) → IsPermutation (sides tets) sorted → All (λ s. s.place / 4 < length tets) sorted
places_below tets fit sorted perm k d lt = let h = (All-permutation (IsSideOf tets fit) (sides tets) sorted perm (sides_are tets fit) k d lt).below in omega arith
