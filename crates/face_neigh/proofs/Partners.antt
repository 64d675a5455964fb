-- The neighbour of a tetrahedron is the one of the other triangle with the same nodes, and there is none at a boundary triangle.
use Rattle.std.proofs.Common.{◌≡◌, ◌≢◌, ◌⊎◌, inl, inr, ℕ, zero, suc, ◌+◌, ◌-◌, ◌*◌, ◌/◌, ◌%◌, ◌<◌, ◌≤◌, Bool, true, false, not, eqb, Some, None, Option, List, [], ◌∷◌, length, map, get_or, refl, sym, ap, ◌∙◌, subst, arith}
use Rattle.std.specs.Prelude.{All, Contains, filter, find, IsPermutation}
use Rattle.std.specs.List.Sorted.{IsNonDecreasingBy}
use Rattle.std.specs.List.{list_any, range_with_len}
use Rattle.std.proofs.lemmas.Bool.{ne_eqb, eq-eqb, eqb-true, eqb-false, not-true, not_from_false, and_parts, and_from, or_left, or_right, cases_Bool, false≢true, false_from_ne_true, cond-true, cond-false, cases_eq, cases_lt}
use Rattle.std.proofs.lemmas.List.{get_or_default}
use Rattle.std.proofs.lemmas.List.Elements.{All-contains, filter_passes}
use Rattle.definitions.specs.Soundness.{same_nodes, triangles_of, all_triangles, tets_at_triangle, boundary}
use Rattle.adjacency.specs.Neighbours.{triangle_without, has_triangle, is_across, neighbour, neighbours}
use Rattle.adjacency.specs.Laws.{AreMutual, EndsAtBoundary}
use Rattle.std.proofs.lemmas.List.FromFn.{fill_by_all}
use Rattle.list_words.proofs.Lists.{place_where}
use Rattle.face_neigh.specs.declared.side.Side.{Side}
use Rattle.face_neigh.specs.Sides.{IsSmall, key_of, sides}
use Rattle.face_neigh.specs.Pairs.{noted, none_noted, NotesPairs}
use Rattle.face_neigh.proofs.Counts.{counts_two, counts_single}
use Rattle.face_neigh.proofs.SideLists.{length-triangles_of}
use Rattle.face_neigh.proofs.Places.{IsFit, triangle_at, triangle_of_tet, length_all, key_from_same, same_from_key, no_three, tets_differ}
use Rattle.face_neigh.proofs.Sorted.{IsPartner, noted_is, is_noted, nothing_noted, rows_of_none}

-- what a search over a range answers
some_differs : (u : ℕ) → Some u ≡ None → ⊥
some_differs u h = cc

same_some : (u v : ℕ) → Some u ≡ Some v → u ≡ v
same_some u v h = cc

record IsFound (p : ℕ → Bool) (low high u : ℕ) : Type 0 where
  passes : p u ≡ true
  from : low ≤ u
  to : u < high

find_Some : (p : ℕ → Bool) (low n u : ℕ) → find p (range_with_len low n) ≡ Some u → IsFound p low (low + n) u
find_Some p low zero u e = absurd (some_differs u (sym e))
find_Some p low (suc n) u e =
    elim (cases_Bool (p low)) [
      | inl holds ↦ (let h : low ≡ u = same_some low u (sym (cond-true (p low) (Some low) (find p (range_with_len (low + 1) n)) holds) ∙ e) in record { passes = subst (λ m. p m ≡ true) h holds; from = omega arith; to = omega arith })
      | inr fails ↦
          (let h = find_Some p (low + 1) n u (sym (cond-false (p low) (Some low) (find p (range_with_len (low + 1) n)) fails) ∙ e) in
          let f = h.from in let t = h.to in
          record { passes = h.passes; from = omega arith; to = omega arith })
    ]

find_None : (p : ℕ → Bool) (low n u : ℕ) → find p (range_with_len low n) ≡ None → low ≤ u → u < low + n → p u ≡ false
find_None p low zero u e le lt = absurd (omega arith)
find_None p low (suc n) u e le lt =
    elim (cases_Bool (p low)) [
      | inl holds ↦ absurd (some_differs low (sym (cond-true (p low) (Some low) (find p (range_with_len (low + 1) n)) holds) ∙ e))
      | inr fails ↦ elim (cases_eq low u) [
        | inl same ↦ subst (λ m. p m ≡ false) same fails
        | inr ne ↦ find_None p (low + 1) n u (sym (cond-false (p low) (Some low) (find p (range_with_len (low + 1) n)) fails) ∙ e) (omega arith) (omega arith)
      ]
    ]

any_from : {X : Type 0} (p : X → Bool) (xs : List X) (k : ℕ) (d : X) → k < length xs → p (get_or xs k d) ≡ true → list_any p xs ≡ true
any_from p [] k d lt e = absurd (omega arith)
any_from p (x ∷ xs) zero d lt e = or_left (p x) (list_any p xs) e
any_from p (x ∷ xs) (suc k) d lt e = or_right (p x) (list_any p xs) (any_from p xs k d (omega arith) e)

filter_has : {X : Type 0} (p : X → Bool) (xs : List X) (k : ℕ) (x : X) → k < length xs → get_or xs k x ≡ x → p x ≡ true → Contains (filter p xs) x
filter_has p [] k x lt e h = absurd (omega arith)
filter_has p (y ∷ xs) zero x lt e h =
    subst (λ l. Contains l x) (sym (cond-true (p y) (y ∷ filter p xs) (filter p xs) (subst (λ z. p z ≡ true) (sym e) h))) (zero, omega arith, e)
filter_has p (y ∷ xs) (suc k) x lt e h =
    let w = filter_has p xs k x (omega arith) e h in
    elim (cases_Bool (p y)) [
      | inl holds ↦ subst (λ l. Contains l x) (sym (cond-true (p y) (y ∷ filter p xs) (filter p xs) holds)) (suc w.0, (let l = w.1 in omega arith), w.2)
      | inr fails ↦ subst (λ l. Contains l x) (sym (cond-false (p y) (y ∷ filter p xs) (filter p xs) fails)) w
    ]

module _ (tets : List (List ℕ)) (fit : IsFit tets) where
  -- two partners are of one tetrahedron
  pub one_partner : (p v w : ℕ) → p < 4 * length tets → IsPartner tets fit p v → IsPartner tets fit p w → v ≡ w
  one_partner p v w lp a b =
      elim (cases_eq a.at b.at) [
        | inl same ↦ a.tet ∙ (ap (λ n. n / 4) same ∙ sym b.tet)
        | inr ne ↦ absurd (no_three tets fit p a.at b.at lp a.below b.below (λ e. a.other (sym e)) (λ e. b.other (sym e)) ne (sym a.same) (sym b.same))
      ]

  -- the triangle without node i
  without : (t i : ℕ) → t < length tets → i < 4 → triangle_without (get_or tets t []) i ≡ triangle_at tets fit (4 * t + (3 - i))
  without t i lt li = sym (triangle_of_tet tets fit t (3 - i) lt (omega arith))

  across_partner : (t i u : ℕ) → t < length tets → i < 4 → u < length tets → is_across tets t i u ≡ true → IsPartner tets fit (4 * t + (3 - i)) u
  across_partner t i u lt li lu e =
      let parts = and_parts (not (eqb u t)) (has_triangle (triangle_without (get_or tets t []) i) (get_or tets u [])) e in
      let w = place_where (same_nodes (triangle_without (get_or tets t []) i)) (triangles_of (get_or tets u [])) [] parts.1 in
      let l = length-triangles_of (get_or tets u []) (fit.four u [] lu) in
      made w.0 (let lk = w.1 in omega arith) w.2 (eqb-false u t (not-true (eqb u t) parts.0))
    where
      made : (k : ℕ) → k < 4 → same_nodes (triangle_without (get_or tets t []) i) (get_or (triangles_of (get_or tets u [])) k []) ≡ true → (u ≡ t → ⊥) → IsPartner tets fit (4 * t + (3 - i)) u
      made k lk same ne =
          let p = 4 * t + (3 - i) in
          let q = 4 * u + k in
          let ways : same_nodes (triangle_at tets fit p) (triangle_at tets fit q) ≡ true =
          (λ j. same_nodes (sym (without t i lt li) j) (triangle_of_tet tets fit u k lu lk j)) ∙ same in
          record { at = q; below = omega arith; other = λ e. ne (omega arith); same = sym (key_from_same tets fit p q (omega arith) (omega arith) ways); tet = omega arith }

  partner_across : (t i u : ℕ) → t < length tets → i < 4 → IsPartner tets fit (4 * t + (3 - i)) u → (u < length tets) × (is_across tets t i u ≡ true)
  partner_across t i u lt li h =
      let below = h.below in
      let tet = h.tet in
      let lu : u < length tets = omega arith in
      let p = 4 * t + (3 - i) in
      let apart : u ≢ t = (λ e. tets_differ tets fit h.at p below (omega arith) h.other h.same (omega arith)) in
      let at : 4 * u + h.at % 4 ≡ h.at = omega arith in
      let there : triangle_at tets fit h.at ≡ get_or (triangles_of (get_or tets u [])) (h.at % 4) [] = ap (triangle_at tets fit) (sym at) ∙ triangle_of_tet tets fit u (h.at % 4) lu (omega arith) in
      let same : same_nodes (triangle_without (get_or tets t []) i) (get_or (triangles_of (get_or tets u [])) (h.at % 4) []) ≡ true =
      (λ j. same_nodes (without t i lt li j) (sym there j)) ∙ same_from_key tets fit p h.at (omega arith) below (sym h.same) in
      let l = length-triangles_of (get_or tets u []) (fit.four u [] lu) in
      (lu, and_from (not (eqb u t)) _ (not_from_false (eqb u t) (ne_eqb u t apart)) (any_from (same_nodes (triangle_without (get_or tets t []) i)) (triangles_of (get_or tets u [])) (h.at % 4) [] (omega arith) same))

  -- the neighbour is a partner's tetrahedron
  pub neighbour_is : (t i u : ℕ) → t < length tets → i < 4 → neighbour tets t i ≡ Some u → IsPartner tets fit (4 * t + (3 - i)) u
  unfolding neighbour
  neighbour_is t i u lt li e =
      let h = find_Some (is_across tets t i) 0 (length tets) u e in
      let to = h.to in
      across_partner t i u lt li (omega arith) h.passes

  -- and there is one where there is a partner
  pub has_neighbour : (t i u : ℕ) → t < length tets → i < 4 → IsPartner tets fit (4 * t + (3 - i)) u → neighbour tets t i ≢ None
  unfolding neighbour
  has_neighbour t i u lt li h e =
      let w = partner_across t i u lt li h in
      let lu = w.0 in
      false≢true (sym (find_None (is_across tets t i) 0 (length tets) u e (omega arith) (omega arith)) ∙ w.1)

  pub some_or_none : (o : Option ℕ) → ((u : ℕ) × (o ≡ Some u)) ⊎ (o ≡ None)
  some_or_none None = inr refl
  some_or_none (Some u) = inl (u, refl)

  pub neighbour_from : (t i u : ℕ) → t < length tets → i < 4 → IsPartner tets fit (4 * t + (3 - i)) u → neighbour tets t i ≡ Some u
  neighbour_from t i u lt li h =
      elim (some_or_none (neighbour tets t i)) [
        | inl w ↦ w.1 ∙ ap Some (one_partner (4 * t + (3 - i)) w.0 u (omega arith) (neighbour_is t i w.0 lt li w.1) h)
        | inr e ↦ absurd (has_neighbour t i u lt li h e)
      ]

  -- what is right of each place and says something wherever it can is the neighbours'
  pub same_answer : (t i : ℕ) (o : Option ℕ) → t < length tets → i < 4 → ((v : ℕ) → o ≡ Some v → IsPartner tets fit (4 * t + (3 - i)) v) → ((v : ℕ) → IsPartner tets fit (4 * t + (3 - i)) v → o ≢ None) → o ≡ neighbour tets t i
  same_answer t i o lt li right all =
      elim (some_or_none o) [
        | inl w ↦ w.1 ∙ sym (neighbour_from t i w.0 lt li (right w.0 w.1))
        | inr e ↦ elim (some_or_none (neighbour tets t i)) [
          | inl w ↦ absurd (all w.0 (neighbour_is t i w.0 lt li w.1) e)
          | inr f ↦ e ∙ sym f
        ]
      ]

  pub mutual_of : AreMutual tets
  mutual_of t i u lt li e = found (neighbour_is t i u lt li e)
    where
      found : IsPartner tets fit (4 * t + (3 - i)) u
          → (j : ℕ) × (u < length tets) × (u ≢ t) × (j < 4) × (neighbour tets u j ≡ Some t) × (same_nodes (triangle_without (get_or tets t []) i) (triangle_without (get_or tets u []) j) ≡ true)
      found h =
          let p = 4 * t + (3 - i) in
          let j = 3 - h.at % 4 in
          let below = h.below in
          let tet = h.tet in
          let lu : u < length tets = omega arith in
          let lj : j < 4 = omega arith in
          let at : h.at ≡ 4 * u + (3 - j) = omega arith in
          let tp : t ≡ p / 4 = omega arith in
          let apart : u ≢ t = (λ z. tets_differ tets fit h.at p below (omega arith) h.other h.same (omega arith)) in
          let back : IsPartner tets fit h.at t = record { at = p; below = omega arith; other = λ z. h.other (sym z); same = sym h.same; tet = tp } in
          let there : IsPartner tets fit (4 * u + (3 - j)) t = subst (λ n. IsPartner tets fit n t) at back in
          let same : same_nodes (triangle_without (get_or tets t []) i) (triangle_without (get_or tets u []) j) ≡ true =
          (λ k. same_nodes (without t i lt li k) ((without u j lu lj ∙ ap (triangle_at tets fit) (sym at)) k)) ∙ same_from_key tets fit p h.at (omega arith) below (sym h.same) in
          (j, lu, apart, lj, neighbour_from u j t lu lj there, same)

  -- a triangle has one tetrahedron exactly where it has no partner
  alone : (p : ℕ) → p < 4 * length tets → ((v : ℕ) → IsPartner tets fit p v → ⊥) → tets_at_triangle tets (triangle_at tets fit p) ≡ 1
  alone p lp none =
      let l = length_all tets fit in
      counts_single (same_nodes (triangle_at tets fit p)) (all_triangles tets) p [] (omega arith) (same_from_key tets fit p p lp lp refl) (λ j e ne lj. differs j e ne (omega arith))
    where
      differs : (j : ℕ) (e : List ℕ) → j ≢ p → j < 4 * length tets → same_nodes (triangle_at tets fit p) (get_or (all_triangles tets) j e) ≡ false
      differs j e ne lj =
          let l = length_all tets fit in
          false_from_ne_true _
          (λ h. none (j / 4) (record {
            at = j;
            below = lj;
            other = ne;
            same = sym (key_from_same tets fit p j lp lj (ap (same_nodes (triangle_at tets fit p)) (get_or_default (all_triangles tets) j [] e (omega arith)) ∙ h));
            tet = refl;
          }))

  not_alone : (p v : ℕ) → p < 4 * length tets → IsPartner tets fit p v → 2 ≤ tets_at_triangle tets (triangle_at tets fit p)
  not_alone p v lp h =
      let l = length_all tets fit in
      let below = h.below in
      let here = same_from_key tets fit p p lp lp refl in
      let there = same_from_key tets fit p h.at lp h.below (sym h.same) in
      elim (cases_lt p h.at) [
        | inl lt ↦ counts_two (same_nodes (triangle_at tets fit p)) (all_triangles tets) p h.at [] lt (omega arith) here there
        | inr ge ↦ counts_two (same_nodes (triangle_at tets fit p)) (all_triangles tets) h.at p [] (let ne = h.other in omega arith) (omega arith) there here
      ]

  pub on_boundary : (t i : ℕ) → t < length tets → i < 4 → neighbour tets t i ≡ None → tets_at_triangle tets (triangle_without (get_or tets t []) i) ≡ 1
  on_boundary t i lt li e =
      ap (tets_at_triangle tets) (without t i lt li) ∙ alone (4 * t + (3 - i)) (omega arith) (λ v h. has_neighbour t i v lt li h e)

  pub off_boundary : (t i u : ℕ) → t < length tets → i < 4 → neighbour tets t i ≡ Some u → 2 ≤ tets_at_triangle tets (triangle_without (get_or tets t []) i)
  off_boundary t i u lt li e =
      subst (λ x. 2 ≤ tets_at_triangle tets x) (sym (without t i lt li)) (not_alone (4 * t + (3 - i)) u (omega arith) (neighbour_is t i u lt li e))

  pub ends_of : EndsAtBoundary tets
  ends_of t i lt li = (there, back)
    where
      there : neighbour tets t i ≡ None → Contains (boundary tets) (triangle_without (get_or tets t []) i)
      there e =
          let l = length_all tets fit in
          let s = triangle_without (get_or tets t []) i in
          let w = without t i lt li in
          filter_has (λ x. eqb (tets_at_triangle tets x) 1) (all_triangles tets) (4 * t + (3 - i)) s (omega arith)
          (get_or_default (all_triangles tets) (4 * t + (3 - i)) s [] (omega arith) ∙ sym w) (eq-eqb _ 1 (on_boundary t i lt li e))

      back : Contains (boundary tets) (triangle_without (get_or tets t []) i) → neighbour tets t i ≡ None
      back h =
          let one = eqb-true _ 1 (All-contains (λ x. eqb (tets_at_triangle tets x) 1 ≡ true) (boundary tets) (triangle_without (get_or tets t []) i) (filter_passes (λ x. eqb (tets_at_triangle tets x) 1) (all_triangles tets)) h) in
          elim (some_or_none (neighbour tets t i)) [
            | inl w ↦ (let two = off_boundary t i w.0 lt li w.1 in absurd (omega arith))
            | inr e ↦ e
          ]

-- the whole answer: what is noted is right, and something is noted wherever there is a partner
pub all_answers : (tets : List (List ℕ)) (fit : IsFit tets) (found : List (List (Option ℕ))) → length found ≡ length tets → ((t : ℕ) → t < length tets → length (get_or found t []) ≡ 4)
    → ((p v : ℕ) → p < 4 * length tets → noted found p ≡ Some v → IsPartner tets fit p v) → ((p v : ℕ) → p < 4 * length tets → IsPartner tets fit p v → noted found p ≢ None) → found ≡ neighbours tets
unfolding neighbours
all_answers tets fit found len four right all =
    fill_by_all (λ t. map (neighbour tets t) (range_with_len 0 4)) found (length tets) [] len
    (λ t lt. fill_by_all (neighbour tets t) (get_or found t []) 4 None (four t lt) (λ i li. at t i lt li))
  where
    at : (t i : ℕ) → t < length tets → i < 4 → get_or (get_or found t []) i None ≡ neighbour tets t i
    at t i lt li =
        let p = 4 * t + (3 - i) in
        let l : p < 4 * length tets = omega arith in
        let a : p / 4 ≡ t = omega arith in
        let b : 3 - p % 4 ≡ i = omega arith in
        let e : noted found p ≡ get_or (get_or found t []) i None = (λ j. get_or (get_or found (a j) []) (b j) None) in
        same_answer tets fit t i (get_or (get_or found t []) i None) lt li (λ v h. right p v l (e ∙ h)) (λ v h z. all p v l h (e ∙ z))

-- from pairs that are noted of sorted sides
pub answers_noted : (tets : List (List ℕ)) (fit : IsFit tets) (sorted : List Side) (found : List (List (Option ℕ))) → IsPermutation (sides tets) sorted → All IsSmall sorted → IsNonDecreasingBy key_of sorted
    → length found ≡ length tets → NotesPairs (none_noted (length tets)) found sorted (length sorted) → found ≡ neighbours tets
answers_noted tets fit sorted found perm small rises len notes =
    all_answers tets fit found len (λ t lt. notes.rows t ∙ rows_of_none (length tets) t lt)
    (noted_is tets fit sorted perm small rises (none_noted (length tets)) found (nothing_noted (length tets)) notes)
    (is_noted tets fit sorted perm small rises (none_noted (length tets)) found (nothing_noted (length tets)) notes)
