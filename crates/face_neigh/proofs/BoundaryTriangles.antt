-- The boundary triangles, tetrahedron by tetrahedron.
use Rattle.std.proofs.Common.{◌≡◌, inl, inr, ℕ, ◌+◌, ◌<◌, ◌≤◌, Bool, eqb, None, Option, List, [], ◌∷◌, ◌++◌, length, take, map, get_or, refl, sym, ap, ◌∙◌, arith}
use Rattle.std.specs.Prelude.{count_by, filter, is_none}
use Rattle.std.specs.List.{range_with_len}
use Rattle.std.proofs.lemmas.Bool.{ne_eqb, eq-eqb, eqb-true, cases_Bool, cond-true, cond-false}
use Rattle.std.proofs.lemmas.List.{append-nil, take_more}
use Rattle.std.proofs.lemmas.List.Concat.{flat_map-append}
use Rattle.std.proofs.lemmas.List.Elements.{filter-append, filter_passes}
use Rattle.std.proofs.lemmas.List.FromFn.{get_or-map-range_with_len, length-map-range_with_len}
use Rattle.definitions.specs.Soundness.{same_nodes, triangles_of, all_triangles, tets_at_triangle, boundary}
use Rattle.adjacency.specs.Neighbours.{triangle_without, neighbour, neighbours}
use Rattle.adjacency.specs.Laws.{StandOnce}
use Rattle.face_neigh.specs.Open.{one_if, open_triangles}
use Rattle.face_neigh.proofs.Counts.{counts_one, counts_yes, counts_no, counts_more}
use Rattle.face_neigh.proofs.Places.{IsFit}
use Rattle.face_neigh.proofs.Triples.{same_from_members}
use Rattle.face_neigh.proofs.Partners.{some_or_none, on_boundary, off_boundary}

filter_one : (p : List ℕ → Bool) (x : List ℕ) (xs : List (List ℕ)) → filter p (x ∷ xs) ≡ one_if (p x) x ++ filter p xs
filter_one p x xs =
    elim (cases_Bool (p x)) [
      | inl h ↦ cond-true (p x) (x ∷ filter p xs) (filter p xs) h ∙ ap (λ b. one_if b x ++ filter p xs) (sym h)
      | inr h ↦ cond-false (p x) (x ∷ filter p xs) (filter p xs) h ∙ ap (λ b. one_if b x ++ filter p xs) (sym h)
    ]

filter_four : (p : List ℕ → Bool) (w x y z : List ℕ) → filter p (w ∷ x ∷ y ∷ z ∷ []) ≡ one_if (p w) w ++ (one_if (p x) x ++ (one_if (p y) y ++ (one_if (p z) z ++ [])))
filter_four p w x y z =
    filter_one p w (x ∷ y ∷ z ∷ [])
    ∙ ap (λ t. one_if (p w) w ++ t)
    (filter_one p x (y ∷ z ∷ []) ∙ ap (λ t. one_if (p x) x ++ t) (filter_one p y (z ∷ []) ∙ ap (λ t. one_if (p y) y ++ t) (filter_one p z [])))

-- the triangles that pass are those without a neighbour, if each tells so
open_are_passing : (p : List ℕ → Bool) (tet : List ℕ) (across : List (Option ℕ)) → length tet ≡ 4 → ((i : ℕ) → i < 4 → is_none (get_or across i None) ≡ p (triangle_without tet i)) → open_triangles tet across ≡ filter p (triangles_of tet)
open_are_passing p (a ∷ b ∷ c ∷ d ∷ []) across len tells =
    (λ j. one_if (tells 3 (omega arith) j) (a ∷ c ∷ b ∷ []) ++ (one_if (tells 2 (omega arith) j) (a ∷ b ∷ d ∷ []) ++ (one_if (tells 1 (omega arith) j) (a ∷ d ∷ c ∷ []) ++ (one_if (tells 0 (omega arith) j) (b ∷ c ∷ d ∷ []) ++ []))))
    ∙ sym (filter_four p (a ∷ c ∷ b ∷ []) (a ∷ b ∷ d ∷ []) (a ∷ d ∷ c ∷ []) (b ∷ c ∷ d ∷ []))
open_are_passing p [] across len tells = absurd (omega arith)
open_are_passing p (a ∷ []) across len tells = absurd (omega arith)
open_are_passing p (a ∷ b ∷ []) across len tells = absurd (omega arith)
open_are_passing p (a ∷ b ∷ c ∷ []) across len tells = absurd (omega arith)
open_are_passing p (a ∷ b ∷ c ∷ d ∷ e ∷ tet) across len tells = absurd (omega arith)

pub length-neighbours : (tets : List (List ℕ)) → length (neighbours tets) ≡ length tets
unfolding neighbours
length-neighbours tets = length-map-range_with_len (λ (t : ℕ). map (neighbour tets t) (range_with_len 0 4)) 0 (length tets)

module _ (tets : List (List ℕ)) (fit : IsFit tets) where
  abbrev on_edge : List ℕ → Bool
  on_edge x = eqb (tets_at_triangle tets x) 1

  told : (t i : ℕ) → t < length tets → i < 4 → is_none (neighbour tets t i) ≡ on_edge (triangle_without (get_or tets t []) i)
  told t i lt li =
      elim (some_or_none tets fit (neighbour tets t i)) [
        | inl w ↦ ap is_none w.1 ∙ sym (ne_eqb _ 1 (λ e. (let two = off_boundary tets fit t i w.0 lt li w.1 in absurd (omega arith))))
        | inr e ↦ ap is_none e ∙ sym (eq-eqb _ 1 (on_boundary tets fit t i lt li e))
      ]

  row : (t i : ℕ) → t < length tets → i < 4 → get_or (get_or (neighbours tets) t []) i None ≡ neighbour tets t i
  unfolding neighbours
  row t i lt li =
      ap (λ r. get_or r i None) (get_or-map-range_with_len (λ (u : ℕ). map (neighbour tets u) (range_with_len 0 4)) 0 (length tets) t t [] lt (omega arith))
      ∙ get_or-map-range_with_len (neighbour tets t) 0 4 i i None li (omega arith)

  -- one more tetrahedron
  pub faces_more : (t : ℕ) → t < length tets
      → filter on_edge (all_triangles (take t tets)) ++ open_triangles (get_or tets t []) (get_or (neighbours tets) t []) ≡ filter on_edge (all_triangles (take (t + 1) tets))
  faces_more t lt =
      let four = fit.four t [] lt in
      let opens : open_triangles (get_or tets t []) (get_or (neighbours tets) t []) ≡ filter on_edge (triangles_of (get_or tets t [])) =
      open_are_passing on_edge (get_or tets t []) (get_or (neighbours tets) t []) four (λ i li. ap is_none (row t i lt li) ∙ told t i lt li) in
      let more : all_triangles (take (t + 1) tets) ≡ all_triangles (take t tets) ++ triangles_of (get_or tets t []) =
      ap all_triangles (take_more tets t [] lt) ∙ (flat_map-append triangles_of (take t tets) (get_or tets t [] ∷ []) ∙ ap (λ l. all_triangles (take t tets) ++ l) (append-nil (triangles_of (get_or tets t [])))) in
      ap (λ l. filter on_edge (all_triangles (take t tets)) ++ l) opens
      ∙ (sym (filter-append on_edge (all_triangles (take t tets)) (triangles_of (get_or tets t []))) ∙ ap (filter on_edge) (sym more))

-- no more pass among those that are kept
fewer : (p q : List ℕ → Bool) (xs : List (List ℕ)) → count_by q (filter p xs) ≤ count_by q xs
fewer p q [] = omega arith
fewer p q (x ∷ xs) =
    let rest = fewer p q xs in
    elim (cases_Bool (p x)) [
      | inr h ↦ (let m = counts_more q x xs in let e = ap (count_by q) (cond-false (p x) (x ∷ filter p xs) (filter p xs) h) in omega arith)
      | inl h ↦
          (let e = ap (count_by q) (cond-true (p x) (x ∷ filter p xs) (filter p xs) h) in
          elim (cases_Bool (q x)) [
            | inl k ↦ (let a = counts_yes q x xs k in let b = counts_yes q x (filter p xs) k in omega arith)
            | inr k ↦ (let a = counts_no q x xs k in let b = counts_no q x (filter p xs) k in omega arith)
          ])
    ]

-- each boundary triangle stands once
pub once_of : (tets : List (List ℕ)) → StandOnce (boundary tets)
once_of tets k d lt =
    let s = get_or (boundary tets) k d in
    let one = eqb-true (tets_at_triangle tets s) 1 (filter_passes (λ x. eqb (tets_at_triangle tets x) 1) (all_triangles tets) k d lt) in
    let most = fewer (λ x. eqb (tets_at_triangle tets x) 1) (same_nodes s) (all_triangles tets) in
    let least = counts_one (same_nodes s) (boundary tets) k d lt (same_from_members s s (λ n. refl)) in
    omega arith
