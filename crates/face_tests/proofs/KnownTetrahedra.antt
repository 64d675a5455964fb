-- What the calls ask of their tetrahedra, by tests that compute.
use Rattle.std.proofs.Common.{◌≡◌, ◌≢◌, ℕ, zero, suc, Bool, true, ◌&&◌, not, eqb, leb, List, [], ◌∷◌, get_or, arith}
use Rattle.std.specs.Prelude.{AllPairs}
use Rattle.std.specs.List.{list_all}
use Rattle.std.proofs.lemmas.Bool.{and_parts, not-true, eqb-false, leb-true}
use Rattle.std.proofs.lemmas.List.Sums.{AllPass-from_list_all}
use Rattle.definitions.specs.Soundness.{all_triangles, tets_at_triangle}
use Rattle.adjacency.specs.Laws.{NodesDiffer, ShareByTwo}

-- no number stands twice
abbrev all_apart : List ℕ → Bool
all_apart [] = true
all_apart (x ∷ xs) = list_all (λ y. not (eqb x y)) xs && all_apart xs

apart_from : (xs : List ℕ) → all_apart xs ≡ true → AllPairs (λ (a b : ℕ). a ≢ b) xs
apart_from [] h i j d lt lj = absurd (omega arith)
apart_from (x ∷ xs) h i zero d lt lj = absurd (omega arith)
apart_from (x ∷ xs) h zero (suc j) d lt lj =
    eqb-false x (get_or xs j d) (not-true _ (AllPass-from_list_all (λ y. not (eqb x y)) xs ((and_parts (list_all (λ y. not (eqb x y)) xs) (all_apart xs) h).0) j d (omega arith)))
apart_from (x ∷ xs) h (suc i) (suc j) d lt lj = apart_from xs ((and_parts (list_all (λ y. not (eqb x y)) xs) (all_apart xs) h).1) i j d (omega arith) (omega arith)

pub nodes_differ : (tets : List (List ℕ)) → list_all all_apart tets ≡ true → NodesDiffer tets
nodes_differ tets h k d lt = apart_from (get_or tets k d) (AllPass-from_list_all all_apart tets h k d lt)

pub by_two : (tets : List (List ℕ)) → list_all (λ s. leb (tets_at_triangle tets s) 2) (all_triangles tets) ≡ true → ShareByTwo tets
by_two tets h k d lt = leb-true _ 2 (AllPass-from_list_all (λ s. leb (tets_at_triangle tets s) 2) (all_triangles tets) h k d lt)
