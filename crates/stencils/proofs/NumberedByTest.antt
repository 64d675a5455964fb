-- A test that four vertices with four ids are a lattice tetrahedron, for closed ones.
use Rattle.std.proofs.Common.{◌≡◌, ℕ, zero, suc, ◌<◌, Bool, true, ◌&&◌, nat_lt, List, [], ◌∷◌, refl, arith}
use Rattle.std.specs.Prelude.{AllPairs, IsTrue, All}
use Rattle.std.specs.List.{list_all}
use Rattle.std.specs.List.Sorted.{IsStrictlyIncreasing}
use Rattle.std.proofs.lemmas.Bool.{ltb-true, and_parts}
use Rattle.std.proofs.lemmas.List.Elements.{All-cons, All-nil}
use Rattle.std.proofs.lemmas.List.Kept.{AllPairs-cons}
use Rattle.definitions.specs.declared.Vertex.{Vertex}
use Rattle.definitions.specs.Lattice.{before, are_neighbours}
use Rattle.lattice_laws.specs.NumberedTetrahedra.{IsNumberedTet}

abbrev pub pairs_pass : {X : Type 0} → (X → X → Bool) → List X → Bool
pairs_pass R [] = true
pairs_pass R (x ∷ xs) = list_all (R x) xs && pairs_pass R xs

all_pass : {X : Type 0} (p : X → Bool) (xs : List X) → list_all p xs ≡ true → All (λ x. IsTrue (p x)) xs
all_pass p [] e = All-nil (λ x. IsTrue (p x))
all_pass p (x ∷ xs) e = let f = and_parts (p x) _ e in All-cons (λ x. IsTrue (p x)) x xs f.0 (all_pass p xs f.1)

pub pairs_from_test : {X : Type 0} (R : X → X → Bool) (xs : List X) → pairs_pass R xs ≡ true → AllPairs (λ u v. IsTrue (R u v)) xs
pairs_from_test R [] e = λ i j d lt le. absurd (omega arith)
pairs_from_test R (x ∷ xs) e =
    let f = and_parts (list_all (R x) xs) _ e in
    AllPairs-cons (λ u v. IsTrue (R u v)) x xs (all_pass (R x) xs f.0) (pairs_from_test R xs f.1)

pub four_rise : (i j k l : ℕ) → i < j → j < k → k < l → IsStrictlyIncreasing (i ∷ j ∷ k ∷ l ∷ [])
four_rise i j k l a b c zero h = a
four_rise i j k l a b c (suc zero) h = b
four_rise i j k l a b c (suc (suc zero)) h = c
four_rise i j k l a b c (suc (suc (suc n))) h = absurd (omega arith)

-- four vertices with four ids
pub numbered_by_test : (t u v w : Vertex) (i j k l : ℕ) → (pairs_pass before (t ∷ u ∷ v ∷ w ∷ []) && (pairs_pass are_neighbours (t ∷ u ∷ v ∷ w ∷ []) && (nat_lt i j && (nat_lt j k && nat_lt k l)))) ≡ true → IsNumberedTet (t ∷ u ∷ v ∷ w ∷ []) (i ∷ j ∷ k ∷ l ∷ [])
numbered_by_test t u v w i j k l e =
    let f = and_parts (pairs_pass before (t ∷ u ∷ v ∷ w ∷ [])) _ e in
    let g = and_parts (pairs_pass are_neighbours (t ∷ u ∷ v ∷ w ∷ [])) _ f.1 in
    let h = and_parts (nat_lt i j) _ g.1 in
    let m = and_parts (nat_lt j k) (nat_lt k l) h.1 in
    record {
      four = refl;
      ordered = pairs_from_test before (t ∷ u ∷ v ∷ w ∷ []) f.0;
      neighbours = pairs_from_test are_neighbours (t ∷ u ∷ v ∷ w ∷ []) g.0;
      ids_four = refl;
      ids_rise = four_rise i j k l (ltb-true _ _ h.0) (ltb-true _ _ m.0) (ltb-true _ _ m.1);
    }
