-- The least number of a tetrahedron with a triangle that passes a test.
use Rattle.std.proofs.Common.{◌≡◌, ◌⊎◌, inl, inr, ℕ, ◌<◌, ◌≤◌, List, [], ◌∷◌, ◌++◌, get_or, Bool, true, false, Option, Some, None, refl, sym, ap, ◌∙◌, subst, arith, min}
use Rattle.std.proofs.lemmas.List.{append-nil, append_assoc}
use Rattle.std.proofs.lemmas.List.Elements.{All-head, All-tail, All-append, All-push, All-nil, All-contains, Contains-append_left, Contains-append_right, Contains-push}
use Rattle.std.proofs.lemmas.List.Sorted.{All-permutation, Contains-permutation}
use Rattle.std.specs.List.{All}
use Rattle.std.specs.List.Sorted.{IsPermutation}
use Rattle.std.proofs.lemmas.Bool.{both_ways}
use Rattle.mesh_audit.specs.declared.triangles.Triangle.{Triangle}
use Rattle.mesh_audit.specs.Triangles.{lesser_tet, least_with, LeastTet, HasTet}

pub least_none : (p : Triangle → Bool) → LeastTet p [] None
least_none p = All-nil (λ t. p t ≡ false)

false_then : (p : Triangle → Bool) (m : ℕ) (ys : List Triangle) → All (λ t. p t ≡ false) ys → All (λ t. p t ≡ true → m ≤ t.tet) ys
false_then p m ys all k d lt = λ e. absurd (both_ways (p (get_or ys k d)) (all k d lt) e)

pub least_skip : (p : Triangle → Bool) (xs ys : List Triangle) (o : Option ℕ) → LeastTet p xs o → All (λ t. p t ≡ false) ys → LeastTet p (xs ++ ys) o
least_skip p xs ys None h all = All-append (λ t. p t ≡ false) xs ys h all
least_skip p xs ys (Some m) h all = record {
  one = record { triangle = h.one.triangle; there = Contains-append_left xs ys h.one.triangle h.one.there; passes = h.one.passes; number = h.one.number };
  least = All-append (λ t. p t ≡ true → m ≤ t.tet) xs ys h.least (false_then p m ys all);
}

pub least_behind : (p : Triangle → Bool) (xs ys : List Triangle) (o : Option ℕ) → All (λ t. p t ≡ false) xs → LeastTet p ys o → LeastTet p (xs ++ ys) o
least_behind p xs ys None all h = All-append (λ t. p t ≡ false) xs ys all h
least_behind p xs ys (Some m) all h = record {
  one = record { triangle = h.one.triangle; there = Contains-append_right xs ys h.one.triangle h.one.there; passes = h.one.passes; number = h.one.number };
  least = All-append (λ t. p t ≡ true → m ≤ t.tet) xs ys (false_then p m xs all) h.least;
}

least_push : (p : Triangle → Bool) (xs : List Triangle) (x : Triangle) (o : Option ℕ) → LeastTet p xs o → p x ≡ true → LeastTet p (xs ++ x ∷ []) (lesser_tet o x)
least_push p xs x None h e = record {
  one = record { triangle = x; there = Contains-push xs x; passes = e; number = refl };
  least = All-push (λ t. p t ≡ true → x.tet ≤ t.tet) xs x (false_then p x.tet xs h) (λ _. omega arith);
}
least_push p xs x (Some m) h e = record {
  one = by_min (min_is m x.tet);
  least = All-push (λ t. p t ≡ true → min m x.tet ≤ t.tet) xs x (λ k d lt. λ q. at_most_min (h.least k d lt q)) (λ _. omega arith);
}
  where
    at_most_min : {n : ℕ} → m ≤ n → min m x.tet ≤ n
    at_most_min h = omega arith

    min_is : (a b : ℕ) → (min a b ≡ a) ⊎ (min a b ≡ b)
    min_is a b = go (Rattle.std.proofs.lemmas.Bool.cases_lt a b)
      where
        go : (a < b) ⊎ (b ≤ a) → (min a b ≡ a) ⊎ (min a b ≡ b)
        go (inl q) = inl (omega arith)
        go (inr q) = inr (omega arith)

    by_min : (min m x.tet ≡ m) ⊎ (min m x.tet ≡ x.tet) → HasTet p (xs ++ x ∷ []) (min m x.tet)
    by_min (inl q) = record { triangle = h.one.triangle; there = Contains-append_left xs (x ∷ []) h.one.triangle h.one.there; passes = h.one.passes; number = h.one.number ∙ sym q }
    by_min (inr q) = record { triangle = x; there = Contains-push xs x; passes = e; number = sym q }

pub least_all : (p : Triangle → Bool) (xs ys : List Triangle) (o : Option ℕ) → LeastTet p xs o → All (λ t. p t ≡ true) ys → LeastTet p (xs ++ ys) (least_with o ys)
least_all p xs [] o h all = subst (λ zs. LeastTet p zs o) (sym (append-nil xs)) h
least_all p xs (y ∷ ys) o h all =
    let one = least_push p xs y o h (All-head (λ t. p t ≡ true) y ys all) in
    let rest = least_all p (xs ++ y ∷ []) ys (lesser_tet o y) one (All-tail (λ t. p t ≡ true) y ys all) in
    subst (λ zs. LeastTet p zs (least_with o (y ∷ ys))) (append_assoc xs (y ∷ []) ys) rest

pub least_permuted : (p : Triangle → Bool) (xs ys : List Triangle) (o : Option ℕ) → IsPermutation xs ys → LeastTet p xs o → LeastTet p ys o
least_permuted p xs ys None move h = All-permutation (λ t. p t ≡ false) xs ys move h
least_permuted p xs ys (Some m) move h = record {
  one = record { triangle = h.one.triangle; there = Contains-permutation xs ys h.one.triangle move h.one.there; passes = h.one.passes; number = h.one.number };
  least = All-permutation (λ t. p t ≡ true → m ≤ t.tet) xs ys move h.least;
}

-- a test that agrees at each triangle
pub least_agrees : (p q : Triangle → Bool) (xs : List Triangle) (o : Option ℕ) → All (λ t. p t ≡ q t) xs → LeastTet p xs o → LeastTet q xs o
least_agrees p q xs None same h = λ k d lt. sym (same k d lt) ∙ h k d lt
least_agrees p q xs (Some m) same h = record {
  one = record { triangle = h.one.triangle; there = h.one.there; passes = sym (All-contains (λ t. p t ≡ q t) xs h.one.triangle same h.one.there) ∙ h.one.passes; number = h.one.number };
  least = λ k d lt. λ e. h.least k d lt (same k d lt ∙ e);
}

pub least_unique : (p : Triangle → Bool) (xs : List Triangle) (o u : Option ℕ) → LeastTet p xs o → LeastTet p xs u → o ≡ u
least_unique p xs None None h g = refl
least_unique p xs None (Some m) h g = absurd (both_ways _ (All-contains (λ t. p t ≡ false) xs g.one.triangle h g.one.there) g.one.passes)
least_unique p xs (Some n) None h g = absurd (both_ways _ (All-contains (λ t. p t ≡ false) xs h.one.triangle g h.one.there) h.one.passes)
least_unique p xs (Some n) (Some m) h g =
    let a : m ≤ h.one.triangle.tet = All-contains (λ t. p t ≡ true → m ≤ t.tet) xs h.one.triangle g.least h.one.there h.one.passes in
    let b : n ≤ g.one.triangle.tet = All-contains (λ t. p t ≡ true → n ≤ t.tet) xs g.one.triangle h.least g.one.there g.one.passes in
    let e : n ≡ m = omega (arith, h.one.number, g.one.number) in
    ap Some e
