-- Lists that are parts of others in order.
use Rattle.std.proofs.Common.{◌≡◌, inl, inr, ℕ, ◌≤◌, List, [], ◌∷◌, ◌++◌, Bool, true, false, if◌then◌else◌, refl, sym, ap, ◌∙◌, subst, arith}
use Rattle.std.specs.Prelude.{filter}
use Rattle.std.specs.List.{sum_by}
use Rattle.std.proofs.lemmas.List.Elements.{filter-append}
use Rattle.std.proofs.lemmas.List.Sums.{sum_by-cons}
use Rattle.lattice_laws.specs.Ascending.{IsPart}

pub part_more : {X : Type 0} (c xs ys : List X) → IsPart c xs → IsPart c (xs ++ ys)
part_more [] xs ys p = tt
part_more (y ∷ c) [] ys p = absurd p
part_more (y ∷ c) (x ∷ xs) ys (inl s) = inl (s.0, part_more c xs ys s.1)
part_more (y ∷ c) (x ∷ xs) ys (inr s) = inr (part_more (y ∷ c) xs ys s)

pub part_push : {X : Type 0} (c xs : List X) (x : X) → IsPart c xs → IsPart (c ++ x ∷ []) (xs ++ x ∷ [])
part_push [] [] x p = inl (refl, tt)
part_push [] (z ∷ zs) x p = inr (part_push [] zs x tt)
part_push (y ∷ c) [] x p = absurd p
part_push (y ∷ c) (z ∷ zs) x (inl s) = inl (s.0, part_push c zs x s.1)
part_push (y ∷ c) (z ∷ zs) x (inr s) = inr (part_push (y ∷ c) zs x s)

-- the sum over a part is at most that over the whole
pub part_sum : {X : Type 0} (f : X → ℕ) (c xs : List X) → IsPart c xs → sum_by f c ≤ sum_by f xs
part_sum f [] xs p = omega arith
part_sum f (y ∷ c) [] p = absurd p
part_sum f (y ∷ c) (x ∷ xs) (inl s) =
    let h = part_sum f c xs s.1 in
    let a = sum_by-cons f y c in
    let b = sum_by-cons f x xs in
    let e : f x ≡ f y = ap f s.0 in
    omega arith
part_sum f (y ∷ c) (x ∷ xs) (inr s) = let h = part_sum f (y ∷ c) xs s in let b = sum_by-cons f x xs in omega arith

-- a filtered list is a part
pub filter_part : {X : Type 0} (p : X → Bool) (xs : List X) → IsPart (filter p xs) xs
filter_part p [] = tt
filter_part {X} p (x ∷ xs) = by_test (p x) (filter_part p xs)
  where
    by_test : (b : Bool) → IsPart (filter p xs) xs → IsPart (if b then x ∷ filter p xs else filter p xs) (x ∷ xs)
    by_test true h = inl (refl, h)
    by_test false h = later (filter p xs) h
      where
        later : (c : List X) → IsPart c xs → IsPart c (x ∷ xs)
        later [] h = tt
        later (y ∷ c) h = inr h

-- under a filter, one element more that passes or not
pub part_filter_more : {X : Type 0} (p : X → Bool) (c xs ys : List X) → IsPart c (filter p xs) → IsPart c (filter p (xs ++ ys))
part_filter_more p c xs ys h = subst (IsPart c) (sym (filter-append p xs ys)) (part_more c (filter p xs) (filter p ys) h)

pub part_filter_push : {X : Type 0} (p : X → Bool) (c xs : List X) (x : X) → p x ≡ true → IsPart c (filter p xs) → IsPart (c ++ x ∷ []) (filter p (xs ++ x ∷ []))
part_filter_push {X} p c xs x passes h =
    let one : filter p (x ∷ []) ≡ x ∷ [] = ap (λ (b : Bool). if b then x ∷ [] else []) passes in
    let all : filter p (xs ++ x ∷ []) ≡ filter p xs ++ x ∷ [] = filter-append p xs (x ∷ []) ∙ ap (λ (l : List X). filter p xs ++ l) one in
    subst (IsPart (c ++ x ∷ [])) (sym all) (part_push c (filter p xs) x h)
