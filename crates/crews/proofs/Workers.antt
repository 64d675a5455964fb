-- Lists of workers that ran: what a vector has then, and sums over it.
use Rattle.std.proofs.Common.{◌≡◌, ℕ, suc, ◌<◌, List, [], ◌∷◌, ◌++◌, get_or, length, take, drop, refl, ap, ◌∙◌, arith}
use Rattle.std.specs.Prelude.{sum_by}
use Rattle.std.proofs.lemmas.List.{append-nil, drop_all, take_all}
use Rattle.std.proofs.lemmas.List.Sums.{sum_by-cons}

-- what a vector has after its slice was written
pub written : {X : Type 0} (xs ys : List X) (n : ℕ) → n ≡ length xs → length ys ≡ length xs → take n (xs ++ drop (length xs) ys) ≡ xs
written {X} xs ys n e f = ap (λ (l : List X). take n (xs ++ l)) (drop_all (length xs) ys (omega arith)) ∙ ap (λ (l : List X). take n l) (append-nil xs) ∙ take_all n xs (omega arith)

-- a number of each worker that stays as it was, and so the sum of all
pub sums_same : {X : Type 0} (f : X → ℕ) (xs ys : List X) → length ys ≡ length xs → ((i : ℕ) (d : X) → i < length xs → f (get_or ys i d) ≡ f (get_or xs i d)) → sum_by f ys ≡ sum_by f xs
sums_same f [] [] e same = refl
sums_same f [] (y ∷ ys) e same = absurd (omega arith)
sums_same f (x ∷ xs) [] e same = absurd (omega arith)
sums_same f (x ∷ xs) (y ∷ ys) e same =
    let a = same 0 x (omega arith) in
    let h = sums_same f xs ys (omega arith) (λ i d lt. same (suc i) d (omega arith)) in
    let b = sum_by-cons f x xs in
    let c = sum_by-cons f y ys in
    omega arith
