-- Sums over lists of lists.
use Rattle.std.proofs.Common.{◌≡◌, ℕ, ◌+◌, ◌<◌, ◌≤◌, List, [], ◌∷◌, length, take, drop, get_or, Bool, true, cond, refl, sym, ap, ◌∙◌, arith}
use Rattle.std.proofs.lemmas.List.{get_or-take, get_or-drop, length-take, length-drop}
use Rattle.std.proofs.lemmas.List.Elements.{All-head, All-tail, All-append, All-nil}
use Rattle.std.proofs.lemmas.List.Sums.{sum_by-cons, sum_by-take-drop, get_or-le-sum_by}
use Rattle.std.specs.List.{All, sum_by, count_by, flat_map}

pub sum_add : {X : Type 0} (f g : X → ℕ) (xs : List X) → sum_by (λ x. f x + g x) xs ≡ sum_by f xs + sum_by g xs
sum_add f g [] = refl
sum_add f g (x ∷ xs) = sum_by-cons (λ y. f y + g y) x xs ∙ ap (λ n. (f x + g x) + n) (sum_add f g xs) ∙ regroup (f x) (g x) (sum_by f xs) (sum_by g xs) ∙ (λ i. sym (sum_by-cons f x xs) i + sym (sum_by-cons g x xs) i)
  where
    regroup : (a b c d : ℕ) → (a + b) + (c + d) ≡ (a + c) + (b + d)
    regroup a b c d = omega arith

pub all_flat : {X Y : Type 0} (P : Y → Type 0) (g : X → List Y) (xs : List X) → All (λ x. All P (g x)) xs → All P (flat_map g xs)
all_flat P g [] all = All-nil P
all_flat P g (x ∷ xs) all = All-append P (g x) (flat_map g xs) (All-head (λ y. All P (g y)) x xs all) (all_flat P g xs (All-tail (λ y. All P (g y)) x xs all))

-- two places that pass count twice
pub two_pass : {X : Type 0} (p : X → Bool) (xs : List X) (i j : ℕ) (d : X) → i < j → j < length xs → p (get_or xs i d) ≡ true → p (get_or xs j d) ≡ true → 2 ≤ count_by p xs
two_pass {X} p xs i j d before within at_i at_j =
    let split = sum_by-take-drop f xs j in
    let lt : i < length (take j xs) = omega (arith, length-take j xs) in
    let one : f (get_or (take j xs) i d) ≤ sum_by f (take j xs) = get_or-le-sum_by f (take j xs) i d lt in
    let some : 0 < length (drop j xs) = omega (arith, length-drop j xs) in
    let two : f (get_or (drop j xs) 0 d) ≤ sum_by f (drop j xs) = get_or-le-sum_by f (drop j xs) 0 d some in
    let a : f (get_or (take j xs) i d) ≡ 1 = ap f (get_or-take j xs i d before) ∙ ap (λ (b : Bool). cond b 1 0) at_i in
    let at : j + 0 ≡ j = omega arith in
    let b : f (get_or (drop j xs) 0 d) ≡ 1 = ap f (get_or-drop j xs 0 d ∙ ap (λ (k : ℕ). get_or xs k d) at) ∙ ap (λ (b : Bool). cond b 1 0) at_j in
    omega arith
  where
    f : X → ℕ
    f x = cond (p x) 1 0
