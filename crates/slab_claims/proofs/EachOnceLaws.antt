-- What it says of a list that it is each number below a bound, once.
use Rattle.std.proofs.Common.{◌≡◌, ℕ, suc, ◌<◌, ◌==◌, List, [], ◌∷◌, get_or, All, Contains, Bool, true, false, if◌then◌else◌, refl, arith}
use Rattle.std.proofs.lemmas.Bool.Decides.{nat_tests}
use Rattle.std.proofs.lemmas.List.Sums.{sum_by-cons, get_or-le-sum_by}
use Rattle.list_words.specs.Words.{times, EachOnce}
use Rattle.list_words.proofs.Tests.{when_false}

-- a number that stands in the list at least once is in it
pub Contains-from_times : (x : ℕ) (xs : List ℕ) → 0 < times x xs → Contains xs x
Contains-from_times x [] some_times = absurd (omega arith)
Contains-from_times x (y ∷ ys) some_times = by_test (y == x) refl (Contains-from_times x ys)
  where
    by_test : (b : Bool) → (y == x) ≡ b → (0 < times x ys → Contains ys x) → Contains (y ∷ ys) x
    by_test true e later = let here : y ≡ x = grind (arith, nat_tests) in (0, omega arith, here)
    by_test false e later =
        let c = sum_by-cons (λ z. if z == x then 1 else 0) y ys in
        let none_here = when_false (y == x) 1 0 e in
        let h = later (omega arith) in
        (suc h.0, omega arith, h.2)

-- each number below the bound is in the list
pub has_each : (n : ℕ) (xs : List ℕ) → EachOnce n xs → (x : ℕ) → x < n → Contains xs x
has_each n xs once x below = let o = once x in let t : 0 < times x xs = grind (arith, nat_tests) in Contains-from_times x xs t

-- all numbers of the list are below the bound
pub all_below : (n : ℕ) (xs : List ℕ) → EachOnce n xs → All (λ x. x < n) xs
all_below n xs once k d within =
    let x = get_or xs k d in
    let one = get_or-le-sum_by (λ y. if y == x then 1 else 0) xs k d within in
    let o = once x in
    grind (arith, nat_tests)

-- three numbers in another order, and lists that have one twice, lack one, or have one too many
in_some_order : EachOnce 3 (1 ∷ 2 ∷ 0 ∷ [])
in_some_order x = grind (arith, nat_tests)

twice : EachOnce 2 (0 ∷ 1 ∷ 0 ∷ []) → ⊥
twice once = let o = once 0 in omega arith

lacking : EachOnce 2 (1 ∷ []) → ⊥
lacking once = let o = once 0 in omega arith

too_many : EachOnce 1 (0 ∷ 1 ∷ []) → ⊥
too_many once = let o = once 1 in omega arith
