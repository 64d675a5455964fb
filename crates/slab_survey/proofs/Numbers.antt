-- Ranges of numbers, and lists in which numbers below a bound stand at most once.
use Rattle.std.proofs.Common.{◌≡◌, ◌≢◌, ℕ, zero, suc, ◌+◌, ◌-◌, ◌*◌, ◌<◌, ◌≤◌, ◌==◌, ne_eqb, List, [], ◌∷◌, ◌++◌, length, true, ◌&&◌, refl, sym, ap, ◌∙◌, ⊎_elim, arith}
use Rattle.std.proofs.Math.Nat.{mul-le-mul_right}
use Rattle.std.specs.List.{range_with_len, sum_by}
use Rattle.std.proofs.lemmas.Bool.Decides.{nat_tests}
use Rattle.std.proofs.lemmas.List.Sums.{sum_by-cons}
use Rattle.std.proofs.lemmas.Bool.{cases_eq}
use Rattle.list_words.specs.Words.{has, has_all, times, without, once_below}
use Rattle.list_words.proofs.Tests.{when_true, when_false}
use Rattle.list_words.proofs.Lists.{self_eq, times_cons}
use Rattle.list_words.proofs.Sums.{sum_below, sum-without, times_without, gone_without}
use Rattle.list_words.proofs.Ranges.{range_add}

pub range_more : (a n h : ℕ) → a + n ≡ h → range_with_len a (n + 1) ≡ range_with_len a n ++ h ∷ []
range_more a n h e = range_add a n 1 ∙ ap (λ (k : ℕ). range_with_len a n ++ k ∷ []) e

-- the layers up to h, and one more
pub range_up : (a h : ℕ) → a ≤ h → range_with_len a (h + 1 - a) ≡ range_with_len a (h - a) ++ h ∷ []
range_up a h le = ap (range_with_len a) (let e : h + 1 - a ≡ h - a + 1 = omega arith in e) ∙ range_more a (h - a) h (omega arith)

-- and those behind it
pub range_split : (a h b : ℕ) → a ≤ h → h ≤ b → range_with_len a (b - a) ≡ range_with_len a (h - a) ++ range_with_len h (b - h)
range_split a h b le up =
    ap (range_with_len a) (let e : b - a ≡ h - a + (b - h) = omega arith in e) ∙ range_add a (h - a) (b - h) ∙ ap (λ (k : ℕ). range_with_len a (h - a) ++ range_with_len k (b - h)) (let e : a + (h - a) ≡ h = omega arith in e)

-- each number of a range stands in the list
pub all_has : (a n : ℕ) (ids : List ℕ) → ((x : ℕ) → a ≤ x → x < a + n → has x ids ≡ true) → has_all (range_with_len a n) ids ≡ true
all_has a zero ids h = refl
all_has a (suc n) ids h = λ i. h a (omega arith) (omega arith) i && all_has (a + 1) n ids (λ x lo hi. h x (omega arith) (omega arith)) i

-- a number stands in a range once, and outside not at all
pub times_range : (x a n : ℕ) → (times x (range_with_len a n) ≤ once_below x (a + n)) × (x < a → times x (range_with_len a n) ≡ 0)
times_range x a zero = (omega arith, λ lt. refl)
times_range x a (suc n) =
    let h = times_range x (a + 1) n in
    let c = times_cons x a (range_with_len (a + 1) n) in
    let e : once_below x (a + 1 + n) ≡ once_below x (a + suc n) = ap (once_below x) (let f : a + 1 + n ≡ a + suc n = omega arith in f) in
    let h0 = h.0 in
    ⊎_elim
    (λ (s : x ≡ a).
    let z = h.1 (omega arith) in
    let o = when_true (a == x) 1 0 (grind (arith, nat_tests)) in
    let one : once_below x (a + suc n) ≡ 1 = (let lt : x < a + suc n = omega arith in grind (arith, nat_tests)) in
    (omega arith, λ lt. absurd (omega arith)))
    (λ (o : x ≢ a).
    let z = when_false (a == x) 1 0 (ne_eqb a x (λ s. o (sym s))) in
    (omega arith, λ lt. let y = h.1 (omega arith) in omega arith))
    (cases_eq x a)

-- the sum over different numbers below n
pub sum_at_most : (f : ℕ → ℕ) (n : ℕ) (xs : List ℕ) → ((x : ℕ) → times x xs ≤ once_below x n) → sum_by f xs ≤ sum_below f n
sum_at_most f zero [] once = omega arith
sum_at_most f zero (x ∷ xs) once =
    let o = once x in
    let c = times_cons x x xs in
    let s = when_true (x == x) 1 0 (self_eq x) in
    let z : once_below x 0 ≡ 0 = grind (arith, nat_tests) in
    absurd (omega arith)
sum_at_most f (suc n) xs once =
    let r = sum-without f n xs in
    let h = sum_at_most f n (without n xs) stripped in
    let o = once n in
    let one : once_below n (suc n) ≡ 1 = grind (arith, nat_tests) in
    let m : times n xs * f n ≤ 1 * f n = mul-le-mul_right (f n) (omega arith) in
    omega arith
  where
    stripped : (x : ℕ) → times x (without n xs) ≤ once_below x n
    stripped x = ⊎_elim
        (λ (s : x ≡ n). let g = gone_without n xs in let p : times x (without n xs) ≡ times n (without n xs) = ap (λ (k : ℕ). times k (without n xs)) s in omega arith)
        (λ (o : x ≢ n). let t = times_without n x xs o in let b = once x in let same : once_below x (suc n) ≡ once_below x n = (let ne = o in grind (arith, nat_tests)) in omega arith)
        (cases_eq x n)

-- there are at most n different numbers below n
pub few_numbers : (n : ℕ) (xs : List ℕ) → ((x : ℕ) → times x xs ≤ once_below x n) → length xs ≤ n
few_numbers n xs once =
    let s = sum_at_most (λ x. 1) n xs once in
    let a = ones xs in
    let b = ones_below n in
    omega arith
  where
    ones : (xs : List ℕ) → sum_by (λ x. 1) xs ≡ length xs
    ones [] = refl
    ones (x ∷ xs) = let c = sum_by-cons (λ (x : ℕ). 1) x xs in let h = ones xs in omega arith

    ones_below : (n : ℕ) → sum_below (λ x. 1) n ≡ n
    ones_below zero = refl
    ones_below (suc n) = let h = ones_below n in omega arith
