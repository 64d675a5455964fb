-- Sums over lists in which each number stands once, and how many different numbers lists can have.
use Rattle.std.proofs.Common.{◌≡◌, ◌≢◌, ℕ, zero, suc, ◌+◌, ◌*◌, ◌<◌, ◌≤◌, ◌==◌, eq-eqb, ne_eqb, List, [], ◌∷◌, length, Bool, true, false, not, if◌then◌else◌, refl, sym, ap, ◌∙◌, arith, map, All}
use Rattle.std.specs.List.{sum_by, flat_map}
use Rattle.std.proofs.lemmas.Bool.Decides.{nat_tests}
use Rattle.std.proofs.lemmas.List.Sums.{sum_by-append, sum_by-cons}
use Rattle.std.proofs.lemmas.Bool.{both_ways}
use Rattle.std.proofs.lemmas.List.Elements.{All-head, All-tail}
use Rattle.list_words.specs.Words.{has, times, without, once_below, EachOnce}
use Rattle.list_words.proofs.Tests.{when_true, when_false}
use Rattle.list_words.proofs.Lists.{self_eq, times_append, times_cons, times_has, has_without}

-- how often a number stands in joined lists
pub times-flat_map : {X : Type 0} (f : X → List ℕ) (x : ℕ) (rs : List X) → times x (flat_map f rs) ≡ sum_by (λ r. times x (f r)) rs
times-flat_map f x [] = refl
times-flat_map f x (r ∷ rs) =
    let a = times_append x (f r) (flat_map f rs) in
    let h = times-flat_map f x rs in
    let c = sum_by-cons (λ r. times x (f r)) r rs in
    omega arith

-- the sum over a list of what a function gives, and over joined lists
pub sum_by-map : {X Y : Type 0} (q : Y → ℕ) (f : X → Y) (xs : List X) → sum_by q (map f xs) ≡ sum_by (λ x. q (f x)) xs
sum_by-map q f [] = refl
sum_by-map q f (x ∷ xs) = sum_by-cons q (f x) (map f xs) ∙ ap (λ n. q (f x) + n) (sum_by-map q f xs) ∙ sym (sum_by-cons (λ x. q (f x)) x xs)

pub sum_by-flat_map : {X Y : Type 0} (q : Y → ℕ) (f : X → List Y) (xs : List X) → sum_by q (flat_map f xs) ≡ sum_by (λ x. sum_by q (f x)) xs
sum_by-flat_map q f [] = refl
sum_by-flat_map q f (x ∷ xs) =
    sum_by-append q (f x) (flat_map f xs) ∙ ap (λ n. sum_by q (f x) + n) (sum_by-flat_map q f xs) ∙ sym (sum_by-cons (λ x. sum_by q (f x)) x xs)

-- sums of functions that agree on a list
pub sums_agree : {X : Type 0} (f g : X → ℕ) (xs : List X) → All (λ x. f x ≡ g x) xs → sum_by f xs ≡ sum_by g xs
sums_agree f g [] all = refl
sums_agree f g (x ∷ xs) all =
    let a = sum_by-cons f x xs in
    let b = sum_by-cons g x xs in
    let h = All-head (λ x. f x ≡ g x) x xs all in
    let t = sums_agree f g xs (All-tail (λ x. f x ≡ g x) x xs all) in
    omega arith

-- the sum over a list without a number
pub sum-without : (g : ℕ → ℕ) (n : ℕ) (xs : List ℕ) → sum_by g xs ≡ sum_by g (without n xs) + times n xs * g n
sum-without g n [] = omega arith
sum-without g n (x ∷ xs) =
    let h = sum-without g n xs in
    let c = sum_by-cons g x xs in
    let t = times_cons n x xs in
    by_test (x == n) refl (sum_by g (x ∷ xs)) (times n (x ∷ xs)) c t h
  where
    by_test : (b : Bool) → (x == n) ≡ b → (l k : ℕ) → l ≡ g x + sum_by g xs → k ≡ (if b then 1 else 0) + times n xs → sum_by g xs ≡ sum_by g (without n xs) + times n xs * g n
        → l ≡ sum_by g (if not b then x ∷ without n xs else without n xs) + k * g n
    by_test true is l k c t h =
        let same : x ≡ n = grind (arith, nat_tests) in
        let e : g x ≡ g n = ap g same in
        let m : k * g n ≡ (1 + times n xs) * g n = ap (λ (i : ℕ). i * g n) t in
        omega arith
    by_test false is l k c t h =
        let w = sum_by-cons g x (without n xs) in
        let m : k * g n ≡ (0 + times n xs) * g n = ap (λ (i : ℕ). i * g n) t in
        omega arith

pub times_without : (n x : ℕ) (xs : List ℕ) → x ≢ n → times x (without n xs) ≡ times x xs
times_without n x [] ne = refl
times_without n x (y ∷ ys) ne = by_test (y == n) refl (times_without n x ys ne) ∙ sym (times_cons x y ys)
  where
    by_test : (b : Bool) → (y == n) ≡ b → times x (without n ys) ≡ times x ys → times x (if not b then y ∷ without n ys else without n ys) ≡ (if y == x then 1 else 0) + times x ys
    by_test true is h =
        let same : y ≡ n = grind (arith, nat_tests) in
        let o = when_false (y == x) 1 0 (ne_eqb y x (λ (e : y ≡ x). ne (sym e ∙ same))) in
        omega arith
    by_test false is h = let c = times_cons x y (without n ys) in omega arith

pub gone_without : (n : ℕ) (xs : List ℕ) → times n (without n xs) ≡ 0
gone_without n xs = times_has n (without n xs) (none (has n (without n xs)) refl)
  where
    none : (b : Bool) → has n (without n xs) ≡ b → has n (without n xs) ≡ false
    none true e = absurd ((has_without n n xs e).0 refl)
    none false e = e

pub at_most_without : (n x : ℕ) (xs : List ℕ) → times x xs ≤ 1 → times x (without n xs) ≤ 1
at_most_without n x xs le = by_test (x == n) refl
  where
    by_test : (b : Bool) → (x == n) ≡ b → times x (without n xs) ≤ 1
    by_test true e = let s : x ≡ n = grind (arith, nat_tests) in let z = gone_without n xs in let p : times x (without n xs) ≡ times n (without n xs) = ap (λ (k : ℕ). times k (without n xs)) s in omega arith
    by_test false e = let ne : x ≢ n = (λ (s : x ≡ n). both_ways (x == n) e (eq-eqb x n s)) in let t = times_without n x xs ne in omega arith

-- the numbers below n, summed
abbrev pub sum_below : (ℕ → ℕ) → ℕ → ℕ
sum_below g zero = 0
sum_below g (suc n) = sum_below g n + g n

pub sum_once : (g : ℕ → ℕ) (n : ℕ) (xs : List ℕ) → EachOnce n xs → sum_by g xs ≡ sum_below g n
sum_once g zero [] once = refl
sum_once g zero (x ∷ xs) once =
    let o = once x in
    let c = times_cons x x xs in
    let s = when_true (x == x) 1 0 (self_eq x) in
    let z : once_below x 0 ≡ 0 = grind (arith, nat_tests) in
    absurd (omega arith)
sum_once g (suc n) xs once =
    let r = sum-without g n xs in
    let h = sum_once g n (without n xs) stripped in
    let o = once n in
    let one : once_below n (suc n) ≡ 1 = grind (arith, nat_tests) in
    last (times n xs) (g n) _ _ _ r h (o ∙ one)
  where
    last : (t f x y z : ℕ) → x ≡ y + t * f → y ≡ z → t ≡ 1 → x ≡ z + f
    last t f x y z a b e = let p : t * f ≡ 1 * f = ap (λ (k : ℕ). k * f) e in omega arith

    stripped : (x : ℕ) → times x (without n xs) ≡ once_below x n
    stripped x = by_test (x == n) refl
      where
        by_test : (b : Bool) → (x == n) ≡ b → times x (without n xs) ≡ once_below x n
        by_test true e =
            let s : x ≡ n = grind (arith, nat_tests) in
            let p : times x (without n xs) ≡ times n (without n xs) = ap (λ (k : ℕ). times k (without n xs)) s in
            let z : 0 ≡ once_below x n = grind (arith, nat_tests) in
            p ∙ gone_without n xs ∙ z
        by_test false e =
            let ne : x ≢ n = (λ (s : x ≡ n). both_ways (x == n) e (eq-eqb x n s)) in
            let same : once_below x (suc n) ≡ once_below x n = grind (arith, nat_tests) in
            times_without n x xs ne ∙ once x ∙ same

-- without the n numbers from k on
abbrev pub without_run : ℕ → ℕ → List ℕ → List ℕ
without_run k zero xs = xs
without_run k (suc n) xs = without (k + n) (without_run k n xs)

pub run_once : (k n x : ℕ) (xs : List ℕ) → times x xs ≤ 1 → times x (without_run k n xs) ≤ 1
run_once k zero x xs le = le
run_once k (suc n) x xs le = at_most_without (k + n) x (without_run k n xs) (run_once k n x xs le)

pub length-without : (n : ℕ) (xs : List ℕ) → length xs ≡ length (without n xs) + times n xs
length-without n [] = refl
length-without n (x ∷ xs) = let h = length-without n xs in by_test (x == n) (times n (x ∷ xs)) (times_cons n x xs) h
  where
    by_test : (b : Bool) (k : ℕ) → k ≡ (if b then 1 else 0) + times n xs → length xs ≡ length (without n xs) + times n xs → suc (length xs) ≡ length (if not b then x ∷ without n xs else without n xs) + k
    by_test true k t h = omega arith
    by_test false k t h = omega arith

pub run_length : (k n : ℕ) (xs : List ℕ) → ((x : ℕ) → times x xs ≤ 1) → length xs ≤ length (without_run k n xs) + n
run_length k zero xs once = omega arith
run_length k (suc n) xs once =
    let h = run_length k n xs once in
    let s = length-without (k + n) (without_run k n xs) in
    let o = run_once k n (k + n) xs (once (k + n)) in
    omega arith

pub outside_run : (k n x : ℕ) (xs : List ℕ) → has x (without_run k n xs) ≡ true → (has x xs ≡ true) × (k ≤ x → x < k + n → ⊥)
outside_run k zero x xs e = (e, λ a b. absurd (omega arith))
outside_run k (suc n) x xs e =
    let s = has_without x (k + n) (without_run k n xs) e in
    let r = outside_run k n x xs s.1 in
    (r.0, λ a b. by_last (x == (k + n)) refl a b s.0 r.1)
  where
    by_last : (c : Bool) → (x == (k + n)) ≡ c → k ≤ x → x < k + suc n → x ≢ k + n → (k ≤ x → x < k + n → ⊥) → ⊥
    by_last true f a b ne o = ne (grind (arith, nat_tests))
    by_last false f a b ne o = let lt : x ≢ k + n = ne in o a (omega arith)
