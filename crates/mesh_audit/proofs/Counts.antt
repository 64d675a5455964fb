-- How often a test passes along a list.
use Rattle.std.proofs.Common.{◌≡◌, ◌≢◌, ℕ, ◌+◌, ◌-◌, ◌<◌, ◌≤◌, List, [], ◌∷◌, length, take, drop, map, get_or, Bool, true, false, cond, refl, sym, ap, ◌∙◌, arith, eqb}
use Rattle.std.proofs.lemmas.Bool.{eq-eqb, ne_eqb}
use Rattle.std.proofs.lemmas.List.{length-take, length-drop, get_or-take, get_or-drop, drop-drop}
use Rattle.std.proofs.lemmas.List.Elements.{All-head, All-tail}
use Rattle.std.proofs.lemmas.List.Sums.{sum_by-cons, sum_by-take-drop}
use Rattle.std.specs.List.{count_by, All}

pub count_none : {X : Type 0} (p : X → Bool) (xs : List X) → All (λ x. p x ≡ false) xs → count_by p xs ≡ 0
count_none p [] all = refl
count_none p (x ∷ xs) all =
    let head : p x ≡ false = All-head (λ y. p y ≡ false) x xs all in
    let rest : count_by p xs ≡ 0 = count_none p xs (All-tail (λ y. p y ≡ false) x xs all) in
    sum_by-cons (λ y. cond (p y) 1 0) x xs ∙ (λ i. cond (head i) 1 0 + rest i)

pub count_all : {X : Type 0} (p : X → Bool) (xs : List X) → All (λ x. p x ≡ true) xs → count_by p xs ≡ length xs
count_all p [] all = refl
count_all p (x ∷ xs) all =
    let head : p x ≡ true = All-head (λ y. p y ≡ true) x xs all in
    let rest : count_by p xs ≡ length xs = count_all p xs (All-tail (λ y. p y ≡ true) x xs all) in
    let step : cond true 1 0 + length xs ≡ length (x ∷ xs) = omega arith in
    sum_by-cons (λ y. cond (p y) 1 0) x xs ∙ (λ i. cond (head i) 1 0 + rest i) ∙ step

pub count_agree : {X : Type 0} (p q : X → Bool) (xs : List X) → All (λ x. p x ≡ q x) xs → count_by p xs ≡ count_by q xs
count_agree p q [] all = refl
count_agree p q (x ∷ xs) all =
    let head : p x ≡ q x = All-head (λ y. p y ≡ q y) x xs all in
    let rest : count_by p xs ≡ count_by q xs = count_agree p q xs (All-tail (λ y. p y ≡ q y) x xs all) in
    sum_by-cons (λ y. cond (p y) 1 0) x xs ∙ (λ i. cond (head i) 1 0 + rest i) ∙ sym (sum_by-cons (λ y. cond (q y) 1 0) x xs)

pub count_map : {X Y : Type 0} (p : Y → Bool) (f : X → Y) (xs : List X) → count_by p (map f xs) ≡ count_by (λ x. p (f x)) xs
count_map p f [] = refl
count_map p f (x ∷ xs) = sum_by-cons (λ y. cond (p y) 1 0) (f x) (map f xs) ∙ ap (λ n. cond (p (f x)) 1 0 + n) (count_map p f xs) ∙ sym (sum_by-cons (λ y. cond (p (f y)) 1 0) x xs)

-- a list in three parts
pub count_parts : {X : Type 0} (p : X → Bool) (xs : List X) (start end : ℕ) → start ≤ end → count_by p xs ≡ count_by p (take start xs) + (count_by p (take (end - start) (drop start xs)) + count_by p (drop end xs))
count_parts p xs start end le =
    let front = sum_by-take-drop (λ x. cond (p x) 1 0) xs start in
    let rest = sum_by-take-drop (λ x. cond (p x) 1 0) (drop start xs) (end - start) in
    let at : start + (end - start) ≡ end = omega arith in
    let behind : drop (end - start) (drop start xs) ≡ drop end xs = drop-drop (end - start) start xs ∙ ap (λ n. drop n xs) at in
    sym front ∙ ap (λ n. count_by p (take start xs) + n) (sym rest ∙ ap (λ ys. count_by p (take (end - start) (drop start xs)) + count_by p ys) behind)

-- the elements from start up to end
abbrev pub part : {X : Type 0} → List X → ℕ → ℕ → List X
part xs start end = take (end - start) (drop start xs)

-- A stretch of a sorted list with one number, such that the list has that number nowhere else.
pub record IsRun {X : Type 0} (n : X → ℕ) (xs : List X) (v start end : ℕ) : Type 0 where
  pub some : start < end
  pub within : end ≤ length xs
  pub before : (k : ℕ) (d : X) → k < start → n (get_or xs k d) < v
  pub inside : (k : ℕ) (d : X) → start ≤ k → k < end → n (get_or xs k d) ≡ v
  pub behind : (k : ℕ) (d : X) → end ≤ k → k < length xs → v < n (get_or xs k d)

pub part_length : {X : Type 0} (xs : List X) (start end : ℕ) → start ≤ end → end ≤ length xs → length (part xs start end) ≡ end - start
part_length xs start end p q = omega (arith, length-take (end - start) (drop start xs), length-drop start xs)

pub part_at : {X : Type 0} (xs : List X) (start end k : ℕ) (d : X) → k < end - start → get_or (part xs start end) k d ≡ get_or xs (start + k) d
part_at xs start end k d lt = get_or-take (end - start) (drop start xs) k d lt ∙ get_or-drop start xs k d

-- a test that passes only at elements with the run's number is counted in the run alone
pub count_in_run : {X : Type 0} (n : X → ℕ) (xs : List X) (v start end : ℕ) (p : X → Bool) → IsRun n xs v start end → ((x : X) → n x ≢ v → p x ≡ false) → count_by p xs ≡ count_by p (part xs start end)
count_in_run {X} n xs v start end p run only =
    let le : start ≤ end = omega (arith, run.some) in
    let front : count_by p (take start xs) ≡ 0 = count_none p (take start xs) (λ k d lt.
    let below : k < start = omega (arith, length-take start xs) in
    let less : n (get_or xs k d) < v = run.before k d below in
    ap p (get_or-take start xs k d below) ∙ only (get_or xs k d) (omega arith)) in
    let back : count_by p (drop end xs) ≡ 0 = count_none p (drop end xs) (λ k d lt.
    let below : end + k < length xs = omega (arith, length-drop end xs) in
    let from : end ≤ end + k = omega arith in
    let more : v < n (get_or xs (end + k) d) = run.behind (end + k) d from below in
    ap p (get_or-drop end xs k d) ∙ only (get_or xs (end + k) d) (omega arith)) in
    count_parts p xs start end le ∙ (λ i. front i + (count_by p (part xs start end) + back i)) ∙ tidy (count_by p (part xs start end))
  where
    tidy : (m : ℕ) → 0 + (m + 0) ≡ m
    tidy m = omega arith

pub run_count : {X : Type 0} (n : X → ℕ) (xs : List X) (v start end : ℕ) → IsRun n xs v start end → count_by (λ x. eqb (n x) v) xs ≡ end - start
run_count n xs v start end run =
    let le : start ≤ end = omega (arith, run.some) in
    let len : length (part xs start end) ≡ end - start = part_length xs start end le run.within in
    count_in_run n xs v start end (λ x. eqb (n x) v) run (λ x ne. ne_eqb (n x) v ne)
    ∙ count_all (λ x. eqb (n x) v) (part xs start end) (λ k d lt.
    let below : k < end - start = omega arith in
    let from : start ≤ start + k = omega arith in
    let to : start + k < end = omega arith in
    eq-eqb _ _ (ap n (part_at xs start end k d below) ∙ run.inside (start + k) d from to))
    ∙ len
