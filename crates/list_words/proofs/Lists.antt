-- Numbers in joined lists, in lists that they were joined to, and in lists without a number.
use Rattle.std.proofs.Common.{◌≡◌, ◌≢◌, ◌⊎◌, inl, inr, ℕ, zero, suc, ◌+◌, ◌<◌, ◌≤◌, ◌==◌, eq-eqb, ne_eqb, List, [], ◌∷◌, ◌++◌, length, take, drop, get_or, Bool, true, false, not, ◌||◌, if◌then◌else◌, true≢false, refl, sym, ◌∙◌, subst, ⊎_elim, arith, All, length-append}
use Rattle.std.specs.List.{range_with_len, list_any}
use Rattle.std.proofs.lemmas.Bool.Decides.{nat_tests}
use Rattle.std.proofs.lemmas.List.Folds.{list_any-append}
use Rattle.std.proofs.lemmas.List.Sums.{sum_by-append, sum_by-cons}
use Rattle.std.proofs.lemmas.Bool.{cases_eq, and_parts, or_cases, or_left, or_right, cases_Bool}
use Rattle.std.proofs.lemmas.List.{get_or_append_left, get_or-append-add}
use Rattle.list_words.specs.Words.{has, has_all, times, joined, without, once_below, EachOnce}
use Rattle.list_words.proofs.Tests.{when_true, when_false}

pub self_eq : (x : ℕ) → (x == x) ≡ true
self_eq x = grind (arith, nat_tests)

pub has_append : (x : ℕ) (xs ys : List ℕ) → has x (xs ++ ys) ≡ (has x xs || has x ys)
has_append x xs ys = list_any-append (λ y. y == x) xs ys

pub has_more : (x : ℕ) (xs ys : List ℕ) → has x xs ≡ true → has x (xs ++ ys) ≡ true
has_more x xs ys e = has_append x xs ys ∙ or_left (has x xs) (has x ys) e

pub has_one : (x y : ℕ) → has x (y ∷ []) ≡ true → x ≡ y
has_one x y e = ⊎_elim (λ (t : (y == x) ≡ true). let s : y ≡ x = grind (arith, nat_tests) in sym s) (λ (t : false ≡ true). absurd (true≢false (sym t))) (or_cases (y == x) false e)

pub has_last : (x : ℕ) (xs : List ℕ) → has x (xs ++ x ∷ []) ≡ true
has_last x xs = has_append x xs (x ∷ []) ∙ or_right (has x xs) (has x (x ∷ [])) (or_left (x == x) false (self_eq x))

pub has_at : (xs : List ℕ) (i d : ℕ) → i < length xs → has (get_or xs i d) xs ≡ true
has_at [] i d lt = absurd (omega arith)
has_at (x ∷ xs) zero d lt = or_left (x == x) (has x xs) (self_eq x)
has_at (x ∷ xs) (suc i) d lt = or_right (x == get_or xs i d) (has (get_or xs i d) xs) (has_at xs i d (omega arith))

-- a number in a list to which one was appended
pub has_pushed : (x y : ℕ) (xs : List ℕ) → has x (xs ++ y ∷ []) ≡ true → (x ≡ y) ⊎ (has x xs ≡ true)
has_pushed x y xs e = ⊎_elim (λ (o : has x xs ≡ true). inr o) (λ (n : has x (y ∷ []) ≡ true). inl (has_one x y n)) (or_cases (has x xs) (has x (y ∷ [])) (sym (has_append x xs (y ∷ [])) ∙ e))

pub has_joined : (x y : ℕ) (xs : List ℕ) → has x (joined y xs) ≡ true → (x ≡ y) ⊎ (has x xs ≡ true)
has_joined x y xs e = by_test (has y xs) e
  where
    by_test : (b : Bool) → has x (if b then xs else xs ++ y ∷ []) ≡ true → (x ≡ y) ⊎ (has x xs ≡ true)
    by_test true e = inr e
    by_test false e = has_pushed x y xs e

pub has_kept : (x y : ℕ) (xs : List ℕ) → has x xs ≡ true → has x (joined y xs) ≡ true
has_kept x y xs e = by_test (has y xs)
  where
    by_test : (b : Bool) → has x (if b then xs else xs ++ y ∷ []) ≡ true
    by_test true = e
    by_test false = has_more x xs (y ∷ []) e

pub has_new : (x : ℕ) (xs : List ℕ) → has x (joined x xs) ≡ true
has_new x xs = by_test (has x xs) refl
  where
    by_test : (b : Bool) → has x xs ≡ b → has x (if b then xs else xs ++ x ∷ []) ≡ true
    by_test true e = e
    by_test false e = has_last x xs

pub has_without : (k h : ℕ) (xs : List ℕ) → has k (without h xs) ≡ true → (k ≢ h) × (has k xs ≡ true)
has_without k h [] e = absurd (true≢false (sym e))
has_without k h (x ∷ xs) e = by_test (x == h) refl e (has_without k h xs)
  where
    by_test : (b : Bool) → (x == h) ≡ b → has k (if not b then x ∷ without h xs else without h xs) ≡ true → (has k (without h xs) ≡ true → (k ≢ h) × (has k xs ≡ true)) → (k ≢ h) × (((x == k) || has k xs) ≡ true)
    by_test true is e i = let r = i e in (r.0, or_right (x == k) (has k xs) r.1)
    by_test false is e i = ⊎_elim
        (λ (s : (x == k) ≡ true). ((λ (z : k ≡ h). let same : x ≡ k = grind (arith, nat_tests) in true≢false (sym (eq-eqb x h (same ∙ z)) ∙ is)), or_left (x == k) (has k xs) s))
        (λ (o : has k (without h xs) ≡ true). let r = i o in (r.0, or_right (x == k) (has k xs) r.1))
        (or_cases (x == k) (has k (without h xs)) e)

pub has_among : (x : ℕ) (xs ys : List ℕ) → has_all xs ys ≡ true → has x xs ≡ true → has x ys ≡ true
has_among x [] ys all e = absurd (true≢false (sym e))
has_among x (z ∷ zs) ys all e =
    let a = and_parts (has z ys) (has_all zs ys) all in
    ⊎_elim (λ (s : (z == x) ≡ true). let p : z ≡ x = grind (arith, nat_tests) in subst (λ (y : ℕ). has y ys ≡ true) p a.0) (λ (o : has x zs ≡ true). has_among x zs ys a.1 o) (or_cases (z == x) (has x zs) e)

pub has_range : (x a n : ℕ) → a ≤ x → x < a + n → has x (range_with_len a n) ≡ true
has_range x a zero lo hi = absurd (omega arith)
has_range x a (suc n) lo hi = ⊎_elim
    (λ (s : x ≡ a). or_left (a == x) (has x (range_with_len (a + 1) n)) (eq-eqb a x (sym s)))
    (λ (o : x ≢ a). or_right (a == x) (has x (range_with_len (a + 1) n)) (has_range x (a + 1) n (omega arith) (omega arith)))
    (cases_eq x a)

pub times_append : (x : ℕ) (xs ys : List ℕ) → times x (xs ++ ys) ≡ times x xs + times x ys
times_append x xs ys = sum_by-append (λ y. if y == x then 1 else 0) xs ys

pub times_cons : (x y : ℕ) (ys : List ℕ) → times x (y ∷ ys) ≡ (if y == x then 1 else 0) + times x ys
times_cons x y ys = sum_by-cons (λ y. if y == x then 1 else 0) y ys

pub times_one : (x : ℕ) → times x (x ∷ []) ≡ 1
times_one x = let c = times_cons x x [] in let o = when_true (x == x) 1 0 (self_eq x) in omega arith

pub times_none : (x y : ℕ) → x ≢ y → times x (y ∷ []) ≡ 0
times_none x y ne = let c = times_cons x y [] in let o = when_false (y == x) 1 0 (ne_eqb y x (λ e. ne (sym e))) in omega arith

pub times_has : (x : ℕ) (xs : List ℕ) → has x xs ≡ false → times x xs ≡ 0
times_has x [] e = refl
times_has x (y ∷ ys) e = times_cons x y ys ∙ by_test (y == x) e (times_has x ys)
  where
    by_test : (b : Bool) → (b || has x ys) ≡ false → (has x ys ≡ false → times x ys ≡ 0) → (if b then 1 else 0) + times x ys ≡ 0
    by_test true e i = absurd (true≢false e)
    by_test false e i = let t = i e in omega arith

pub has_times : (x : ℕ) (xs : List ℕ) → has x xs ≡ true → 1 ≤ times x xs
has_times x [] e = absurd (true≢false (sym e))
has_times x (y ∷ ys) e = subst (λ (n : ℕ). 1 ≤ n) (sym (times_cons x y ys)) (by_test (y == x) e (has_times x ys))
  where
    by_test : (b : Bool) → (b || has x ys) ≡ true → (has x ys ≡ true → 1 ≤ times x ys) → 1 ≤ (if b then 1 else 0) + times x ys
    by_test true e i = omega arith
    by_test false e i = let t = i e in omega arith

pub times_new : (x : ℕ) (xs : List ℕ) → has x xs ≡ false → times x (xs ++ x ∷ []) ≡ 1
times_new x xs e = let a = times_append x xs (x ∷ []) in let z = times_has x xs e in let o = times_one x in omega arith

pub times_other : (x y : ℕ) (xs : List ℕ) → x ≢ y → times x (xs ++ y ∷ []) ≡ times x xs
times_other x y xs ne = let a = times_append x xs (y ∷ []) in let o = times_none x y ne in omega arith

-- two lists that agree on a range have the same part there
pub same_part : (lo n : ℕ) (xs ys : List ℕ) → length xs ≡ length ys → ((i : ℕ) → lo ≤ i → i < lo + n → get_or xs i 0 ≡ get_or ys i 0) → take n (drop lo xs) ≡ take n (drop lo ys)
same_part lo n [] [] e same = refl
same_part lo n [] (y ∷ ys) e same = absurd (omega arith)
same_part lo n (x ∷ xs) [] e same = absurd (omega arith)
same_part zero zero (x ∷ xs) (y ∷ ys) e same = refl
same_part zero (suc n) (x ∷ xs) (y ∷ ys) e same = λ i. same 0 (omega arith) (omega arith) i ∷ same_part zero n xs ys (omega arith) (λ k lo hi. same (suc k) (omega arith) (omega arith)) i
same_part (suc lo) n (x ∷ xs) (y ∷ ys) e same = same_part lo n xs ys (omega arith) (λ k l h. same (suc k) (omega arith) (omega arith))

-- a place at which a test holds, where it holds somewhere
pub place_where : {X : Type 0} (t : X → Bool) (xs : List X) (d : X) → list_any t xs ≡ true → (k : ℕ) × (k < length xs) × (t (get_or xs k d) ≡ true)
place_where t [] d h = absurd (true≢false (sym h))
place_where t (x ∷ xs) d h =
    elim (or_cases (t x) (list_any t xs) h) [
      | inl e ↦ (0, omega arith, e)
      | inr e ↦ (let r = place_where t xs d e in (suc r.0, (let l = r.1 in omega arith), r.2))
    ]

-- what holds of each element of joined lists holds of each list's
pub all_left : {X : Type 0} (P : X → Type 0) (xs ys : List X) → All P (xs ++ ys) → All P xs
all_left P xs ys h = λ k d lt. subst P (get_or_append_left xs ys d k lt) (h k d (let l = length-append xs ys in omega arith))

pub all_right : {X : Type 0} (P : X → Type 0) (xs ys : List X) → All P (xs ++ ys) → All P ys
all_right P xs ys h = λ k d lt. subst P (get_or-append-add xs ys k d) (h (length xs + k) d (let l = length-append xs ys in omega arith))

-- each number below n stands in a list in which each stands once
pub each_stands : (n x : ℕ) (xs : List ℕ) → EachOnce n xs → x < n → has x xs ≡ true
each_stands n x xs once lt = ⊎_elim
    (λ (t : has x xs ≡ true). t)
    (λ (f : has x xs ≡ false). let z = times_has x xs f in let o = once x in let one : once_below x n ≡ 1 = grind (arith, nat_tests) in absurd (omega arith))
    (cases_Bool (has x xs))
