-- How many elements pass a test, by the places of those that do.
use Rattle.std.proofs.Common.{◌≡◌, ◌≢◌, ◌⊎◌, inl, inr, ℕ, zero, suc, ◌+◌, ◌<◌, ◌≤◌, Bool, true, false, cond, List, [], ◌∷◌, length, get_or, refl, ap, ◌∙◌, arith}
use Rattle.std.specs.Prelude.{count_by}
use Rattle.std.proofs.lemmas.Bool.{cases_Bool, cases_order}
use Rattle.std.proofs.lemmas.List.Sums.{sum_by-cons}

module _ {X : Type 0} (p : X → Bool) where
  here : (x : X) → ℕ
  here x = cond (p x) 1 0

  pub counts_yes : (x : X) (xs : List X) → p x ≡ true → count_by p (x ∷ xs) ≡ 1 + count_by p xs
  counts_yes x xs h = sum_by-cons (λ y. cond (p y) 1 0) x xs ∙ ap (λ b. cond b 1 0 + count_by p xs) h

  pub counts_no : (x : X) (xs : List X) → p x ≡ false → count_by p (x ∷ xs) ≡ count_by p xs
  counts_no x xs h = sum_by-cons (λ y. cond (p y) 1 0) x xs ∙ (ap (λ b. cond b 1 0 + count_by p xs) h ∙ omega arith)

  pub counts_more : (x : X) (xs : List X) → count_by p xs ≤ count_by p (x ∷ xs)
  counts_more x xs = elim (cases_Bool (p x)) [ inl h ↦ (let e = counts_yes x xs h in omega arith) | inr h ↦ (let e = counts_no x xs h in omega arith) ]

  pub counts_one : (xs : List X) (i : ℕ) (d : X) → i < length xs → p (get_or xs i d) ≡ true → 1 ≤ count_by p xs
  counts_one [] i d lt h = absurd (omega arith)
  counts_one (x ∷ xs) zero d lt h = let e = counts_yes x xs h in omega arith
  counts_one (x ∷ xs) (suc i) d lt h = let e = counts_more x xs in let f = counts_one xs i d (omega arith) h in omega arith

  pub counts_two : (xs : List X) (i j : ℕ) (d : X) → i < j → j < length xs → p (get_or xs i d) ≡ true → p (get_or xs j d) ≡ true → 2 ≤ count_by p xs
  counts_two [] i j d lt le h k = absurd (omega arith)
  counts_two (x ∷ xs) i zero d lt le h k = absurd (omega arith)
  counts_two (x ∷ xs) zero (suc j) d lt le h k = let e = counts_yes x xs h in let f = counts_one xs j d (omega arith) k in omega arith
  counts_two (x ∷ xs) (suc i) (suc j) d lt le h k = let e = counts_more x xs in let f = counts_two xs i j d (omega arith) (omega arith) h k in omega arith

  counts_three : (xs : List X) (i j k : ℕ) (d : X) → i < j → j < k → k < length xs → p (get_or xs i d) ≡ true → p (get_or xs j d) ≡ true → p (get_or xs k d) ≡ true → 3 ≤ count_by p xs
  counts_three [] i j k d ij jk le a b c = absurd (omega arith)
  counts_three (x ∷ xs) i j zero d ij jk le a b c = absurd (omega arith)
  counts_three (x ∷ xs) i zero (suc k) d ij jk le a b c = absurd (omega arith)
  counts_three (x ∷ xs) zero (suc j) (suc k) d ij jk le a b c = let e = counts_yes x xs a in let f = counts_two xs j k d (omega arith) (omega arith) b c in omega arith
  counts_three (x ∷ xs) (suc i) (suc j) (suc k) d ij jk le a b c = let e = counts_more x xs in let f = counts_three xs i j k d (omega arith) (omega arith) (omega arith) a b c in omega arith

  -- three places in any order
  pub counts_any_three : (xs : List X) (i j k : ℕ) (d : X) → i ≢ j → i ≢ k → j ≢ k → i < length xs → j < length xs → k < length xs → p (get_or xs i d) ≡ true → p (get_or xs j d) ≡ true → p (get_or xs k d) ≡ true → 3 ≤ count_by p xs
  counts_any_three xs i j k d ij ik jk li lj lk a b c =
      elim (cases_order i j) [
        | inl e ↦ absurd (ij e)
        | inr o ↦ elim (cases_order j k) [
          | inl e ↦ absurd (jk e)
          | inr q ↦ elim (cases_order i k) [
            | inl e ↦ absurd (ik e)
            | inr r ↦ ordered o q r
          ]
        ]
      ]
    where
      ordered : (i < j) ⊎ (j < i) → (j < k) ⊎ (k < j) → (i < k) ⊎ (k < i) → 3 ≤ count_by p xs
      ordered (inl x) (inl y) z = counts_three xs i j k d x y lk a b c
      ordered (inl x) (inr y) (inl z) = counts_three xs i k j d z y lj a c b
      ordered (inl x) (inr y) (inr z) = counts_three xs k i j d z x lj c a b
      ordered (inr x) (inl y) (inl z) = counts_three xs j i k d x z lk b a c
      ordered (inr x) (inl y) (inr z) = counts_three xs j k i d y z li b c a
      ordered (inr x) (inr y) z = counts_three xs k j i d y x li c b a

  counts_none : (xs : List X) → ((j : ℕ) (d : X) → j < length xs → p (get_or xs j d) ≡ false) → count_by p xs ≡ 0
  counts_none [] h = refl
  counts_none (x ∷ xs) h = counts_no x xs (h 0 x (omega arith)) ∙ counts_none xs (λ j d lt. h (suc j) d (omega arith))

  -- one place alone passes
  pub counts_single : (xs : List X) (i : ℕ) (d : X) → i < length xs → p (get_or xs i d) ≡ true → ((j : ℕ) (e : X) → j ≢ i → j < length xs → p (get_or xs j e) ≡ false) → count_by p xs ≡ 1
  counts_single [] i d lt h fails = absurd (omega arith)
  counts_single (x ∷ xs) zero d lt h fails =
      let e = counts_none xs (λ j e l. fails (suc j) e (λ z. absurd (omega arith)) (omega arith)) in
      let f = counts_yes x xs h in
      omega arith
  counts_single (x ∷ xs) (suc i) d lt h fails =
      counts_no x xs (fails 0 x (λ z. absurd (omega arith)) (omega arith)) ∙ counts_single xs i d (omega arith) h (λ j e ne l. fails (suc j) e (λ z. ne (omega arith)) (omega arith))
