-- Lists that a function gives over a range, one after another: their lengths, their elements and counts in them.
use Rattle.std.proofs.Common.{◌≡◌, ℕ, zero, suc, ◌+◌, ◌<◌, ◌≤◌, arith, refl, sym, ap, ◌∙◌, zero-add, add-zero, Bool, true, false, cond, List, [], ◌∷◌, ◌++◌, length, get_or, length-append, subst}
use Rattle.std.specs.Prelude.{flat_map, count_by}
use Rattle.std.specs.List.{range_with_len, AllByRecursion}
use Rattle.std.proofs.lemmas.List.{get_or-append-add, get_or_append_left}
use Rattle.std.proofs.lemmas.List.Sums.{sum_by-append, sum_by-cons}

module _ {X : Type 0} (f : ℕ → List X) where
  -- the element at place k of f (a + i) stands after all of the lists before
  pub get_or-flat_map_range : (a n i k : ℕ) (d : X) → i < n → k < length (f (a + i)) → get_or (flat_map f (range_with_len a n)) (length (flat_map f (range_with_len a i)) + k) d ≡ get_or (f (a + i)) k d
  get_or-flat_map_range a zero i k d lt h = absurd (omega arith)
  get_or-flat_map_range a (suc n) zero k d lt h =
      let e : a + 0 ≡ a = add-zero a in
      let h' : k < length (f a) = subst (λ m. k < length (f m)) e h in
      ap (λ m. get_or (f a ++ flat_map f (range_with_len (a + 1) n)) m d) (zero-add k) ∙ get_or_append_left (f a) (flat_map f (range_with_len (a + 1) n)) d k h' ∙ ap (λ m. get_or (f m) k d) (sym e)
  get_or-flat_map_range a (suc n) (suc i) k d lt h =
      let e : a + suc i ≡ a + 1 + i = omega arith in
      let h' : k < length (f (a + 1 + i)) = subst (λ m. k < length (f m)) e h in
      ap (λ m. get_or (f a ++ flat_map f (range_with_len (a + 1) n)) m d) (place (length (f a)) (length (flat_map f (range_with_len (a + 1) i))) k (length-append (f a) (flat_map f (range_with_len (a + 1) i))))
      ∙ get_or-append-add (f a) (flat_map f (range_with_len (a + 1) n)) (length (flat_map f (range_with_len (a + 1) i)) + k) d
      ∙ get_or-flat_map_range (a + 1) n i k d (omega arith) h' ∙ ap (λ m. get_or (f m) k d) (sym e)
    where
      place : (p q k : ℕ) {r : ℕ} → r ≡ p + q → r + k ≡ p + (q + k)
      place p q k e = omega arith

  -- where S grows by the length of each list, it counts them
  pub length-flat_map_range : (S : ℕ → ℕ) → ((j : ℕ) → S (j + 1) ≡ S j + length (f j)) → (a n : ℕ) → S a + length (flat_map f (range_with_len a n)) ≡ S (a + n)
  length-flat_map_range S grows a zero = add-zero (S a) ∙ ap S (sym (add-zero a))
  length-flat_map_range S grows a (suc n) =
      sums (S a) (length (f a)) (length (flat_map f (range_with_len (a + 1) n))) (length-append (f a) (flat_map f (range_with_len (a + 1) n))) (grows a)
      ∙ length-flat_map_range S grows (a + 1) n
      ∙ ap S (let e : a + 1 + n ≡ a + suc n = omega arith in e)
    where
      sums : (s p q : ℕ) {r t : ℕ} → r ≡ p + q → t ≡ s + p → s + r ≡ t + q
      sums s p q e g = omega arith

  -- a count over the lists, where each has none of them
  pub count_none : (p : X → Bool) (a n : ℕ) → ((j : ℕ) → a ≤ j → count_by p (f j) ≡ 0) → count_by p (flat_map f (range_with_len a n)) ≡ 0
  count_none p a zero h = refl
  count_none p a (suc n) h =
      sum_by-append (λ x. cond (p x) 1 0) (f a) (flat_map f (range_with_len (a + 1) n))
      ∙ ap (λ m. m + count_by p (flat_map f (range_with_len (a + 1) n))) (h a (omega arith))
      ∙ zero-add (count_by p (flat_map f (range_with_len (a + 1) n)))
      ∙ count_none p (a + 1) n (λ j le. h j (omega arith))

pub count_all_true : {X : Type 0} (p : X → Bool) (xs : List X) → AllByRecursion (λ x. p x ≡ true) xs → count_by p xs ≡ length xs
count_all_true p [] h = refl
count_all_true p (x ∷ xs) h =
    sum_by-cons (λ u. cond (p u) 1 0) x xs ∙ ap (λ b. cond b 1 0 + count_by p xs) h.0 ∙ ap (λ m. 1 + m) (count_all_true p xs h.1) ∙ (let e : 1 + length xs ≡ suc (length xs) = omega arith in e)

pub count_all_false : {X : Type 0} (p : X → Bool) (xs : List X) → AllByRecursion (λ x. p x ≡ false) xs → count_by p xs ≡ 0
count_all_false p [] h = refl
count_all_false p (x ∷ xs) h =
    sum_by-cons (λ u. cond (p u) 1 0) x xs ∙ ap (λ b. cond b 1 0 + count_by p xs) h.0 ∙ zero-add (count_by p xs) ∙ count_all_false p xs h.1
