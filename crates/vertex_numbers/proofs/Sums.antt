-- Sums over ranges.
use Rattle.std.proofs.Common.{◌≡◌, ℕ, zero, suc, ◌+◌, ◌-◌, ◌*◌, ◌<◌, ◌≤◌, Bool, cond, List, length, map, arith, refl, sym, ap, ◌∙◌}
use Rattle.std.specs.Prelude.{filter}
use Rattle.std.specs.List.{range_with_len, sum_by}
use Rattle.std.proofs.lemmas.List.Sums.{sum_by-append, sum_by-cons, length-filter}
use Rattle.list_words.proofs.Ranges.{range_add}
use Rattle.list_words.proofs.Sums.{sum_by-map}
use Rattle.node_laws.proofs.Ranks.{count_split}
use Rattle.vertex_numbers.specs.Bits.{trues}

-- two ranges that follow each other, and one more number at the end
pub sum_join : (f : ℕ → ℕ) (a m n : ℕ) → sum_by f (range_with_len a (m + n)) ≡ sum_by f (range_with_len a m) + sum_by f (range_with_len (a + m) n)
sum_join f a m n = ap (sum_by f) (range_add a m n) ∙ sum_by-append f (range_with_len a m) (range_with_len (a + m) n)

pub sum_next : (f : ℕ → ℕ) (a n : ℕ) → sum_by f (range_with_len a (n + 1)) ≡ sum_by f (range_with_len a n) + f (a + n)
sum_next f a n = sum_join f a n 1 ∙ ap (λ m. sum_by f (range_with_len a n) + m) (zero_more (f (a + n)))
  where
    zero_more : (n : ℕ) → 0 + n ≡ n
    zero_more n = omega arith

-- the first number of a range, and those after it
pub sum_first : (f : ℕ → ℕ) (s a b : ℕ) → a < b → sum_by f (range_with_len (s + a) (b - a)) ≡ f (s + a) + sum_by f (range_with_len (s + (a + 1)) (b - (a + 1)))
sum_first f s a b lt =
    ap (λ n. sum_by f (range_with_len (s + a) n)) (one_less a b lt)
    ∙ sum_by-cons f (s + a) (range_with_len (s + a + 1) (b - (a + 1)))
    ∙ ap (λ m. f (s + a) + sum_by f (range_with_len m (b - (a + 1)))) (next s a)
  where
    one_less : (a b : ℕ) → a < b → b - a ≡ suc (b - (a + 1))
    one_less a b lt = omega arith

    next : (s a : ℕ) → s + a + 1 ≡ s + (a + 1)
    next s a = omega arith

-- two parts of a range
pub sum_parts : (f : ℕ → ℕ) (s a b : ℕ) → a ≤ b → sum_by f (range_with_len s a) + sum_by f (range_with_len (s + a) (b - a)) ≡ sum_by f (range_with_len s b)
sum_parts f s a b le = sym (sum_join f s a (b - a)) ∙ ap (λ n. sum_by f (range_with_len s n)) (whole a b le)
  where
    whole : (a b : ℕ) → a ≤ b → a + (b - a) ≡ b
    whole a b le = omega arith

pub sums_alike : (f g : ℕ → ℕ) (a n : ℕ) → ((k : ℕ) → a ≤ k → k < a + n → f k ≡ g k) → sum_by f (range_with_len a n) ≡ sum_by g (range_with_len a n)
sums_alike f g a zero h = refl
sums_alike f g a (suc n) h =
    sum_by-cons f a (range_with_len (a + 1) n)
    ∙ (λ i. h a (omega arith) (omega arith) i + sums_alike f g (a + 1) n (λ k lo hi. h k (omega arith) (omega arith)) i)
    ∙ sym (sum_by-cons g a (range_with_len (a + 1) n))

pub sum_same : (f : ℕ → ℕ) (c a n : ℕ) → ((k : ℕ) → a ≤ k → k < a + n → f k ≡ c) → sum_by f (range_with_len a n) ≡ n * c
sum_same f c a zero h = none c
  where
    none : (c : ℕ) → 0 ≡ 0 * c
    none c = omega arith
sum_same f c a (suc n) h =
    sum_by-cons f a (range_with_len (a + 1) n) ∙ (λ i. h a (omega arith) (omega arith) i + sum_same f c (a + 1) n (λ k lo hi. h k (omega arith) (omega arith)) i) ∙ more n c
  where
    more : (n c : ℕ) → c + n * c ≡ suc n * c
    more n c = omega arith

pub length-filter_trues : {X : Type 0} (p : X → Bool) (xs : List X) → length (filter p xs) ≡ trues (map p xs)
length-filter_trues p xs = length-filter p xs ∙ sym (sum_by-map (λ b. cond b 1 0) p xs)

-- the keys of each id
pub keys_by_ids : (p : ℕ → Bool) (a n : ℕ) → length (filter p (range_with_len (8 * a) (8 * n))) ≡ sum_by (λ m. length (filter p (range_with_len (8 * m) 8))) (range_with_len a n)
keys_by_ids p a zero = refl
keys_by_ids p a (suc n) =
    ap (λ m. length (filter p (range_with_len (8 * a) m))) (eight_more n)
    ∙ count_split p (8 * a) 8 (8 * n)
    ∙ ap (λ m. length (filter p (range_with_len (8 * a) 8)) + length (filter p (range_with_len m (8 * n)))) (next a)
    ∙ ap (λ m. length (filter p (range_with_len (8 * a) 8)) + m) (keys_by_ids p (a + 1) n)
    ∙ sym (sum_by-cons (λ m. length (filter p (range_with_len (8 * m) 8))) a (range_with_len (a + 1) n))
  where
    eight_more : (n : ℕ) → 8 * suc n ≡ 8 + 8 * n
    eight_more n = omega arith

    next : (a : ℕ) → 8 * a + 8 ≡ 8 * (a + 1)
    next a = omega arith
