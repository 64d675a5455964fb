-- The number of a node is a rank, and counts of parts add up to ranks.
use Rattle.std.proofs.Common.{[], ◌≡◌, ◌≢◌, ℕ, zero, suc, ◌+◌, ◌<◌, Bool, true, false, not, cond, ◌==◌, List, ◌∷◌, ◌++◌, length, refl, sym, ap, ◌∙◌, arith, length-append}
use Rattle.std.specs.List.{range_with_len, position_or_len, filter}
use Rattle.std.proofs.lemmas.Bool.Decides.{nat_tests}
use Rattle.std.proofs.lemmas.List.Elements.{filter-append}
use Rattle.list_words.proofs.Ranges.{range_add}

-- of a range in two parts that follow each other, those that pass a test, and how many do
pub filter_split : (p : ℕ → Bool) (a m n : ℕ) → filter p (range_with_len a (m + n)) ≡ filter p (range_with_len a m) ++ filter p (range_with_len (a + m) n)
filter_split p a m n = ap (filter p) (range_add a m n) ∙ filter-append p (range_with_len a m) (range_with_len (a + m) n)

pub count_split : (p : ℕ → Bool) (a m n : ℕ) → length (filter p (range_with_len a (m + n))) ≡ length (filter p (range_with_len a m)) + length (filter p (range_with_len (a + m) n))
count_split p a m n = ap length (filter_split p a m n) ∙ length-append (filter p (range_with_len a m)) (filter p (range_with_len (a + m) n))

first : (b : Bool) (a key : ℕ) (rest : List ℕ) → b ≡ true → key ≡ a → position_or_len (λ k. k == key) (cond b (a ∷ rest) rest) ≡ 0
first true a key rest h e = at (a == key) (search_same a key e)
  where
    at : (b : Bool) → b ≡ true → cond (not b) (1 + position_or_len (λ k. k == key) rest) 0 ≡ 0
    at true h = refl
    at false h = cc

    search_same : (a key : ℕ) → key ≡ a → (a == key) ≡ true
    search_same a key e = grind (arith, nat_tests)
first false a key rest h e = cc

later : (b : Bool) (a key : ℕ) (rest : List ℕ) (n : ℕ) → a ≢ key → position_or_len (λ k. k == key) rest ≡ n → position_or_len (λ k. k == key) (cond b (a ∷ rest) rest) ≡ n + cond b 1 0
later true a key rest n ne e = at (a == key) (other a key ne)
  where
    at : (b : Bool) → b ≡ false → cond (not b) (1 + position_or_len (λ k. k == key) rest) 0 ≡ n + 1
    at true h = cc
    at false h = omega arith

    other : (a key : ℕ) → a ≢ key → (a == key) ≡ false
    other a key ne = grind (arith, nat_tests)
later false a key rest n ne e = omega arith

more : (b : Bool) (a : ℕ) (rest : List ℕ) → length (cond b (a ∷ rest) rest) ≡ length rest + cond b 1 0
more true a rest = omega arith
more false a rest = omega arith

-- the place of a key among those that pass, from a on
rank_from : (p : ℕ → Bool) (a m n key : ℕ) → p key ≡ true → key ≡ a + m → m < n → position_or_len (λ k. k == key) (filter p (range_with_len a n)) ≡ length (filter p (range_with_len a m))
rank_from p a m zero key h e lt = absurd (omega arith)
rank_from p a zero (suc n) key h e lt = let f : key ≡ a = omega arith in first (p a) a key (filter p (range_with_len (a + 1) n)) (ap p (sym f) ∙ h) f
rank_from p a (suc m) (suc n) key h e lt =
    later (p a) a key (filter p (range_with_len (a + 1) n)) (length (filter p (range_with_len (a + 1) m))) (λ f. absurd (omega arith)) (rank_from p (a + 1) m n key h (omega arith) (omega arith))
    ∙ sym (more (p a) a (filter p (range_with_len (a + 1) m)))

-- the number of a key is how many lower ones pass
pub rank_is : (p : ℕ → Bool) (n key : ℕ) → p key ≡ true → key < n → position_or_len (λ k. k == key) (filter p (range_with_len 0 n)) ≡ length (filter p (range_with_len 0 key))
rank_is p n key h lt = rank_from p 0 key n key h (omega arith) lt

one : (p : ℕ → Bool) (key : ℕ) (b : Bool) → p key ≡ b → length (filter p (range_with_len key 1)) ≡ cond b 1 0
one p key b e = at (p key) b e
  where
    at : (c b : Bool) → c ≡ b → length (cond c (key ∷ []) []) ≡ cond b 1 0
    at true true h = refl
    at false false h = refl
    at true false h = cc
    at false true h = cc
