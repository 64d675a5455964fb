-- Eight answers as bits: each bit, how many are set, and how many below one.
use Rattle.std.proofs.Common.{◌≡◌, ℕ, zero, suc, ◌*◌, ◌%◌, ◌^◌, ◌<◌, ◌≤◌, Bool, true, false, ◌&&◌, ◌==◌, List, [], ◌∷◌, length, get_or, take, arith, refl}
use Rattle.std.specs.Prelude.{count_ones, nat_lt, not}
use Rattle.std.proofs.lemmas.Bool.{eqb-true, and_parts}
use Rattle.std.proofs.lemmas.Bool.Decides.{nat_tests}
use lib.Count.{ones, ones-le}
use Rattle.std.proofs.Math.Nat.{mod-lt}
use Rattle.lattice_laws.specs.FiniteTests.{below}
use Rattle.lattice_laws.proofs.FiniteTests.{below_at}
use Rattle.vertex_numbers.specs.Bits.{bits, has_bit, trues}

-- the test holds of each list of n answers
abbrev every : ℕ → (List Bool → Bool) → Bool
every zero p = p []
every (suc n) p = every n (λ bs. p (true ∷ bs)) && every n (λ bs. p (false ∷ bs))

each_of : (n : ℕ) (p : List Bool → Bool) → every n p ≡ true → (bs : List Bool) → length bs ≡ n → p bs ≡ true
each_of zero p h [] l = h
each_of zero p h (b ∷ bs) l = absurd (omega arith)
each_of (suc n) p h [] l = absurd (omega arith)
each_of (suc n) p h (true ∷ bs) l = each_of n (λ bs. p (true ∷ bs)) (and_parts (every n (λ bs. p (true ∷ bs))) (every n (λ bs. p (false ∷ bs))) h).0 bs (omega arith)
each_of (suc n) p h (false ∷ bs) l = each_of n (λ bs. p (false ∷ bs)) (and_parts (every n (λ bs. p (true ∷ bs))) (every n (λ bs. p (false ∷ bs))) h).1 bs (omega arith)

abbrev same_bool : Bool → Bool → Bool
same_bool true b = b
same_bool false b = not b

from_same : (a b : Bool) → same_bool a b ≡ true → a ≡ b
from_same true true h = refl
from_same true false h = cc
from_same false true h = cc
from_same false false h = refl

all_counted : every 8 (λ bs. count_ones (bits bs) == trues bs) ≡ true
unfolding ones
all_counted = refl

all_read : every 8 (λ bs. below 8 (λ k. same_bool (has_bit (bits bs) k) (get_or bs k false))) ≡ true
all_read = refl

all_below : every 8 (λ bs. below 8 (λ k. count_ones (bits bs % 2 ^ k) == trues (take k bs))) ≡ true
unfolding ones
all_below = refl

module _ (bs : List Bool) (len : length bs ≡ 8) where
  pub ones_of_bits : count_ones (bits bs) ≡ trues bs
  ones_of_bits = eqb-true (count_ones (bits bs)) (trues bs) (each_of 8 (λ bs. count_ones (bits bs) == trues bs) all_counted bs len)

  pub bit_of : (k : ℕ) → k < 8 → has_bit (bits bs) k ≡ get_or bs k false
  bit_of k lt = from_same _ _ (below_at 8 (λ k. same_bool (has_bit (bits bs) k) (get_or bs k false)) (each_of 8 (λ bs. below 8 (λ k. same_bool (has_bit (bits bs) k) (get_or bs k false))) all_read bs len) k lt)

  -- how many are set below a bit
  pub ones_below : (k : ℕ) → k < 8 → count_ones (bits bs % 2 ^ k) ≡ trues (take k bs)
  ones_below k lt = eqb-true (count_ones (bits bs % 2 ^ k)) (trues (take k bs)) (below_at 8 (λ k. count_ones (bits bs % 2 ^ k) == trues (take k bs)) (each_of 8 (λ bs. below 8 (λ k. count_ones (bits bs % 2 ^ k) == trues (take k bs))) all_below bs len) k lt)

all_masks : below 8 (λ k. nat_lt 0 (1 * 2 ^ k % 256) && nat_lt (1 * 2 ^ k % 256) 256) ≡ true
all_masks = refl

-- the bits below one of eight are at most eight
pub few_below : (n k : ℕ) → k < 8 → count_ones (n % (1 * 2 ^ k % 256)) ≤ 8
few_below n k lt =
    let s = and_parts (nat_lt 0 (1 * 2 ^ k % 256)) (nat_lt (1 * 2 ^ k % 256) 256) (below_at 8 (λ k. nat_lt 0 (1 * 2 ^ k % 256) && nat_lt (1 * 2 ^ k % 256) 256) all_masks k lt) in
    let m = mod-lt n (from_test 0 (1 * 2 ^ k % 256) s.0) in
    let l = from_test (1 * 2 ^ k % 256) 256 s.1 in
    ones-le 8 (n % (1 * 2 ^ k % 256)) (below_256 _ _ m l)
  where
    from_test : (a b : ℕ) → nat_lt a b ≡ true → a < b
    from_test a b e = grind (arith, nat_tests)

    below_256 : (a b : ℕ) → a < b → b < 256 → a < 256
    below_256 a b p q = omega arith
