-- Parts of a step, forwards and backwards.
use Rattle.std.proofs.Common.{◌≡◌, ℕ, ◌*◌, ◌<◌, ◌≤◌, ◌^◌, arith, ap, sym, ◌∙◌, ℤ, pos, w64, w32, to_z, of_z}
use Rattle.std.specs.Prelude.{◌+ℤ◌, ◌-ℤ◌, ◌*ℤ◌, neg_ℤ, unsigned_abs}
use Rattle.std.proofs.lemmas.Int.{ints, to_z-of_z, fits_signed_from_abs}
use Rattle.exact.proofs.IntegerLaws.{mul_add, mul_neg, neg_mul}
use Rattle.exact.proofs.IntegerOrder.{size_of_product}
use Rattle.bcc_lattice.specs.Directions.{IsSmallStep}

pub step_small : (s : ℤ) → IsSmallStep s → unsigned_abs s ≤ 2
step_small s h = let l = h.low in let u = h.high in omega (arith, ints)

sum_small : (a b : ℤ) → unsigned_abs a ≤ 2 ^ 44 → unsigned_abs b ≤ 2 * 2 ^ 16 → unsigned_abs (a +ℤ b) ≤ 2 ^ 45
sum_small a b p q = omega (arith, ints)

pub moved_small : (a s k : ℤ) → unsigned_abs a ≤ 2 ^ 44 → IsSmallStep s → unsigned_abs k ≤ 2 ^ 16 → unsigned_abs (a +ℤ (s *ℤ k)) ≤ 2 ^ 45
moved_small a s k p h q = sum_small a (s *ℤ k) p (size_of_product s k 2 (2 ^ 16) (step_small s h) q)

small_read : (a : ℤ) → unsigned_abs a ≤ 2 ^ 45 → to_z w64 (of_z w64 a) ≡ a
small_read a p = to_z-of_z w64 a (fits_signed_from_abs w64 a (omega arith))

step_read : (s : ℤ) → unsigned_abs s ≤ 2 → to_z w64 (of_z w64 (to_z w32 (of_z w32 s))) ≡ s
step_read s h = omega (arith, ints)

-- as the program works it out in 64 bits
pub moved_read : (a s k : ℤ) → unsigned_abs a ≤ 2 ^ 44 → IsSmallStep s → unsigned_abs k ≤ 2 ^ 16 →
    to_z w64 (of_z w64 (to_z w64 (of_z w64 a) +ℤ to_z w64 (of_z w64 (to_z w64 (of_z w64 (to_z w32 (of_z w32 s))) *ℤ to_z w64 (of_z w64 k))))) ≡ a +ℤ (s *ℤ k)
moved_read a s k p h q =
    let product : unsigned_abs (s *ℤ k) ≤ 2 * 2 ^ 16 = size_of_product s k 2 (2 ^ 16) (step_small s h) q in
    (λ i. to_z w64 (of_z w64 (small_read a (omega arith) i +ℤ to_z w64 (of_z w64 (step_read s (step_small s h) i *ℤ small_read k (omega arith) i)))))
    ∙ ap (λ z. to_z w64 (of_z w64 (a +ℤ z))) (small_read (s *ℤ k) (omega arith))
    ∙ small_read (a +ℤ (s *ℤ k)) (sum_small a (s *ℤ k) p product)

-- back by a whole step, and forwards by k parts
pub back_and_on : (a s : ℤ) (k : ℕ) → a +ℤ (s *ℤ (pos k -ℤ pos 4096)) ≡ (a +ℤ (neg_ℤ s *ℤ pos 4096)) +ℤ (s *ℤ pos k)
back_and_on a s k =
    ap (λ z. a +ℤ z) (ap (λ z. s *ℤ z) (less k) ∙ mul_add s (pos k) (neg_ℤ (pos 4096)) ∙ ap (λ z. (s *ℤ pos k) +ℤ z) (mul_neg s (pos 4096)))
    ∙ swap a (s *ℤ pos k) (s *ℤ pos 4096)
    ∙ ap (λ z. (a +ℤ z) +ℤ (s *ℤ pos k)) (sym (neg_mul s (pos 4096)))
  where
    less : (k : ℕ) → pos k -ℤ pos 4096 ≡ pos k +ℤ neg_ℤ (pos 4096)
    less k = omega (arith, ints)

    swap : (a p q : ℤ) → a +ℤ (p +ℤ neg_ℤ q) ≡ (a +ℤ neg_ℤ q) +ℤ p
    swap a p q = omega (arith, ints)

pub number_read : (k : ℕ) → k < 2 ^ 16 → to_z w64 k ≡ pos k
number_read k h = omega (arith, ints)

pub back_read : (k : ℕ) → k < 2 ^ 16 → to_z w64 (of_z w64 (to_z w64 k -ℤ pos 4096)) ≡ pos k -ℤ pos 4096
back_read k h = omega (arith, ints)
