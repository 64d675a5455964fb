-- Small numbers and their sums, as they are kept.
use Rattle.std.proofs.Common.{◌≡◌, ◌<◌, ◌≤◌, ◌^◌, ◌∙◌, sym, subst, arith, FitsSigned, w64, to_z, of_z}
use Rattle.std.specs.Prelude.{unsigned_abs}
use Rattle.std.proofs.Math.IntN.{ℤ, pos, ◌*ℤ◌, ◌+ℤ◌}
use Rattle.std.proofs.lemmas.Int.{ints, fits_signed_from_abs}

pub read : (a : ℤ) → unsigned_abs a < 2 ^ 34 → to_z w64 (of_z w64 a) ≡ a
read a small = omega (arith, ints)

pub eightfold_kept : (a : ℤ) → unsigned_abs a < 2 ^ 34 → to_z w64 (of_z w64 (pos 8 *ℤ to_z w64 (of_z w64 a))) ≡ pos 8 *ℤ a
eightfold_kept a small = omega (arith, ints)

-- ---- sums of two and of four

pub read_sum : (a : ℤ) → unsigned_abs a ≤ 2 ^ 37 → to_z w64 (of_z w64 a) ≡ a
read_sum a small = omega (arith, ints)

pub sum_kept : (a b : ℤ) → unsigned_abs a ≤ 2 ^ 36 → unsigned_abs b ≤ 2 ^ 36 → to_z w64 (of_z w64 (to_z w64 (of_z w64 a) +ℤ to_z w64 (of_z w64 b))) ≡ a +ℤ b
sum_kept a b p q = omega (arith, ints)

module _ (a b c d : ℤ) (p : unsigned_abs a ≤ 2 ^ 35) (q : unsigned_abs b ≤ 2 ^ 35) (r : unsigned_abs c ≤ 2 ^ 35) (s : unsigned_abs d ≤ 2 ^ 35) where
  small : unsigned_abs ((a +ℤ b) +ℤ (c +ℤ d)) ≤ 2 ^ 37
  small = omega (arith, ints)

  halves_kept : to_z w64 (of_z w64 (to_z w64 (of_z w64 a) +ℤ to_z w64 (of_z w64 b))) +ℤ to_z w64 (of_z w64 (to_z w64 (of_z w64 c) +ℤ to_z w64 (of_z w64 d))) ≡ (a +ℤ b) +ℤ (c +ℤ d)
  halves_kept = λ t. sum_kept a b (omega arith) (omega arith) t +ℤ sum_kept c d (omega arith) (omega arith) t

  pub four_kept : to_z w64 (of_z w64 (to_z w64 (of_z w64 (to_z w64 (of_z w64 a) +ℤ to_z w64 (of_z w64 b))) +ℤ to_z w64 (of_z w64 (to_z w64 (of_z w64 c) +ℤ to_z w64 (of_z w64 d))))) ≡ (a +ℤ b) +ℤ (c +ℤ d)
  four_kept = (λ t. to_z w64 (of_z w64 (halves_kept t))) ∙ read_sum ((a +ℤ b) +ℤ (c +ℤ d)) small

  pub four_small : unsigned_abs (to_z w64 (of_z w64 (to_z w64 (of_z w64 (to_z w64 (of_z w64 a) +ℤ to_z w64 (of_z w64 b))) +ℤ to_z w64 (of_z w64 (to_z w64 (of_z w64 c) +ℤ to_z w64 (of_z w64 d)))))) ≤ 2 ^ 37
  four_small = subst (λ z. unsigned_abs z ≤ 2 ^ 37) (sym four_kept) small

  pub four_fit : FitsSigned w64 (to_z w64 (of_z w64 (to_z w64 (of_z w64 a) +ℤ to_z w64 (of_z w64 b))) +ℤ to_z w64 (of_z w64 (to_z w64 (of_z w64 c) +ℤ to_z w64 (of_z w64 d))))
  four_fit = subst (FitsSigned w64) (sym halves_kept) (fits_signed_from_abs w64 ((a +ℤ b) +ℤ (c +ℤ d)) (fits small))
    where
      fits : unsigned_abs ((a +ℤ b) +ℤ (c +ℤ d)) ≤ 2 ^ 37 → unsigned_abs ((a +ℤ b) +ℤ (c +ℤ d)) < 2 ^ 63
      fits m = omega arith
