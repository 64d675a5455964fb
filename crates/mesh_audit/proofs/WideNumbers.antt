-- Numbers of 64 and of 128 bits, as they come back from where they are kept.
use Rattle.std.proofs.Common.{◌≡◌, ℕ, ◌^◌, ◌+◌, ap, ◌<◌, ◌≤◌, arith, unsigned_abs, ℤ, w64, to_z, of_z}
use Rattle.std.proofs.lemmas.Int.{to_z-of_z, fits_signed_from_abs}
use mir.Syntax.{w128}

pub back_128 : (a : ℤ) → unsigned_abs a ≤ 2 ^ 105 → to_z w128 (of_z w128 a) ≡ a
back_128 a h = let below : unsigned_abs a < 2 ^ 127 = omega arith in to_z-of_z w128 a (fits_signed_from_abs w128 a below)

pub back_64 : (a : ℤ) → unsigned_abs a ≤ 2 ^ 34 → to_z w64 (of_z w64 a) ≡ a
back_64 a h = let below : unsigned_abs a < 2 ^ 63 = omega arith in to_z-of_z w64 a (fits_signed_from_abs w64 a below)

-- the size of a sum that was made of two such numbers
pub sized_sum : (a b r : ℤ) (m n : ℕ) → unsigned_abs a ≤ m → unsigned_abs b ≤ n → to_z w128 (of_z w128 a) ≡ a → to_z w128 (of_z w128 b) ≡ b → unsigned_abs r ≤ unsigned_abs (to_z w128 (of_z w128 a)) + unsigned_abs (to_z w128 (of_z w128 b)) → unsigned_abs r ≤ m + n
sized_sum a b r m n p q e f h = let d = ap unsigned_abs e in let g = ap unsigned_abs f in omega arith
