-- Coordinates below 2^40 in size are numbers of 64 bits.
use Rattle.std.proofs.Common.{◌≡◌, ◌^◌, ◌<◌, unsigned_abs, ℤ, w64, to_z, of_z, arith}
use Rattle.std.proofs.lemmas.Int.{to_z-of_z, fits_signed_from_abs}

pub back : (q : ℤ) → unsigned_abs q < 2 ^ 40 → to_z w64 (of_z w64 q) ≡ q
back q h = let below : unsigned_abs q < 2 ^ 63 = omega arith in to_z-of_z w64 q (fits_signed_from_abs w64 q below)
