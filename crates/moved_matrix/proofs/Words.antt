-- Small numbers as words of 32 and 64 bits, and the sizes of weights.
use Rattle.std.proofs.Common.{◌≡◌, ℕ, ◌+◌, ◌*◌, ◌<◌, ◌≤◌, ◌^◌, Bool, true, false, cond, max, unsigned_abs, ℤ, pos, to_z, of_z, w32, w64, FitsSigned, ◌∙◌, arith}
use Rattle.std.specs.Prelude.{◌-ℤ◌}
use Rattle.std.proofs.Math.IntN.{◌+ℤ◌, ◌*ℤ◌, nat_abs}
use Rattle.std.proofs.lemmas.Int.{ints, to_z-of_z, fits_signed_from_abs}
use Rattle.definitions.specs.Vectors.{dot}
use Rattle.bcc_lattice.specs.Bounds.{IsSmallPlace}
use Rattle.exact.proofs.IntegerOrder.{size_of_product}
use Rattle.lattice_laws.specs.Vectors.{Vector, norm}

abbrev pub word_64 : ℤ → ℤ
word_64 a = to_z w64 (of_z w64 a)

pub fits_32 : (a : ℤ) → unsigned_abs a ≤ 16384 → FitsSigned w32 a
fits_32 a h = let small : unsigned_abs a < 2 ^ 31 = omega (arith, h) in fits_signed_from_abs w32 a small

back_64 : (a : ℤ) → unsigned_abs a ≤ 2 ^ 46 → word_64 a ≡ a
back_64 a h = let small : unsigned_abs a < 2 ^ 63 = omega (arith, h) in to_z-of_z w64 a (fits_signed_from_abs w64 a small)

size_less : (a b : ℤ) (m n : ℕ) → unsigned_abs a ≤ m → unsigned_abs b ≤ n → unsigned_abs (a -ℤ b) ≤ m + n
size_less a b m n h i = omega (arith, ints)

-- a difference of two words
pub less_back : (a b : ℤ) → unsigned_abs a ≤ 2 ^ 45 → unsigned_abs b ≤ 2 ^ 45 → word_64 (word_64 a -ℤ word_64 b) ≡ a -ℤ b
less_back a b h i =
    (λ t. word_64 (back_64 a (wider (unsigned_abs a) h) t -ℤ back_64 b (wider (unsigned_abs b) i) t)) ∙ back_64 (a -ℤ b) (twice (unsigned_abs (a -ℤ b)) (size_less a b (2 ^ 45) (2 ^ 45) h i))
  where
    wider : (n : ℕ) → n ≤ 2 ^ 45 → n ≤ 2 ^ 46
    wider n h = omega arith

    twice : (n : ℕ) → n ≤ 2 ^ 45 + 2 ^ 45 → n ≤ 2 ^ 46
    twice n h = omega arith

-- a vector's coordinates by its norm
pub within_norm : (p : Vector) → norm p ≤ 2047 → IsSmallPlace 2047 p
within_norm p h = record { x = one p.x p.y p.z h; y = two p.x p.y p.z h; z = three p.x p.y p.z h }
  where
    one : (a b c : ℤ) → max (max (nat_abs a) (nat_abs b)) (nat_abs c) ≤ 2047 → unsigned_abs a ≤ 2047
    one a b c h = omega arith

    two : (a b c : ℤ) → max (max (nat_abs a) (nat_abs b)) (nat_abs c) ≤ 2047 → unsigned_abs b ≤ 2047
    two a b c h = omega arith

    three : (a b c : ℤ) → max (max (nat_abs a) (nat_abs b)) (nat_abs c) ≤ 2047 → unsigned_abs c ≤ 2047
    three a b c h = omega arith

-- a form at a displacement
pub dot_small : (p q : Vector) → IsSmallPlace 1 p → IsSmallPlace 2047 q → unsigned_abs (dot p q) ≤ 6141
dot_small p q h i = three (p.x *ℤ q.x) (p.y *ℤ q.y) (p.z *ℤ q.z) (size_of_product p.x q.x 1 2047 h.x i.x) (size_of_product p.y q.y 1 2047 h.y i.y) (size_of_product p.z q.z 1 2047 h.z i.z)
  where
    three : (a b c : ℤ) → unsigned_abs a ≤ 1 * 2047 → unsigned_abs b ≤ 1 * 2047 → unsigned_abs c ≤ 1 * 2047 → unsigned_abs (a +ℤ b +ℤ c) ≤ 6141
    three a b c h i j = omega (arith, ints)

pub weight_small : (a b : ℤ) → unsigned_abs a ≤ 8192 → unsigned_abs b ≤ 6141 → unsigned_abs (a +ℤ b) ≤ 16384
weight_small a b h i = omega (arith, ints)

-- the sum of a base and a form at a displacement, in words
pub weight_back : (base r d : ℤ) → unsigned_abs base ≤ 8192 → unsigned_abs d ≤ 6141 → r ≡ d → word_64 (word_64 base +ℤ word_64 r) ≡ base +ℤ d
weight_back base r d h i e =
    (λ t. word_64 (back_64 base (wide (unsigned_abs base) h) t +ℤ word_64 (e t)))
    ∙ (λ t. word_64 (base +ℤ back_64 d (wide_too (unsigned_abs d) i) t))
    ∙ back_64 (base +ℤ d) (wide_sum (unsigned_abs (base +ℤ d)) (weight_small base d h i))
  where
    wide : (n : ℕ) → n ≤ 8192 → n ≤ 2 ^ 46
    wide n h = omega arith

    wide_too : (n : ℕ) → n ≤ 6141 → n ≤ 2 ^ 46
    wide_too n h = omega arith

    wide_sum : (n : ℕ) → n ≤ 16384 → n ≤ 2 ^ 46
    wide_sum n h = omega arith

-- 8192 or nothing
own_small : (t : Bool) (r : ℤ) → r ≡ cond t (pos 8192) (pos 0) → unsigned_abs r ≤ 8192
own_small true r e = omega (arith, ints)
own_small false r e = omega (arith, ints)

pub own_word : (t : Bool) (r : ℤ) → r ≡ cond t (pos 8192) (pos 0) → word_64 r ≡ cond t (pos 8192) (pos 0)
own_word t r e = back_64 r (wide (unsigned_abs r) (own_small t r e)) ∙ e
  where
    wide : (n : ℕ) → n ≤ 8192 → n ≤ 2 ^ 46
    wide n h = omega arith

pub own_word_small : (t : Bool) (r : ℤ) → r ≡ cond t (pos 8192) (pos 0) → unsigned_abs (word_64 r) ≤ 8192
own_word_small t r e = own_small t (word_64 r) (own_word t r e)
