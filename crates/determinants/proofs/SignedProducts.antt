-- Products of signed numbers of 64 bits.
use Rattle.std.proofs.Common.{◌≡◌, ℕ, ◌+◌, ◌^◌, ◌<◌, ◌≤◌, ap, sym, subst, ◌∙◌, lit<, arith, unsigned_abs, ℤ, ◌+ℤ◌, ◌*ℤ◌, w64, FitsSigned, to_z, of_z}
use Rattle.std.proofs.lemmas.Int.{ints, to_z-of_z, fits_signed_mul, fits_signed_from_abs}
use Rattle.exact.proofs.IntegerOrder.{size_of_product}

fits : (a : ℤ) → unsigned_abs a ≤ 301891592 → FitsSigned w64 a
fits a h = let below : unsigned_abs a < 2 ^ 63 = omega arith in fits_signed_from_abs w64 a below

arguments_back : (a b : ℤ) → unsigned_abs a ≤ 301891592 → unsigned_abs b ≤ 301891592 → to_z w64 (of_z w64 a) *ℤ to_z w64 (of_z w64 b) ≡ a *ℤ b
arguments_back a b p q = ap (λ t. t *ℤ to_z w64 (of_z w64 b)) (to_z-of_z w64 a (fits a p)) ∙ ap (λ t. a *ℤ t) (to_z-of_z w64 b (fits b q))

-- the product that the code makes
pub product_back : (a b : ℤ) → unsigned_abs a ≤ 301891592 → unsigned_abs b ≤ 301891592 → to_z w64 (of_z w64 (to_z w64 (of_z w64 a) *ℤ to_z w64 (of_z w64 b))) ≡ a *ℤ b
product_back a b p q = ap (λ t. to_z w64 (of_z w64 t)) (arguments_back a b p q) ∙ to_z-of_z w64 (a *ℤ b) (fits_signed_mul w64 a b 301891592 301891592 p q (lit< tt))

-- a product that a call made, and its size
pub record IsProduct (r a b : ℤ) (n : ℕ) : Type 0 where
  pub value : r ≡ a *ℤ b
  pub size : unsigned_abs r ≤ n

pub normal_product : (r a b : ℤ) → unsigned_abs a ≤ 301891592 → unsigned_abs b ≤ 301891592 → r ≡ to_z w64 (of_z w64 a) *ℤ to_z w64 (of_z w64 b) → IsProduct r a b 91138533320294464
normal_product r a b p q e = let value : r ≡ a *ℤ b = e ∙ arguments_back a b p q in record { value = value; size = subst (λ (t : ℤ). unsigned_abs t ≤ 91138533320294464) (sym value) (size_of_product a b 301891592 301891592 p q) }

pub edge_product : (r a b : ℤ) → unsigned_abs a ≤ 12286 → unsigned_abs b ≤ 12286 → r ≡ to_z w64 (of_z w64 a) *ℤ to_z w64 (of_z w64 b) → IsProduct r a b 150945796
edge_product r a b p q e = let value : r ≡ a *ℤ b = e ∙ arguments_back a b (omega arith) (omega arith) in record { value = value; size = subst (λ (t : ℤ). unsigned_abs t ≤ 150945796) (sym value) (size_of_product a b 12286 12286 p q) }

fits_sum : (a b : ℤ) (m n : ℕ) → unsigned_abs a ≤ m → unsigned_abs b ≤ n → m + n < 2 ^ 63 → FitsSigned w64 (a +ℤ b)
fits_sum a b m n p q h = let below : unsigned_abs (a +ℤ b) < 2 ^ 63 = omega (arith, ints) in fits_signed_from_abs w64 (a +ℤ b) below

-- the sum that the code makes
pub sum_back : (a b : ℤ) (m n : ℕ) → unsigned_abs a ≤ m → unsigned_abs b ≤ n → m + n < 2 ^ 63 → to_z w64 (of_z w64 (to_z w64 (of_z w64 a) +ℤ to_z w64 (of_z w64 b))) ≡ a +ℤ b
sum_back a b m n p q h =
    let left : unsigned_abs a < 2 ^ 63 = omega arith in
    let right : unsigned_abs b < 2 ^ 63 = omega arith in
    ap (λ t. to_z w64 (of_z w64 (t +ℤ to_z w64 (of_z w64 b)))) (to_z-of_z w64 a (fits_signed_from_abs w64 a left))
    ∙ ap (λ t. to_z w64 (of_z w64 (a +ℤ t))) (to_z-of_z w64 b (fits_signed_from_abs w64 b right))
    ∙ to_z-of_z w64 (a +ℤ b) (fits_sum a b m n p q h)

pub size_of_sum : (a b : ℤ) (m n : ℕ) → unsigned_abs a ≤ m → unsigned_abs b ≤ n → unsigned_abs (a +ℤ b) ≤ m + n
size_of_sum a b m n p q = omega (arith, ints)

-- three products of coordinates of normals
pub three_back : (x y z : ℤ) → unsigned_abs x ≤ 91138533320294464 → unsigned_abs y ≤ 91138533320294464 → unsigned_abs z ≤ 91138533320294464 →
    to_z w64 (of_z w64 (to_z w64 (of_z w64 (to_z w64 (of_z w64 x) +ℤ to_z w64 (of_z w64 y))) +ℤ to_z w64 (of_z w64 z))) ≡ (x +ℤ y) +ℤ z
three_back x y z p q r = go (to_z w64 (of_z w64 (to_z w64 (of_z w64 x) +ℤ to_z w64 (of_z w64 y)))) (sum_back x y 91138533320294464 91138533320294464 p q (lit< tt))
  where
    again : (s : ℤ) → unsigned_abs s ≤ 182277066640588928 → to_z w64 (of_z w64 (s +ℤ to_z w64 (of_z w64 z))) ≡ s +ℤ z
    again s h =
        let below : unsigned_abs s < 2 ^ 63 = omega arith in
        ap (λ t. to_z w64 (of_z w64 (t +ℤ to_z w64 (of_z w64 z)))) (sym (to_z-of_z w64 s (fits_signed_from_abs w64 s below))) ∙ sum_back s z 182277066640588928 91138533320294464 h r (lit< tt)

    go : (s : ℤ) → s ≡ x +ℤ y → to_z w64 (of_z w64 (s +ℤ to_z w64 (of_z w64 z))) ≡ (x +ℤ y) +ℤ z
    go s e = ap (λ t. to_z w64 (of_z w64 (t +ℤ to_z w64 (of_z w64 z)))) e ∙ again (x +ℤ y) (size_of_sum x y 91138533320294464 91138533320294464 p q)
