-- What it means that a bit of a word is set.
use Rattle.std.proofs.Common.{◌≡◌, ℕ, ◌+◌, ◌-◌, ◌*◌, ◌/◌, ◌%◌, ◌^◌, ◌<◌, ◌≤◌, ◌⊎◌, inl, inr, refl, sym, ap, ◌∙◌, arith, w64, Bool, true, false}
use Rattle.std.specs.Prelude.{bit_and, bit_or, min, max}
use Rattle.std.specs.Int.{bit_at, from_bool}
use Rattle.std.proofs.lemmas.Nat.{one_shl, shr-shr, pow_pos}
use Rattle.std.proofs.lemmas.Nat.Bits.{bit_at-lt, bit_at-zero, bit_at_and, bit_at_or, bit_at_not, bit_at_above, bit_at_cat_low, bit_at_cat_high, bit_at_ones_above}

pub where_is : (p n : ℕ) → (p < n) ⊎ (n ≤ p)
where_is p n = grind arith

pub not_both : {P : Type 0} (x : ℕ) → x ≡ 0 → x ≡ 1 → P
not_both x z o = absurd (omega arith)

-- in both words
pub in_both : (a b i : ℕ) → bit_at (bit_and a b) i ≡ 1 → (bit_at a i ≡ 1) × (bit_at b i ≡ 1)
in_both a b i h = go (bit_at a i) (bit_at b i) (bit_at-lt a i) (bit_at-lt b i) (sym (bit_at_and a b i) ∙ h)
  where
    go : (x y : ℕ) → x < 2 → y < 2 → min x y ≡ 1 → (x ≡ 1) × (y ≡ 1)
    go x y p q e = (omega arith, omega arith)

-- in one of them
pub in_either : (a b i : ℕ) → bit_at (bit_or a b) i ≡ 1 → (bit_at a i ≡ 1) ⊎ (bit_at b i ≡ 1)
in_either a b i h = go (bit_at a i) (bit_at b i) (bit_at-lt a i) (bit_at-lt b i) (sym (bit_at_or a b i) ∙ h)
  where
    go : (x y : ℕ) → x < 2 → y < 2 → max x y ≡ 1 → (x ≡ 1) ⊎ (y ≡ 1)
    go x y p q e = grind arith

-- in the lowest bits alone
pub within_word : (n w i : ℕ) → n < 2 ^ w → bit_at n i ≡ 1 → i < w
within_word n w i fits h = elim (where_is i w) [
  | inl below ↦ below
  | inr above ↦ not_both (bit_at n i) (bit_at_above n w i fits above) h
]

pub in_lowest : (n w i : ℕ) → bit_at (n % 2 ^ w) i ≡ 1 → bit_at n i ≡ 1
in_lowest n w i h =
    let p = pow_pos w in
    let low : n % 2 ^ w < 2 ^ w = omega arith in
    let parts : n ≡ n / 2 ^ w * 2 ^ w + n % 2 ^ w = omega arith in
    ap (λ m. bit_at m i) parts ∙ bit_at_cat_low (n / 2 ^ w) w (n % 2 ^ w) i (within_word (n % 2 ^ w) w i low h) ∙ h

-- in a word that was moved
pub moved_down : (n k i : ℕ) → bit_at (n / 2 ^ k) i ≡ 1 → bit_at n (k + i) ≡ 1
moved_down n k i h = ap (λ m. m % 2) (sym (shr-shr n k i)) ∙ h

pub moved_up : (n k w i : ℕ) → bit_at (n * 2 ^ k % 2 ^ w) i ≡ 1 → (k ≤ i) × (bit_at n (i - k) ≡ 1)
moved_up n k w i h = elim (where_is i k) [
  | inl below ↦ not_both (bit_at (n * 2 ^ k + 0) i) (bit_at_cat_low n k 0 i below ∙ bit_at-zero i) whole
  | inr above ↦ (above, sym (bit_at_cat_high n k 0 i (pow_pos k) above) ∙ whole)
]
  where
    same : n * 2 ^ k + 0 ≡ n * 2 ^ k
    same = omega arith

    whole : bit_at (n * 2 ^ k + 0) i ≡ 1
    whole = ap (λ m. bit_at m i) same ∙ in_lowest (n * 2 ^ k) w i h

-- in a word of ones
pub ones_are : (n : ℕ) → n < 64 → 1 * 2 ^ n % 2 ^ 64 - 1 ≡ 2 ^ n - 1
ones_are n h = ap (λ m. m - 1) (one_shl n 64 h)

pub one_of_ones : (n i : ℕ) → bit_at (2 ^ n - 1) i ≡ 1 → i < n
one_of_ones n i h = elim (where_is i n) [
  | inl below ↦ below
  | inr above ↦ not_both (bit_at (2 ^ n - 1) i) (bit_at_ones_above n i above) h
]

-- in a word whose bits were turned
pub not_in : (n i : ℕ) → bit_at (2 ^ 64 - 1 - n) i ≡ 1 → (i < 64) × (bit_at n i ≡ 0)
not_in n i h = elim (where_is n (2 ^ 64)) [
  | inl fits ↦ (low, go (bit_at n i) (bit_at-lt n i) (sym (bit_at_not w64 n i fits low) ∙ h))
  | inr large ↦
      (let none : 2 ^ 64 - 1 - n ≡ 0 = omega arith in
      not_both (bit_at 0 i) (bit_at-zero i) (ap (λ m. bit_at m i) (sym none) ∙ h))
]
  where
    small : 2 ^ 64 - 1 - n < 2 ^ 64
    small = omega arith

    low : i < 64
    low = within_word (2 ^ 64 - 1 - n) 64 i small h

    go : (x : ℕ) → x < 2 → 1 - x ≡ 1 → x ≡ 0
    go x p e = omega arith

-- in a word in which one more bit may be set
pub set_too : (word b w i : ℕ) (set : Bool) → bit_at (bit_or word (from_bool set * 2 ^ b % 2 ^ w)) i ≡ 1 → (bit_at word i ≡ 1) ⊎ ((i ≡ b) × (set ≡ true))
set_too word b w i set h = elim (in_either word (from_bool set * 2 ^ b % 2 ^ w) i h) [
  | inl old ↦ inl old
  | inr new ↦ (let m = moved_up (from_bool set) b w i new in inr (here set m.0 m.1))
]
  where
    here : (set : Bool) → b ≤ i → bit_at (from_bool set) (i - b) ≡ 1 → (i ≡ b) × (set ≡ true)
    here false low one = not_both (bit_at 0 (i - b)) (bit_at-zero (i - b)) one
    here true low one = let lowest = within_word 1 1 (i - b) (omega arith) one in (omega arith, refl)
