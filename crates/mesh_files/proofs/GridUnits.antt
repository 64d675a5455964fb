-- A decimal in units of 1/8192, from its whole part and its fraction.
use Rattle.std.proofs.Common.{◌≡◌, ◌≢◌, ◌⊎◌, inl, inr, ℕ, ◌+◌, ◌-◌, ◌*◌, ◌/◌, ◌%◌, ◌^◌, ◌<◌, ◌≤◌, List, [], ◌++◌, length, Bool, true, false, eqb, sym, ap, ◌∙◌, subst, arith, zero, suc}
use Rattle.std.proofs.Math.Nat.{mul-mod_left, mul-div_cancel, mul_right_comm}
use Rattle.std.proofs.lemmas.Nat.{pow-add, div-add-mod'}
use Rattle.std.proofs.lemmas.Bool.{eq-eqb, ne_eqb, lt-ltb, le-ltb, and_from, and_left, and_right, both_ways}
use Rattle.std.proofs.lemmas.List.{length-append}
use Rattle.std.specs.List.{list_all}
use Rattle.std.specs.Char.{is_ascii_digit}
use Rattle.std.specs.Str.Parse.{digits_value}
use Rattle.mesh_files.specs.Numbers.{numerator, are_units, units}
use Rattle.mesh_files.proofs.Digits.{digits_append, digits_below, ten_positive, zero_is_zeros, zeros_are_zero}

cancel : (a b t : ℕ) → 0 < t → a * t ≡ b * t → a ≡ b
cancel a b t h e = sym (mul-div_cancel a h) ∙ ap (λ n. n / t) e ∙ mul-div_cancel b h

exact : (n q p : ℕ) → 0 < p → n ≡ q * p → (n % p ≡ 0) × (n / p ≡ q)
exact n q p h e = (ap (λ m. m % p) e ∙ mul-mod_left q p, ap (λ m. m / p) e ∙ mul-div_cancel q h)

-- both the number and its parts
whole_of : (whole fraction : List ℕ) → numerator whole fraction ≡ digits_value 10 whole * 10 ^ length fraction + digits_value 10 fraction
whole_of whole fraction = digits_append whole fraction

sum_of : (w p f q : ℕ) → f * 8192 ≡ q * p → (w * p + f) * 8192 ≡ (w * 8192 + q) * p
sum_of w p f q e = a w p f ∙ ap (λ n. w * p * 8192 + n) e ∙ b w p q
  where
    a : (w p f : ℕ) → (w * p + f) * 8192 ≡ w * p * 8192 + f * 8192
    a w p f = omega arith

    b : (w p q : ℕ) → w * p * 8192 + q * p ≡ (w * 8192 + q) * p
    b w p q = omega arith

small_of : (w p f : ℕ) → w < 1048576 → f < p → w * p + f < 1048576 * p
small_of w p f h g =
    let le : w * p ≤ 1048575 * p = Rattle.std.proofs.Math.Nat.mul-le-mul_right p (omega arith) in
    omega arith

large_of : (w p f : ℕ) → 1048576 ≤ w → 1048576 * p ≤ w * p + f
large_of w p f h =
    let le : 1048576 * p ≤ w * p = Rattle.std.proofs.Math.Nat.mul-le-mul_right p h in
    omega arith

-- a whole part that is small, and a fraction that is a multiple
pub are_units_from : (whole fraction : List ℕ) (q : ℕ) → list_all is_ascii_digit fraction ≡ true → digits_value 10 whole < 1048576 → digits_value 10 fraction * 8192 ≡ q * 10 ^ length fraction → (are_units whole fraction ≡ true) × (units whole fraction ≡ digits_value 10 whole * 8192 + q)
unfolding are_units units
are_units_from whole fraction q digits small e =
    let p = 10 ^ length fraction in
    let n : numerator whole fraction * 8192 ≡ (digits_value 10 whole * 8192 + q) * p = ap (λ m. m * 8192) (whole_of whole fraction) ∙ sum_of (digits_value 10 whole) p (digits_value 10 fraction) q e in
    let x = exact (numerator whole fraction * 8192) (digits_value 10 whole * 8192 + q) p (ten_positive (length fraction)) n in
    let below : numerator whole fraction < 1048576 * p = subst (λ m. m < 1048576 * p) (sym (whole_of whole fraction)) (small_of (digits_value 10 whole) p (digits_value 10 fraction) small (digits_below fraction digits)) in
    (and_from _ _ (eq-eqb _ 0 x.0) (lt-ltb _ _ below), x.1)

pub not_units_large : (whole fraction : List ℕ) → 1048576 ≤ digits_value 10 whole → are_units whole fraction ≡ false
unfolding are_units
not_units_large whole fraction h =
    let p = 10 ^ length fraction in
    let above : 1048576 * p ≤ numerator whole fraction = subst (λ m. 1048576 * p ≤ m) (sym (whole_of whole fraction)) (large_of (digits_value 10 whole) p (digits_value 10 fraction) h) in
    and_right _ _ (le-ltb _ _ above)

pub not_units_fine : (whole fraction : List ℕ) → ((k : ℕ) → digits_value 10 fraction * 8192 ≢ k * 10 ^ length fraction) → are_units whole fraction ≡ false
unfolding are_units
not_units_fine whole fraction never = and_left _ _ (ne_eqb _ 0 (λ e. never (numerator whole fraction * 8192 / 10 ^ length fraction - digits_value 10 whole * 8192) (part (numerator whole fraction * 8192) (digits_value 10 whole) (10 ^ length fraction) (digits_value 10 fraction) (ten_positive (length fraction)) e (ap (λ m. m * 8192) (whole_of whole fraction)))))
  where
    part : (n w p f : ℕ) → 0 < p → n % p ≡ 0 → n ≡ (w * p + f) * 8192 → f * 8192 ≡ (n / p - w * 8192) * p
    part n w p f h e g = go (n / p) (sym (div-add-mod' n p) ∙ ap (λ m. n / p * p + m) e)
      where
        go : (k : ℕ) → n ≡ k * p + 0 → f * 8192 ≡ (k - w * 8192) * p
        go k d =
            let le : w * 8192 ≤ k = at_most (w * 8192) k p h (low w p f k (sym d ∙ g)) in
            let s : k ≡ (k - w * 8192) + w * 8192 = omega arith in
            finish (k - w * 8192) (subst (λ m. m * p + 0 ≡ (w * p + f) * 8192) s (sym d ∙ g))
          where
            low : (w p f k : ℕ) → k * p + 0 ≡ (w * p + f) * 8192 → w * 8192 * p ≤ k * p
            low w p f k e = omega arith

            at_most : (a b p : ℕ) → 0 < p → a * p ≤ b * p → a ≤ b
            at_most a b p h le = by_order (Rattle.std.proofs.lemmas.Bool.cases_lt b a)
              where
                by_order : (b < a) ⊎ (a ≤ b) → a ≤ b
                by_order (inr m) = m
                by_order (inl m) = let step : (b + 1) * p ≤ a * p = Rattle.std.proofs.Math.Nat.mul-le-mul_right p (omega arith) in absurd (omega arith)

            finish : (j : ℕ) → (j + w * 8192) * p + 0 ≡ (w * p + f) * 8192 → f * 8192 ≡ j * p
            finish j e = omega arith

-- the first digits of a fraction as thirteen, and what stands behind them
pub exact_fraction : (front behind : List ℕ) (t q : ℕ) → 10 ^ length front * t ≡ 10 ^ 13 → digits_value 10 behind ≡ 0 → digits_value 10 front * t ≡ q * 1220703125 → digits_value 10 (front ++ behind) * 8192 ≡ q * 10 ^ length (front ++ behind)
exact_fraction front behind t q power none e =
    let v : digits_value 10 (front ++ behind) ≡ digits_value 10 front * 10 ^ length behind + 0 = digits_append front behind ∙ ap (λ n. digits_value 10 front * 10 ^ length behind + n) none in
    let l : 10 ^ length (front ++ behind) ≡ 10 ^ length front * 10 ^ length behind = ap (λ n. 10 ^ n) (length-append front behind) ∙ pow-add 10 (length front) (length behind) in
    ap (λ n. n * 8192) v ∙ scaled (digits_value 10 front) (10 ^ length front) (10 ^ length behind) q (front_exact (digits_value 10 front) (10 ^ length front) t q power e) ∙ ap (λ n. q * n) (sym l)
  where
    thirteen : (d t q : ℕ) → d * t ≡ q * 1220703125 → d * 8192 * t ≡ q * 10000000000000
    thirteen d t q e = omega arith

    front_exact : (d p t q : ℕ) → p * t ≡ 10 ^ 13 → d * t ≡ q * 1220703125 → d * 8192 ≡ q * p
    front_exact d p t q power e = cancel (d * 8192) (q * p) t (positive p t power) (thirteen d t q e ∙ ap (λ n. q * n) (sym power) ∙ Rattle.std.proofs.Common.sym (Rattle.std.proofs.Math.Nat.mul_assoc q p t))
      where
        positive : (p t : ℕ) → p * t ≡ 10 ^ 13 → 0 < t
        positive p zero e = absurd (omega (arith, e))
        positive p (suc t) e = omega arith

    scaled : (d p r q : ℕ) → d * 8192 ≡ q * p → (d * r + 0) * 8192 ≡ q * (p * r)
    scaled d p r q e = a d r ∙ ap (λ n. n * r) e ∙ Rattle.std.proofs.Math.Nat.mul_assoc q p r
      where
        a : (d r : ℕ) → (d * r + 0) * 8192 ≡ d * 8192 * r
        a d r = omega arith

-- a fraction of up to thirteen digits that is a multiple
pub short_fraction : (front : List ℕ) (t k : ℕ) → 10 ^ length front * t ≡ 10 ^ 13 → digits_value 10 front * 8192 ≡ k * 10 ^ length front → digits_value 10 front * t ≡ k * 1220703125
short_fraction front t k power e = go (digits_value 10 front) (10 ^ length front) power e
  where
    fewer : (n k : ℕ) → n * 8192 ≡ k * 10000000000000 → n ≡ k * 1220703125
    fewer n k e = omega arith

    go : (d p : ℕ) → p * t ≡ 10 ^ 13 → d * 8192 ≡ k * p → d * t ≡ k * 1220703125
    go d p power e = fewer (d * t) k (mul_right_comm d t 8192 ∙ ap (λ n. n * t) e ∙ Rattle.std.proofs.Math.Nat.mul_assoc k p t ∙ ap (λ n. k * n) power)

-- a longer one that is a multiple: its digits behind the thirteenth are zeros
pub long_fraction : (front behind : List ℕ) (k : ℕ) → length front ≡ 13 → list_all is_ascii_digit behind ≡ true → digits_value 10 (front ++ behind) * 8192 ≡ k * 10 ^ length (front ++ behind) → (digits_value 10 behind ≡ 0) × (digits_value 10 front ≡ k * 1220703125)
long_fraction front behind k len digits e =
    let l : 10 ^ length (front ++ behind) ≡ 10000000000000 * 10 ^ length behind = ap (λ n. 10 ^ n) (length-append front behind) ∙ pow-add 10 (length front) (length behind) ∙ ap (λ n. 10 ^ n * 10 ^ length behind) len in
    let f : (digits_value 10 front * 10 ^ length behind + digits_value 10 behind) * 8192 ≡ k * (10000000000000 * 10 ^ length behind) = ap (λ n. n * 8192) (sym (digits_append front behind)) ∙ e ∙ ap (λ n. k * n) l in
    go (digits_value 10 front) (10 ^ length behind) (digits_value 10 behind) (digits_below behind digits) (ten_positive (length behind)) (fewer (digits_value 10 front * 10 ^ length behind + digits_value 10 behind) (k * 10 ^ length behind) (f ∙ regroup k (10 ^ length behind)))
  where
    regroup : (k r : ℕ) → k * (10000000000000 * r) ≡ k * r * 10000000000000
    regroup k r = omega arith

    fewer : (n m : ℕ) → n * 8192 ≡ m * 10000000000000 → n ≡ m * 1220703125
    fewer n m e = omega arith

    go : (d r b : ℕ) → b < r → 0 < r → d * r + b ≡ k * r * 1220703125 → (b ≡ 0) × (d ≡ k * 1220703125)
    go d r b lt some h =
        let same = Rattle.std.proofs.lemmas.Nat.same_from_place d b (k * 1220703125) 0 r lt some (h ∙ again k r) in
        (same.1, same.0)
      where
        again : (k r : ℕ) → k * r * 1220703125 ≡ k * 1220703125 * r + 0
        again k r = omega arith

pub powers : (n : ℕ) → n ≤ 13 → 10 ^ n * 10 ^ (13 - n) ≡ 10 ^ 13
powers n h = let e : n + (13 - n) ≡ 13 = omega arith in sym (pow-add 10 n (13 - n)) ∙ ap (λ k. 10 ^ k) e

pub product_below : (v n p : ℕ) → n ≤ 13 → v < 10 ^ n → p ≡ 10 ^ (13 - n) → v * p < 10 ^ 13
product_below v n p le lt e =
    let some : 0 < p = subst (λ k. 0 < k) (sym e) (ten_positive (13 - n)) in
    let more : (v + 1) * p ≤ 10 ^ n * p = Rattle.std.proofs.Math.Nat.mul-le-mul_right p (omega arith) in
    let whole : 10 ^ n * p ≡ 10 ^ 13 = ap (λ k. 10 ^ n * k) e ∙ powers n le in
    omega arith

ended : (front behind : List ℕ) → length front ≤ 13 → (length front < 13 → behind ≡ []) → (length front ≡ 13) ⊎ (behind ≡ [])
ended front behind few rest = go (Rattle.std.proofs.lemmas.Bool.cases_lt (length front) 13)
  where
    go : (length front < 13) ⊎ (13 ≤ length front) → (length front ≡ 13) ⊎ (behind ≡ [])
    go (inl h) = inr (rest h)
    go (inr h) = inl (omega arith)

-- digits behind the thirteenth that are not all zeros
pub fine_behind : (front behind : List ℕ) → length front ≤ 13 → (length front < 13 → behind ≡ []) → list_all is_ascii_digit behind ≡ true → list_all (λ b. eqb b 48) behind ≡ false → (k : ℕ) → digits_value 10 (front ++ behind) * 8192 ≢ k * 10 ^ length (front ++ behind)
fine_behind front behind few rest digits some k e = go (ended front behind few rest)
  where
    go : (length front ≡ 13) ⊎ (behind ≡ []) → ⊥
    go (inl len) = both_ways _ some (zero_is_zeros behind digits (long_fraction front behind k len digits e).0)
    go (inr none) = both_ways _ some (ap (list_all (λ b. eqb b 48)) none)

multiple : (n k : ℕ) → n ≡ k * 1220703125 → n % 1220703125 ≡ 0
multiple n k e = omega arith

-- thirteen digits that are no multiple
pub fine_front : (front behind : List ℕ) → length front ≤ 13 → (length front < 13 → behind ≡ []) → list_all is_ascii_digit behind ≡ true → (digits_value 10 front * 10 ^ (13 - length front)) % 1220703125 ≢ 0 → (k : ℕ) → digits_value 10 (front ++ behind) * 8192 ≢ k * 10 ^ length (front ++ behind)
fine_front front behind few rest digits some k e = go (ended front behind few rest)
  where
    go : (length front ≡ 13) ⊎ (behind ≡ []) → ⊥
    go (inl len) =
        let d = (long_fraction front behind k len digits e).1 in
        let one : 10 ^ (13 - length front) ≡ 1 = ap (λ n. 10 ^ (13 - n)) len in
        some (multiple _ k (ap (λ n. digits_value 10 front * n) one ∙ times_one (digits_value 10 front) ∙ d))
      where
        times_one : (n : ℕ) → n * 1 ≡ n
        times_one n = omega arith
    go (inr none) =
        let whole : front ++ behind ≡ front = ap (λ ys. front ++ ys) none ∙ Rattle.std.proofs.lemmas.List.append-nil front in
        let short : digits_value 10 front * 8192 ≡ k * 10 ^ length front = subst (λ zs. digits_value 10 zs * 8192 ≡ k * 10 ^ length zs) whole e in
        some (multiple _ k (short_fraction front (10 ^ (13 - length front)) k (powers (length front) few) short))

-- zeros behind thirteen digits that are a multiple
pub exact_parts : (front behind : List ℕ) (n : ℕ) → length front ≤ 13 → list_all (λ b. eqb b 48) behind ≡ true → n ≡ digits_value 10 front * 10 ^ (13 - length front) → n % 1220703125 ≡ 0 → digits_value 10 (front ++ behind) * 8192 ≡ n / 1220703125 * 10 ^ length (front ++ behind)
exact_parts front behind n few zeros e h = exact_fraction front behind (10 ^ (13 - length front)) (n / 1220703125) (powers (length front) few) (zeros_are_zero behind zeros) (sym e ∙ by_five n h)
  where
    by_five : (n : ℕ) → n % 1220703125 ≡ 0 → n ≡ n / 1220703125 * 1220703125
    by_five n h = omega arith
