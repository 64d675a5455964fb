-- How large a number of so many digits is.
use Rattle.std.proofs.Common.{ℕ, ◌≡◌, ◌+◌, ◌-◌, ◌*◌, ◌^◌, ◌<◌, ◌≤◌, suc, List, [], ◌∷◌, length, drop, get_or, drop-cons, Bool, true, false, ◌&&◌, nat_lt, Some, None, if◌then◌else◌, refl, ap, sym, ◌∙◌, subst, arith, lit<}
use Rattle.std.proofs.lemmas.Grind.{common_steps}
use Rattle.std.proofs.lemmas.Nat.{pow-add}
use Rattle.std.proofs.Math.Nat.{pow-le-pow_right, one-le-pow, mul-lt-mul_of_pos_right}
use Rattle.std.specs.Char.{digit_value}
use Rattle.std.specs.Str.Parse.{digits_value, digits_value_after}
use Rattle.list_words.proofs.Digits.{digits_grow}

pub small_fits : (v i : ℕ) → v < 10 ^ i → i < 9 → v * 10 + 10 ≤ 2 ^ 32
small_fits v i h one =
    let e : i ≤ 8 = omega arith in
    let b : 10 ^ i ≤ 10 ^ 8 = pow-le-pow_right (lit< tt) e in
    omega arith

pub long_fits : (v i : ℕ) → v < 10 ^ i → i < 18 → v * 10 + 10 ≤ 2 ^ 64
long_fits v i h one =
    let e : i ≤ 17 = omega arith in
    let b : 10 ^ i ≤ 10 ^ 17 = pow-le-pow_right (lit< tt) e in
    omega arith

-- the decimals of a number that is cut to so many, with zeros behind them
pub scaled_fits : (v k : ℕ) → v < 10 ^ k → k ≤ 18 → v * 10 ^ (18 - k) < 10 ^ 18
scaled_fits v k h few =
    let parts : k + (18 - k) ≡ 18 = omega arith in
    let power : 10 ^ 18 ≡ 10 ^ k * 10 ^ (18 - k) = subst (λ (n : ℕ). 10 ^ n ≡ 10 ^ k * 10 ^ (18 - k)) parts (pow-add 10 k (18 - k)) in
    let less : v * 10 ^ (18 - k) < 10 ^ k * 10 ^ (18 - k) = mul-lt-mul_of_pos_right h (one-le-pow (18 - k) 10 (lit< tt)) in
    omega (arith, power, less)

digit_is : (b : ℕ) → 48 ≤ b → b ≤ 57 → digit_value b ≡ b - 48
digit_is b low high = grind (arith, common_steps)

at_least : (b : Bool) (n : ℕ) → 1000000 ≤ n → None ≡ (if b && nat_lt n 1000000 then Some n else None)
at_least true n h = let t : nat_lt n 1000000 ≡ false = grind (arith, common_steps) in rw t refl
at_least false n h = refl

-- digits whose first ones are a million or more
pub too_many : (v i : ℕ) (ds : List ℕ) (b : Bool) → i < length ds → digits_value_after 10 v (drop i ds) ≡ digits_value 10 ds → 48 ≤ get_or ds i 0 → get_or ds i 0 ≤ 57 → 1000000 ≤ v * 10 + (get_or ds i 0 - 48) → None ≡ (if b && nat_lt (digits_value 10 ds) 1000000 then Some (digits_value 10 ds) else None)
too_many v i ds b lt value low high large =
    let front : drop i ds ≡ get_or ds i 0 ∷ drop (suc i) ds = drop-cons ds i 0 lt in
    let all : digits_value_after 10 (v * 10 + digit_value (get_or ds i 0)) (drop (suc i) ds) ≡ digits_value 10 ds = ap (λ (xs : List ℕ). digits_value_after 10 v xs) (sym front) ∙ value in
    at_least b (digits_value 10 ds) (omega (arith, digits_grow (v * 10 + digit_value (get_or ds i 0)) (drop (suc i) ds), all, digit_is (get_or ds i 0) low high))
