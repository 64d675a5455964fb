-- Numbers in decimal digits.
use Rattle.std.proofs.Common.{◌≡◌, ℕ, ◌+◌, ◌*◌, ◌^◌, ◌<◌, ◌≤◌, List, [], ◌∷◌, decimal, true, nat_le, refl, arith, ◌-◌, ◌++◌, length, replicate, length-append}
use Rattle.std.proofs.lemmas.Grind.{common_steps}
use Rattle.std.proofs.lemmas.Bool.{le-leb}
use Rattle.std.proofs.lemmas.Bool.Decides.{nat_tests}
use Rattle.std.proofs.lemmas.Fmt.{decimal_is_IsNumeral, length-decimal-le}
use Rattle.std.specs.List.{AllByRecursion, list_all}
use Rattle.std.specs.Char.{digit_value, is_ascii_digit}
use Rattle.std.specs.Str.Parse.{AllDigits, digits_value_after}
use Rattle.std.proofs.lemmas.List.{length-replicate}

-- a decimal digit
abbrev pub IsDigit : ℕ → Type 0
IsDigit b = (48 ≤ b) × (b ≤ 57)

digit_of : (b : ℕ) → digit_value b < 10 → IsDigit b
digit_of b h = (grind (arith, common_steps, nat_tests), grind (arith, common_steps, nat_tests))

digits_of : (bs : List ℕ) → AllDigits 10 bs → AllByRecursion IsDigit bs
digits_of [] h = tt
digits_of (b ∷ bs) h = (digit_of b h.0, digits_of bs h.1)

pub all_digits : (n : ℕ) → n < 2 ^ 64 → AllByRecursion IsDigit (decimal n)
all_digits n small = digits_of (decimal n) (decimal_is_IsNumeral n small).0.1

is_digit : (b : ℕ) → IsDigit b → is_ascii_digit b ≡ true
is_digit b h =
    let low : nat_le 48 b ≡ true = le-leb 48 b h.0 in
    let high : nat_le b 57 ≡ true = le-leb b 57 h.1 in
    rw (low, high) refl

pub are_digits : (bs : List ℕ) → AllByRecursion IsDigit bs → list_all is_ascii_digit bs ≡ true
are_digits [] h = refl
are_digits (b ∷ bs) h = rw (is_digit b h.0, are_digits bs h.1) refl

-- more digits make no smaller number
pub digits_grow : (n : ℕ) (ds : List ℕ) → n ≤ digits_value_after 10 n ds
digits_grow n [] = omega arith
digits_grow n (d ∷ ds) = let h = digits_grow (n * 10 + digit_value d) ds in omega arith

-- a number with zeros in front
pub padded_length : (k n : ℕ) → 0 < k → n < 10 ^ k → n < 2 ^ 64 → length (replicate (k - length (decimal n)) 48 ++ decimal n) ≡ k
padded_length k n some within small =
    omega (arith, length-append (replicate (k - length (decimal n)) 48) (decimal n), length-replicate {A = ℕ} (k - length (decimal n)) 48, length-decimal-le k n some within small)
