-- Sizes in decimal digits.
use Rattle.std.proofs.Common.{◌≡◌, ◌≢◌, ℕ, ◌^◌, ◌<◌, ◌≤◌, ◌==◌, length, decimal, true, false, nat_le, refl, arith}
use Rattle.std.proofs.lemmas.Grind.{common_steps}
use Rattle.std.proofs.lemmas.Fmt.{decimal_is_IsNumeral, length-decimal-le, decimal_nonempty}
use Rattle.std.specs.List.{list_all}
use Rattle.std.specs.Char.{is_ascii_digit}
use Rattle.std.specs.Str.Parse.{digits_value}
use Rattle.list_words.proofs.Digits.{IsDigit, all_digits, are_digits}
use Rattle.formats.specs.Counts.{is_blank, is_positive_count}

pub size_is_count : (n : ℕ) → 1 ≤ n → n < 10 ^ 9 → is_positive_count (decimal n) ≡ true
size_is_count n positive small =
    let big : n < 2 ^ 64 = omega arith in
    let value : digits_value 10 (decimal n) ≡ n = (decimal_is_IsNumeral n big).1 in
    let some : nat_le 1 (length (decimal n)) ≡ true = let h : 0 < length (decimal n) = decimal_nonempty n big in grind (arith, common_steps) in
    let few : nat_le (length (decimal n)) 9 ≡ true = let h : length (decimal n) ≤ 9 = length-decimal-le 9 n (omega arith) small big in grind (arith, common_steps) in
    let digits : list_all is_ascii_digit (decimal n) ≡ true = are_digits (decimal n) (all_digits n big) in
    let least : nat_le 1 n ≡ true = grind (arith, common_steps) in
    rw (some, few, digits, value, least) refl

pub not_blank : (b : ℕ) → IsDigit b → is_blank b ≡ false
not_blank b h =
    let low : 48 ≤ b = h.0 in
    let space : (b == 32) ≡ false = grind (arith, common_steps) in
    let tab : (b == 9) ≡ false = grind (arith, common_steps) in
    rw (space, tab) refl

pub not_newline : (b : ℕ) → IsDigit b → b ≢ 10
not_newline b h e = let low : 48 ≤ b = h.0 in omega arith
