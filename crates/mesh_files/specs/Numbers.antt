-- Numbers and coordinates in a mesh file.
use Rattle.std.specs.Prelude.{ℕ, ◌+◌, ◌*◌, ◌/◌, ◌%◌, ◌^◌, Bool, not, ◌&&◌, ◌||◌, ◌==◌, nat_le, nat_lt, List, [], ◌∷◌, ◌++◌, length, slice_index, ℤ, pos, neg_ℤ, if◌then◌else◌}
use Rattle.std.specs.List.{list_all, before_first, after_first}
use Rattle.std.specs.Char.{is_ascii_digit}
use Rattle.std.specs.Str.Parse.{digits_value}

-- no number in a file is greater
abbrev pub greatest_number : ℕ
greatest_number = 4294967294

-- a number: decimal digits without a leading zero, save 0 itself, up to 4294967294
abbrev pub is_number : List ℕ → Bool
is_number v =
    nat_lt 0 (length v)
    && (list_all is_ascii_digit v
    && ((length v == 1 || not (slice_index v 0 == 48))
    && nat_le (digits_value 10 v) greatest_number))

-- the number is this one
abbrev pub is_the_number : ℕ → List ℕ → Bool
is_the_number n v = is_number v && digits_value 10 v == n

-- a number up to a greatest
abbrev pub is_number_to : ℕ → List ℕ → Bool
is_number_to most v = is_number v && nat_le (digits_value 10 v) most

abbrev pub is_minus : List ℕ → Bool
is_minus v = slice_index v 0 == 45

-- a decimal without the sign that it may have
abbrev pub without_sign : List ℕ → List ℕ
without_sign [] = []
without_sign (b ∷ bs) = if b == 43 || b == 45 then bs else b ∷ bs

-- the digits before and behind its point
abbrev pub whole_digits : List ℕ → List ℕ
whole_digits v = before_first (λ b. b == 46) (without_sign v)

abbrev pub fraction_digits : List ℕ → List ℕ
fraction_digits v = after_first (λ b. b == 46) (without_sign v)

-- a decimal: a sign that may be left out, and digits, at least one, with at most one point before, among or behind them
unfoldable pub is_decimal : List ℕ → Bool
is_decimal v = nat_lt 0 (length (whole_digits v) + length (fraction_digits v)) && (list_all is_ascii_digit (whole_digits v) && list_all is_ascii_digit (fraction_digits v))

-- Digits before and behind a point are this number over ten to the number of digits behind it.
abbrev pub numerator : List ℕ → List ℕ → ℕ
numerator whole fraction = digits_value 10 (whole ++ fraction)

abbrev pub denominator : List ℕ → ℕ
denominator fraction = 10 ^ length fraction

-- it is a multiple of 1/8192, and below 1048576
unfoldable pub are_units : List ℕ → List ℕ → Bool
are_units whole fraction = (numerator whole fraction * 8192) % denominator fraction == 0 && nat_lt (numerator whole fraction) (1048576 * denominator fraction)

-- in units of 1/8192
unfoldable pub units : List ℕ → List ℕ → ℕ
units whole fraction = (numerator whole fraction * 8192) / denominator fraction

abbrev pub signed : Bool → ℕ → ℤ
signed minus n = if minus then neg_ℤ (pos n) else pos n

-- a decimal that is a coordinate, and which it is, in units of 1/8192
abbrev pub is_coordinate : List ℕ → Bool
is_coordinate v = are_units (whole_digits v) (fraction_digits v)

abbrev pub coordinate : List ℕ → ℤ
coordinate v = signed (is_minus v) (units (whole_digits v) (fraction_digits v))
