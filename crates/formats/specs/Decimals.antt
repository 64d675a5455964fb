-- Decimals in the head of a .mha file, and the numbers that they are in units of 10^-18.
use Rattle.std.specs.Prelude.{ℕ, ◌+◌, ◌-◌, ◌*◌, ◌^◌, ◌==◌, ◌&&◌, ◌||◌, Bool, false, nat_le, nat_lt, List, [], ◌∷◌, length, if◌then◌else◌, ℤ, pos, neg_ℤ, int_lt}
use Rattle.std.specs.List.{before_first, after_first, list_all, list_any}
use Rattle.std.specs.Str.Parse.{digits_value}
use Rattle.std.specs.Char.{is_ascii_digit}

-- a `+` or a `-`
abbrev pub is_sign : ℕ → Bool
is_sign b = b == 43 || b == 45

abbrev pub is_point : ℕ → Bool
is_point b = b == 46

-- an `e` or an `E`
abbrev pub is_exponent_mark : ℕ → Bool
is_exponent_mark b = b == 101 || b == 69

-- what stands behind an optional sign
abbrev pub without_sign : List ℕ → List ℕ
without_sign [] = []
without_sign (b ∷ bs) = if is_sign b then bs else b ∷ bs

-- what stands before the first point, and what behind it
abbrev pub whole_part : List ℕ → List ℕ
whole_part v = before_first is_point (without_sign v)

abbrev pub fraction_part : List ℕ → List ℕ
fraction_part v = after_first is_point (without_sign v)

-- an optional sign, and digits with at most one point among, before or after them, one digit at least
abbrev pub is_plain_form : List ℕ → Bool
is_plain_form v = (list_all is_ascii_digit (whole_part v) && list_all is_ascii_digit (fraction_part v)) && (nat_lt 0 (length (whole_part v)) || nat_lt 0 (length (fraction_part v)))

-- an optional sign, and one digit at least
abbrev pub is_exponent : List ℕ → Bool
is_exponent v = list_all is_ascii_digit (without_sign v) && nat_lt 0 (length (without_sign v))

-- a decimal: behind the plain form an exponent may stand
abbrev pub is_decimal : List ℕ → Bool
is_decimal v = if list_any is_exponent_mark v then is_plain_form (before_first is_exponent_mark v) && is_exponent (after_first is_exponent_mark v) else is_plain_form v

-- a decimal is plain where it has no exponent and at most 18 digits behind the point
abbrev pub is_plain_decimal : List ℕ → Bool
is_plain_decimal v = is_plain_form v && nat_le (length (fraction_part v)) 18

-- the size of a plain decimal, in units of 10^-18
abbrev pub decimal_size : List ℕ → ℕ
decimal_size v = digits_value 10 (whole_part v) * 10 ^ 18 + digits_value 10 (fraction_part v) * 10 ^ (18 - length (fraction_part v))

-- it begins with a `-`
abbrev pub has_minus : List ℕ → Bool
has_minus [] = false
has_minus (b ∷ bs) = b == 45

-- the number that a plain decimal is, in units of 10^-18
abbrev pub decimal_units : List ℕ → ℤ
decimal_units v = if has_minus v then neg_ℤ (pos (decimal_size v)) else pos (decimal_size v)

-- a plain decimal between two numbers in units of 10^-18, and neither of them
abbrev pub is_between : ℤ → ℤ → List ℕ → Bool
is_between low high v = is_plain_decimal v && (int_lt low (decimal_units v) && int_lt (decimal_units v) high)

-- a spacing that is supported is above 0 and below 1000, an offset below 1000000 in size
abbrev pub is_spacing : List ℕ → Bool
is_spacing v = is_between (pos 0) (pos (10 ^ 21)) v

abbrev pub is_offset : List ℕ → Bool
is_offset v = is_between (neg_ℤ (pos (10 ^ 24))) (pos (10 ^ 24)) v
