-- The text of a coordinate.
use Rattle.std.specs.Prelude.{ℕ, ◌-◌, ◌*◌, ◌/◌, ◌%◌, ◌^◌, List, [], ◌++◌, length, replicate, codes, decimal, if◌then◌else◌, ℤ, pos, unsigned_abs, int_lt}

-- n in as many digits as asked, with zeros in front
abbrev pub padded_decimal : ℕ → ℕ → List ℕ
padded_decimal width n = replicate (width - length (decimal n)) 48 ++ decimal n

-- z / 8192 with 13 decimals, which is exact since 10^13 / 8192 is 5^13
abbrev pub coordinate_text : ℤ → List ℕ
coordinate_text z =
    (if int_lt z (pos 0) then codes "-" else [])
    ++ (decimal (unsigned_abs z / 8192) ++ (codes "." ++ padded_decimal 13 (unsigned_abs z % 8192 * 5 ^ 13)))
