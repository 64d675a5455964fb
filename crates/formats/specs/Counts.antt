-- Lines, blanks and counts in the head of a .mha file.
use Rattle.std.specs.Prelude.{ℕ, ◌-◌, ◌==◌, ◌&&◌, ◌||◌, Bool, nat_le, List, length, take}
use Rattle.std.specs.List.{slice_split, list_all}
use Rattle.std.specs.Str.Parse.{digits_value}
use Rattle.std.specs.Char.{is_ascii_digit}

-- The first bytes of an input, in which a head must stand, are so many.
abbrev pub head_limit : ℕ
head_limit = 65536

-- the lines of a text: what stands before each newline. Bytes after the last newline are no line
abbrev pub line_texts : List ℕ → List (List ℕ)
line_texts bytes = let parts = slice_split (λ b. b == 10) bytes in take (length parts - 1) parts

-- a space or a tab
abbrev pub is_blank : ℕ → Bool
is_blank b = b == 32 || b == 9

-- a count: 1 to 9 decimal digits
abbrev pub is_count : List ℕ → Bool
is_count v = nat_le 1 (length v) && (nat_le (length v) 9 && list_all is_ascii_digit v)

abbrev pub is_positive_count : List ℕ → Bool
is_positive_count v = is_count v && nat_le 1 (digits_value 10 v)
