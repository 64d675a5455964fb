-- Raw sizes, and the words of a value that are read as them.
use Rattle.std.specs.Prelude.{◌≡◌, ◌≤◌, ◌&&◌, ℕ, List, [], ◌∷◌, length, slice_index, Option, Some, None, if◌then◌else◌}
use Rattle.std.specs.Str.Parse.{digits_value}
use Rattle.formats.specs.Counts.{is_positive_count}

-- three sizes, each from 1 to 999,999,999
pub record AreRawSizes (raw : List ℕ) : Type 0 where
  pub three : length raw ≡ 3
  pub x_positive : 1 ≤ slice_index raw 0
  pub y_positive : 1 ≤ slice_index raw 1
  pub z_positive : 1 ≤ slice_index raw 2
  pub x_bound : slice_index raw 0 ≤ 999999999
  pub y_bound : slice_index raw 1 ≤ 999999999
  pub z_bound : slice_index raw 2 ≤ 999999999

-- the sizes that the first three words are, where they are counts
abbrev pub first_three : List (List ℕ) → Option (List ℕ)
first_three (a ∷ b ∷ c ∷ more) = if is_positive_count a && (is_positive_count b && is_positive_count c) then Some (digits_value 10 a ∷ digits_value 10 b ∷ digits_value 10 c ∷ []) else None
first_three words = None
