-- The axes of a head, and the words that are read as their numbers.
use Rattle.std.specs.Prelude.{◌<ℤ◌, ℕ, ◌&&◌, List, ◌∷◌, Option, Some, None, if◌then◌else◌, ℤ}
use Rattle.formats.specs.Decimals.{decimal_units, is_between}
use Rattle.mha_read.specs.declared.numbers.Numbers.{Numbers}

-- each of the numbers lies between two others
pub record AreBetween (low high : ℤ) (numbers : Numbers) : Type 0 where
  pub x_low : low <ℤ numbers.x
  pub y_low : low <ℤ numbers.y
  pub z_low : low <ℤ numbers.z
  pub x_high : numbers.x <ℤ high
  pub y_high : numbers.y <ℤ high
  pub z_high : numbers.z <ℤ high

-- the numbers that the first three words are, where they are plain decimals between two numbers
abbrev pub first_between : ℤ → ℤ → List (List ℕ) → Option Numbers
first_between low high (a ∷ b ∷ c ∷ more) = if is_between low high a && (is_between low high b && is_between low high c) then Some (record { x = decimal_units a; y = decimal_units b; z = decimal_units c }) else None
first_between low high words = None
