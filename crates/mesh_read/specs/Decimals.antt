-- The parts of a decimal, as they are read.
use Rattle.std.specs.Prelude.{◌≡◌, ℕ, List, true}
use Rattle.std.specs.List.{list_all}
use Rattle.std.specs.Char.{is_ascii_digit}
use Rattle.mesh_read.specs.declared.decimals.Decimal.{Decimal}
use Rattle.mesh_files.specs.Numbers.{is_decimal, is_minus, whole_digits, fraction_digits}

pub record IsDecimalOf (text : List ℕ) (d : Decimal) : Type 0 where
  pub decimal : is_decimal text ≡ true
  pub minus : d.minus ≡ is_minus text
  pub whole : d.whole.now ≡ whole_digits text
  pub fraction : d.fraction.now ≡ fraction_digits text
  pub whole_digits : list_all is_ascii_digit d.whole.now ≡ true
  pub fraction_digits : list_all is_ascii_digit d.fraction.now ≡ true
