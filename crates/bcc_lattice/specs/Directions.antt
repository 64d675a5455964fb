-- The seven directions upwards.
use Rattle.std.specs.Prelude.{ℕ, ◌≤◌, ℤ, pos, negsuc, ◌<ℤ◌, Option, Some, None}

pub record IsDirection (n : ℕ) : Type 0 where
  pub low : 1 ≤ n
  pub high : n ≤ 7

-- the natural number that a whole number is, if it is one
abbrev pub natural_of : ℤ → Option ℕ
natural_of (pos n) = Some n
natural_of (negsuc n) = None

-- at most two half units, either way
pub record IsSmallStep (s : ℤ) : Type 0 where
  pub low : negsuc 2 <ℤ s
  pub high : s <ℤ pos 3
