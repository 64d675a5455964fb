-- How many vertices have each sign, by rows and layers. Row j of layer h has the vertices whose y is 2 j, in an odd layer 2 j + 1.
use Rattle.std.specs.Prelude.{ℕ, ◌+◌, ◌-◌, ◌*◌, ◌%◌, ◌≤◌, Bool, cond, ℤ, sum_by}
use Rattle.std.specs.List.{range_with_len}
use Rattle.definitions.specs.declared.Sign.{Sign}
use Rattle.definitions.specs.Lattice.{vertex}
use Rattle.definitions.specs.Values.{Field, value, sign_of}
use Rattle.definitions.specs.Stencils.{is_plus, is_zero, is_minus}
use Rattle.samples.specs.declared.count.Signs.{Signs}

-- the counts of Plus, Zero and Minus
abbrev pub signs_by : ((Sign → Bool) → ℕ) → Signs
signs_by count = record { plus = count is_plus; zero = count is_zero; minus = count is_minus }

-- the counts of the things 0 to n - 1 together
abbrev pub signs_below : ℕ → (ℕ → (Sign → Bool) → ℕ) → Signs
signs_below n counts = signs_by (λ p. sum_by (λ i. counts i p) (range_with_len 0 n))

-- the counts of both
abbrev pub both : Signs → Signs → Signs
both s t = record { plus = s.plus + t.plus; zero = s.zero + t.zero; minus = s.minus + t.minus }

-- none of the counts is above n
pub record AreAtMost (n : ℕ) (s : Signs) : Type 0 where
  pub plus : s.plus ≤ n
  pub zero : s.zero ≤ n
  pub minus : s.minus ≤ n

-- the count of one value
abbrev pub one : ℤ → (Sign → Bool) → ℕ
one z p = cond (p (sign_of z)) 1 0

-- the value at vertex i of row j of layer h
abbrev pub value_in_row : Field → ℕ → ℕ → ℕ → ℤ
value_in_row f h j i = value f (vertex h (2 * j + h % 2) (2 * i + h % 2))

-- how many vertices of row j of layer h have a sign
abbrev pub row_count : Field → ℕ → ℕ → (Sign → Bool) → ℕ
row_count f h j p = sum_by (λ i. one (value_in_row f h j i) p) (range_with_len 0 (f.dims.nx + 2 - h % 2))

-- how many vertices of layer h have a sign
abbrev pub layer_count : Field → ℕ → (Sign → Bool) → ℕ
layer_count f h p = sum_by (λ j. row_count f h j p) (range_with_len 0 (f.dims.ny + 2 - h % 2))
