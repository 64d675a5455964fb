-- A row of samples by the state of the noise before it.
use Rattle.std.specs.Prelude.{ℕ, ◌+◌, List, map, ℤ}
use Rattle.std.specs.List.{range_with_len}
use Rattle.phantom.specs.Noise.{state}
use Rattle.phantom.specs.Phantom.{off_middle, faded}

-- sample x of a row whose other two coordinates have squares of the sum rest
abbrev pub row_sample : ℕ → ℕ → ℕ → ℕ → ℤ
row_sample n rest s x = faded n (off_middle n x + rest) (state s (x + 1))

-- the first x samples of it
abbrev pub row_samples : ℕ → ℕ → ℕ → ℕ → List ℤ
row_samples n rest s x = map (row_sample n rest s) (range_with_len 0 x)
