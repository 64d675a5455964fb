-- A test volume of any size: a ball that falls off from its middle, less a noise that is drawn from a number.
use Rattle.std.specs.Prelude.{ℕ, ◌+◌, ◌-◌, ◌*◌, ◌/◌, ◌%◌, ◌^◌, List, map, ℤ, pos}
use Rattle.std.specs.List.{range_with_len}
use Rattle.std.specs.Int.{abs_diff}
use Rattle.definitions.specs.Lattice.{dims}
use Rattle.formats.specs.declared.Kind.TheVariants.{Uchar}
use Rattle.formats.specs.Volumes.{Volume}
use Rattle.phantom.specs.Noise.{state}

abbrev pub square : ℕ → ℕ
square n = n * n

-- the square of a coordinate's distance from the middle of n samples, in half steps
abbrev pub off_middle : ℕ → ℕ → ℕ
off_middle n x = square (abs_diff (2 * x) (n - 1))

-- the sample whose distances from the middle have the squares' sum r, under a state of the noise
abbrev pub faded : ℕ → ℕ → ℕ → ℤ
faded n r s = pos (255 - 192 * r / (3 * square (n - 1) + 1) - s / 2 ^ 60)

-- sample t, from 0, where x is fastest and then y
abbrev pub phantom_sample : ℕ → ℕ → ℕ → ℤ
phantom_sample n seed t = faded n (off_middle n (t % n) + (off_middle n (t / n % n) + off_middle n (t / n / n))) (state seed (t + 1))

-- all samples of n on each axis
unfoldable pub phantom_samples : ℕ → ℕ → List ℤ
phantom_samples n seed = map (phantom_sample n seed) (range_with_len 0 (n * n * n))

abbrev pub phantom_volume : ℕ → ℕ → Volume
phantom_volume n seed = record { dims = dims n n n; step = 1; kind = Uchar; samples = phantom_samples n seed }
