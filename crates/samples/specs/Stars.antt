-- Numbers at corners that stand side by side, their sums, and the values at a vertex and at the other ends of its edges.
use Rattle.std.specs.Prelude.{ℕ, ◌+◌, ◌-◌, ◌*◌, ◌<◌, ◌≤◌, ◌^◌, ℤ, pos, ◌+ℤ◌, ◌*ℤ◌, unsigned_abs}
use Rattle.definitions.specs.declared.Dims.{Dims}
use Rattle.definitions.specs.Values.{Field, corner_difference, cube_sum}
use Rattle.samples.specs.declared.star.Pair.{Pair}
use Rattle.samples.specs.declared.star.Square.{Square}
use Rattle.samples.specs.declared.star.Cube.{Cube}
use Rattle.samples.specs.declared.star.Star.{Star}
use Rattle.samples.specs.declared.star.Line.{Line}
use Rattle.samples.specs.declared.star.Plane.{Plane}
use Rattle.samples.specs.declared.star.Run.{Run}

-- the corner is of the image
pub record IsCornerInside (d : Dims) (i j k : ℕ) : Type 0 where
  pub i_low : 1 ≤ i
  pub j_low : 1 ≤ j
  pub k_low : 1 ≤ k
  pub i_high : i ≤ d.nx
  pub j_high : j ≤ d.ny
  pub k_high : k ≤ d.nz

-- where the sample of a corner of the image stands
abbrev pub place : Dims → ℕ → ℕ → ℕ → ℕ
place d i j k = (((k - 1) * d.ny) + (j - 1)) * d.nx + (i - 1)

-- ---- differences at corners, from the least corner on

abbrev pub line : Field → ℕ → ℕ → ℕ → Line
line f i j k = record { low = corner_difference f i j k; middle = corner_difference f (i + 1) j k; high = corner_difference f (i + 1 + 1) j k }

abbrev pub plane : Field → ℕ → ℕ → ℕ → Plane
plane f i j k = record { low = line f i j k; middle = line f i (j + 1) k; high = line f i (j + 1 + 1) k }

abbrev pub run : Field → ℕ → ℕ → ℕ → Run
run f i j k = record { low = corner_difference f i j k; second = corner_difference f (i + 1) j k; third = corner_difference f (i + 1 + 1) j k; high = corner_difference f (i + 1 + 1 + 1) j k }

-- ---- values around a corner, by the least corner of the block around it

abbrev pub pair : (ℕ → ℤ) → ℕ → Pair
pair g n = record { low = g n; high = g (n + 1) }

abbrev pub cube : (ℕ → ℕ → ℕ → ℤ) → ℕ → ℕ → ℕ → Cube
cube g i j k =
    record {
      low = record { low = pair (λ i. g i j k) i; high = pair (λ i. g i (j + 1) k) i };
      high = record { low = pair (λ i. g i j (k + 1)) i; high = pair (λ i. g i (j + 1) (k + 1)) i };
    }

abbrev pub corner_value : Field → ℕ → ℕ → ℕ → ℤ
corner_value f i j k = pos 8 *ℤ corner_difference f i j k

-- around the middle of a block of three on each axis, where long edges lead to the middles of its sides
abbrev pub star : (ℕ → ℕ → ℕ → ℤ) → Cube → ℕ → ℕ → ℕ → Star
star long short i j k = record {
  own = long (i + 1) (j + 1) (k + 1);
  x = record { low = long i (j + 1) (k + 1); high = long (i + 1 + 1) (j + 1) (k + 1) };
  y = record { low = long (i + 1) j (k + 1); high = long (i + 1) (j + 1 + 1) (k + 1) };
  z = record { low = long (i + 1) (j + 1) k; high = long (i + 1) (j + 1) (k + 1 + 1) };
  short = short;
}

abbrev pub corner_star : Field → ℕ → ℕ → ℕ → Star
corner_star f i j k = star (corner_value f) (cube (cube_sum f) i j k) i j k

abbrev pub centre_star : Field → ℕ → ℕ → ℕ → Star
centre_star f i j k = star (cube_sum f) (cube (corner_value f) (i + 1) (j + 1) (k + 1)) i j k

-- ---- how large numbers are

pub record AreSmallInLine (l : Line) : Type 0 where
  pub low : unsigned_abs l.low < 2 ^ 34
  pub middle : unsigned_abs l.middle < 2 ^ 34
  pub high : unsigned_abs l.high < 2 ^ 34

pub record AreSmallInPlane (p : Plane) : Type 0 where
  pub low : AreSmallInLine p.low
  pub middle : AreSmallInLine p.middle
  pub high : AreSmallInLine p.high

pub record AreSmallInRun (r : Run) : Type 0 where
  pub low : unsigned_abs r.low < 2 ^ 34
  pub second : unsigned_abs r.second < 2 ^ 34
  pub third : unsigned_abs r.third < 2 ^ 34
  pub high : unsigned_abs r.high < 2 ^ 34

pub record AreWithinLine (n : ℕ) (l : Line) : Type 0 where
  pub low : unsigned_abs l.low ≤ n
  pub middle : unsigned_abs l.middle ≤ n
  pub high : unsigned_abs l.high ≤ n

pub record AreWithin (n : ℕ) (p : Pair) : Type 0 where
  pub low : unsigned_abs p.low ≤ n
  pub high : unsigned_abs p.high ≤ n

pub record AreWithinSquare (n : ℕ) (s : Square) : Type 0 where
  pub low : AreWithin n s.low
  pub high : AreWithin n s.high

pub record IsSmallStar (s : Star) : Type 0 where
  pub own : unsigned_abs s.own ≤ 2 ^ 37
  pub x : AreWithin (2 ^ 37) s.x
  pub y : AreWithin (2 ^ 37) s.y
  pub z : AreWithin (2 ^ 37) s.z
  pub low : AreWithinSquare (2 ^ 37) s.short.low
  pub high : AreWithinSquare (2 ^ 37) s.short.high

-- ---- sums

-- over the pairs of a line
abbrev pub pairs : Line → Pair
pairs l = record { low = l.low +ℤ l.middle; high = l.middle +ℤ l.high }

abbrev pub sum_pairs : Pair → Pair → Pair
sum_pairs a b = record { low = a.low +ℤ b.low; high = a.high +ℤ b.high }

-- over the squares of a plane
abbrev pub squares : Plane → Square
squares p = record { low = sum_pairs (pairs p.low) (pairs p.middle); high = sum_pairs (pairs p.middle) (pairs p.high) }

abbrev pub sum_squares : Square → Square → Square
sum_squares a b = record { low = sum_pairs a.low b.low; high = sum_pairs a.high b.high }

-- the values around the corner in the middle of three planes of differences
abbrev pub star_of_planes : Plane → Plane → Plane → Star
star_of_planes low middle high = record {
  own = pos 8 *ℤ middle.middle.middle;
  x = record { low = pos 8 *ℤ middle.middle.low; high = pos 8 *ℤ middle.middle.high };
  y = record { low = pos 8 *ℤ middle.low.middle; high = pos 8 *ℤ middle.high.middle };
  z = record { low = pos 8 *ℤ low.middle.middle; high = pos 8 *ℤ high.middle.middle };
  short = record { low = sum_squares (squares low) (squares middle); high = sum_squares (squares middle) (squares high) };
}

-- over the pairs of a run
abbrev pub pairs_of_run : Run → Line
pairs_of_run r = record { low = r.low +ℤ r.second; middle = r.second +ℤ r.third; high = r.third +ℤ r.high }

-- over three cubes along x, by the pairs on their four edges along x
abbrev pub cubes_along_x : Line → Line → Line → Line → Line
cubes_along_x a b c d = record {
  low = (a.low +ℤ b.low) +ℤ (c.low +ℤ d.low);
  middle = (a.middle +ℤ b.middle) +ℤ (c.middle +ℤ d.middle);
  high = (a.high +ℤ b.high) +ℤ (c.high +ℤ d.high);
}

-- over the cubes on both sides of one along y, and along z, by the pairs on its four edges along x and those beyond
abbrev pub cubes_along_y : Square → Line → Line → Line → Line → Pair
cubes_along_y beyond a b c d = record {
  low = (beyond.low.low +ℤ a.middle) +ℤ (beyond.low.high +ℤ c.middle);
  high = (b.middle +ℤ beyond.high.low) +ℤ (d.middle +ℤ beyond.high.high);
}

abbrev pub cubes_along_z : Square → Line → Line → Line → Line → Pair
cubes_along_z beyond a b c d = record {
  low = (beyond.low.low +ℤ beyond.low.high) +ℤ (a.middle +ℤ b.middle);
  high = (c.middle +ℤ d.middle) +ℤ (beyond.high.low +ℤ beyond.high.high);
}

-- the values at the two corners in the middle of a run
abbrev pub corners_of_run : Run → Pair
corners_of_run r = record { low = pos 8 *ℤ r.second; high = pos 8 *ℤ r.third }

-- the values around the centre of the cube between four runs
abbrev pub star_of_runs : Run → Run → Run → Run → Square → Square → Star
star_of_runs a b c d y z =
    let x = cubes_along_x (pairs_of_run a) (pairs_of_run b) (pairs_of_run c) (pairs_of_run d) in
    record {
      own = x.middle;
      x = record { low = x.low; high = x.high };
      y = cubes_along_y y (pairs_of_run a) (pairs_of_run b) (pairs_of_run c) (pairs_of_run d);
      z = cubes_along_z z (pairs_of_run a) (pairs_of_run b) (pairs_of_run c) (pairs_of_run d);
      short = record { low = record { low = corners_of_run a; high = corners_of_run b }; high = record { low = corners_of_run c; high = corners_of_run d } };
    }
