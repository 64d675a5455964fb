-- The value at a vertex, by the numbers of its corner or of its cube.
use Rattle.std.proofs.Common.{◌≡◌, ℕ, ◌+◌, ◌*◌, ◌/◌, ◌%◌, Bool, true, false, refl, ◌∙◌, arith}
use Rattle.std.specs.Prelude.{if◌then◌else◌, ◌==◌}
use Rattle.std.proofs.Math.IntN.{ℤ, pos, ◌+ℤ◌, ◌*ℤ◌}
use Rattle.std.proofs.lemmas.Int.{ints}
use Rattle.std.proofs.lemmas.Bool.Decides.{nat_tests}
use Rattle.definitions.specs.Lattice.{vertex}
use Rattle.definitions.specs.Values.{Field, corner_difference, cube_sum, value}
use Rattle.samples.specs.Rows.{side_sum}

-- at a corner
pub corner_value : (f : Field) (i j k : ℕ) → value f (vertex (2 * k) (2 * j) (2 * i)) ≡ pos 8 *ℤ corner_difference f i j k
unfolding value
corner_value f i j k = at (2 * k % 2 == 0) (grind (arith, nat_tests)) ∙ (λ t. pos 8 *ℤ corner_difference f (half i t) (half j t) (half k t))
  where
    half : (n : ℕ) → 2 * n / 2 ≡ n
    half n = omega arith

    at : (b : Bool) → b ≡ true → (if b then pos 8 *ℤ corner_difference f (2 * i / 2) (2 * j / 2) (2 * k / 2) else cube_sum f (2 * i / 2) (2 * j / 2) (2 * k / 2)) ≡ pos 8 *ℤ corner_difference f (2 * i / 2) (2 * j / 2) (2 * k / 2)
    at true e = refl
    at false e = cc

-- at the centre of a cube
pub centre_value : (f : Field) (i j k : ℕ) → value f (vertex (2 * k + 1) (2 * j + 1) (2 * i + 1)) ≡ cube_sum f i j k
unfolding value
centre_value f i j k = at ((2 * k + 1) % 2 == 0) (grind (arith, nat_tests)) ∙ (λ t. cube_sum f (half i t) (half j t) (half k t))
  where
    half : (n : ℕ) → (2 * n + 1) / 2 ≡ n
    half n = omega arith

    at : (b : Bool) → b ≡ false → (if b then pos 8 *ℤ corner_difference f ((2 * i + 1) / 2) ((2 * j + 1) / 2) ((2 * k + 1) / 2) else cube_sum f ((2 * i + 1) / 2) ((2 * j + 1) / 2) ((2 * k + 1) / 2)) ≡ cube_sum f ((2 * i + 1) / 2) ((2 * j + 1) / 2) ((2 * k + 1) / 2)
    at true e = cc
    at false e = refl

-- by sides
pub cube_by_sides : (f : Field) (i j k : ℕ) → cube_sum f i j k ≡ side_sum f i j k +ℤ side_sum f (i + 1) j k
cube_by_sides f i j k = let c = corner_difference f in sums (c i j k) (c (i + 1) j k) (c i (j + 1) k) (c (i + 1) (j + 1) k) (c i j (k + 1)) (c (i + 1) j (k + 1)) (c i (j + 1) (k + 1)) (c (i + 1) (j + 1) (k + 1))
  where
    sums : (a b c d e g h l : ℤ) → ((a +ℤ b) +ℤ (c +ℤ d)) +ℤ ((e +ℤ g) +ℤ (h +ℤ l)) ≡ ((a +ℤ c) +ℤ (e +ℤ h)) +ℤ ((b +ℤ d) +ℤ (g +ℤ l))
    sums a b c d e g h l = omega (arith, ints)
