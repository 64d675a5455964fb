-- A phantom is a volume.
use Rattle.std.proofs.Common.{ℕ, ◌+◌, ◌-◌, ◌*◌, ◌^◌, ◌≤◌, map, ℤ, pos, arith}
use Rattle.std.specs.Prelude.{◌≤ℤ◌, All}
use Rattle.std.proofs.lemmas.Int.{ints}
use Rattle.std.proofs.lemmas.List.Elements.{All-map}
use Rattle.std.proofs.lemmas.List.FromFn.{length-map-range_with_len}
use Rattle.std.proofs.Math.Nat.{mul-le-mul}
use Rattle.std.specs.List.{range_with_len}
use Rattle.formats.specs.Volumes.{IsVolume}
use Rattle.phantom.specs.Phantom.{phantom_sample, phantom_samples, phantom_volume}

all_of_map : (P : ℤ → Type 0) (f : ℕ → ℤ) (a n : ℕ) → ((t : ℕ) → P (f t)) → All P (map f (range_with_len a n))
all_of_map P f a n each = All-map P f (range_with_len a n) (λ k d lt. each _)

padded : (n : ℕ) → n ≤ 128 → (n + 2) * (n + 2) * (n + 2) ≤ 2 ^ 26
padded n small =
    let a : n + 2 ≤ 130 = omega arith in
    let b : (n + 2) * (n + 2) ≤ 130 * 130 = mul-le-mul a a in
    let c : (n + 2) * (n + 2) * (n + 2) ≤ 130 * 130 * 130 = mul-le-mul b a in
    omega arith

pub phantom_is_volume : (n seed : ℕ) → 1 ≤ n → n ≤ 128 → IsVolume (phantom_volume n seed)
unfolding phantom_samples
phantom_is_volume n seed positive small = record {
  sizes = record { nx_positive = positive; ny_positive = positive; nz_positive = positive; within = padded n small };
  step_positive = omega arith;
  step_bound = omega arith;
  whole = length-map-range_with_len (phantom_sample n seed) 0 (n * n * n);
  low = all_of_map (λ z. pos 0 ≤ℤ z) (phantom_sample n seed) 0 (n * n * n) (λ t. omega (arith, ints));
  high = all_of_map (λ z. z ≤ℤ pos (2 ^ 8 - 1)) (phantom_sample n seed) 0 (n * n * n) (λ t. omega (arith, ints));
}
