-- The volume behind a head.
use Rattle.std.specs.Prelude.{◌≡◌, ◌≤◌, ◌≤ℤ◌, ℕ, ◌+◌, ◌-◌, ◌*◌, ◌^◌, Bool, ◌||◌, nat_lt, List, map, flat_map, length, drop, slice_index, if◌then◌else◌, ℤ, pos, neg_ℤ, All}
use Rattle.std.specs.List.{list_any, range_with_len}
use Rattle.std.specs.Int.{div_ceil}
use Rattle.definitions.specs.declared.Dims.{Dims}
use Rattle.definitions.specs.Lattice.{dims, padded_product, IsDims}
use Rattle.formats.specs.declared.Head.{Head}
use Rattle.formats.specs.declared.Limits.{Limits}
use Rattle.formats.specs.declared.Kind.{Kind}
use Rattle.formats.specs.declared.Kind.TheVariants.{Uchar, Char, Ushort, Short, Uint, Int}
use Rattle.formats.specs.Heads.{HeadAt}
use Rattle.formats.specs.Samples.{bytes_per_sample, sample_of_bytes}

abbrev pub first_limits : Limits
first_limits = record { dimension = 8192; padded = 4194304 }

abbrev pub second_limits : Limits
second_limits = record { dimension = 8192; padded = 67108864 }

-- the limits that a caller may set
pub record AreLimits (limits : Limits) : Type 0 where
  pub dimension : limits.dimension ≤ 8192
  pub padded : limits.padded ≤ 2 ^ 26

-- how many samples an axis of n keeps where every step-th is kept
abbrev pub kept_size : ℕ → ℕ → ℕ
kept_size step n = div_ceil n step

abbrev pub kept_dims : Head → ℕ → Dims
kept_dims head step = dims (kept_size step (slice_index head.raw 0)) (kept_size step (slice_index head.raw 1)) (kept_size step (slice_index head.raw 2))

-- the number of bytes of the samples
abbrev pub wanted_bytes : Head → ℕ
wanted_bytes head = slice_index head.raw 0 * slice_index head.raw 1 * slice_index head.raw 2 * bytes_per_sample head.kind

-- the raw number of the sample that is kept as the one at (i, j, k)
abbrev pub raw_number : Head → ℕ → ℕ → ℕ → ℕ → ℕ
raw_number head step i j k = (k * step * slice_index head.raw 1 + j * step) * slice_index head.raw 0 + i * step

-- the samples that are kept, x fastest
unfoldable pub kept_samples : Head → ℕ → List ℕ → List ℤ
kept_samples head step bytes =
    let d = kept_dims head step in
    flat_map
    (λ k. flat_map (λ j. map (λ i. sample_of_bytes head.kind head.big bytes (raw_number head step i j k)) (range_with_len 0 d.nx)) (range_with_len 0 d.ny))
    (range_with_len 0 d.nz)

-- a raw size, or the product of the padded sizes, is above its limit
abbrev pub is_too_large : Limits → Head → ℕ → Bool
is_too_large limits head step = list_any (λ n. nat_lt limits.dimension n) head.raw || nat_lt limits.padded (padded_product (kept_dims head step))

-- A volume: the sizes that were kept, the step, the type, and the samples with x fastest.
pub record Volume : Type 0 where
  pub dims : Dims
  pub step : ℕ
  pub kind : Kind
  pub samples : List ℤ

-- the least and the greatest number of a type
abbrev pub least_of : Kind → ℤ
least_of Uchar = pos 0
least_of Char = neg_ℤ (pos (2 ^ 7))
least_of Ushort = pos 0
least_of Short = neg_ℤ (pos (2 ^ 15))
least_of Uint = pos 0
least_of Int = neg_ℤ (pos (2 ^ 31))

abbrev pub greatest_of : Kind → ℤ
greatest_of Uchar = pos (2 ^ 8 - 1)
greatest_of Char = pos (2 ^ 7 - 1)
greatest_of Ushort = pos (2 ^ 16 - 1)
greatest_of Short = pos (2 ^ 15 - 1)
greatest_of Uint = pos (2 ^ 32 - 1)
greatest_of Int = pos (2 ^ 31 - 1)

pub record IsVolume (v : Volume) : Type 0 where
  pub sizes : IsDims v.dims
  pub step_positive : 1 ≤ v.step
  pub step_bound : v.step ≤ 64
  pub whole : length v.samples ≡ v.dims.nx * v.dims.ny * v.dims.nz
  pub low : All (λ z. least_of v.kind ≤ℤ z) v.samples
  pub high : All (λ z. z ≤ℤ greatest_of v.kind) v.samples

-- the bytes of an input that stand behind its head
abbrev pub bytes_behind : List ℕ → HeadAt → List ℕ
bytes_behind input h = drop h.len input

-- the volume that is kept with a step
abbrev pub volume_of : List ℕ → HeadAt → ℕ → Volume
volume_of input h step =
    record { dims = kept_dims h.head step; step = step; kind = h.head.kind; samples = kept_samples h.head step (bytes_behind input h) }

-- What reading the samples behind a head gives: too large with the product of the padded sizes, an end after some of the bytes that are wanted, or the volume.
pub data VolumeAnswer : Type 0 where
  Large : (padded : ℕ) → VolumeAnswer
  EndsEarly : (got wanted : ℕ) → VolumeAnswer
  Whole : Volume → VolumeAnswer

abbrev pub volume_answer : Limits → List ℕ → HeadAt → ℕ → VolumeAnswer
volume_answer limits input h step =
    if is_too_large limits h.head step
    then Large (padded_product (kept_dims h.head step))
    else if nat_lt (length (bytes_behind input h)) (wanted_bytes h.head)
    then EndsEarly (length (bytes_behind input h)) (wanted_bytes h.head)
    else Whole (volume_of input h step)
