-- The text of a coordinate in a frame: in index units, or in the volume's own units.
use Rattle.std.specs.Prelude.{ℕ, ◌/◌, ◌%◌, ◌^◌, List, [], ◌++◌, codes, decimal, if◌then◌else◌, ℤ, pos, unsigned_abs, int_lt, slice_index_or, ◌+ℤ◌, ◌*ℤ◌}
use Rattle.std.specs.Option.{option_map_or}
use Rattle.formats.specs.declared.Axis.{Axis}
use Rattle.formats.specs.declared.Frame.{Frame}
use Rattle.formats.specs.Frames.{unit_axis}
use Rattle.mesh_texts.specs.Coordinates.{padded_decimal, coordinate_text}

-- z times 10^-31 with 31 decimals, which is exact
abbrev pub world_text : ℤ → List ℕ
world_text z =
    (if int_lt z (pos 0) then codes "-" else [])
    ++ (decimal (unsigned_abs z / 10 ^ 31) ++ (codes "." ++ padded_decimal 31 (unsigned_abs z % 10 ^ 31)))

-- offset + spacing * step * p / 8192 in units of 10^-31, which is exact since 10^13 / 8192 is 5^13; offset and spacing are in units of 10^-18
abbrev pub world_value : Axis → ℕ → ℤ → ℤ
world_value axis step p = axis.offset *ℤ pos (10 ^ 13) +ℤ axis.spacing *ℤ (pos step *ℤ p) *ℤ pos (5 ^ 13)

-- the coordinate p on axis 0, 1 or 2
abbrev pub frame_text : Frame → ℕ → ℤ → List ℕ
frame_text frame i p =
    option_map_or
    (λ axes. world_text (world_value (slice_index_or axes i unit_axis) frame.step p))
    frame.world
    (coordinate_text (pos frame.step *ℤ p))
