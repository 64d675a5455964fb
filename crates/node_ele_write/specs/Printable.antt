-- Which places are printed in a frame.
use Rattle.std.specs.Prelude.{ℕ, ◌*◌, ◌^◌, ◌<◌, List, Option, IfSome, pos, ◌*ℤ◌, unsigned_abs}
use Rattle.std.specs.Option.{option_map_or}
use Rattle.definitions.specs.declared.Place.{Place}
use Rattle.formats.specs.declared.Axis.{Axis}
use Rattle.formats.specs.declared.Frame.{Frame}
use Rattle.formats.specs.Frames.{AreAxes}

-- The step times a coordinate, in units of 1/8192, is below this; in the volume's own units every coordinate is below 10^7 then.
abbrev pub coordinate_limit : Option (List Axis) → ℕ
coordinate_limit world = option_map_or (λ axes. 8192 * 9000) world (2 ^ 40)

pub record IsPrintable (frame : Frame) (place : Place) : Type 0 where
  pub x : unsigned_abs (pos frame.step *ℤ place.x) < coordinate_limit frame.world
  pub y : unsigned_abs (pos frame.step *ℤ place.y) < coordinate_limit frame.world
  pub z : unsigned_abs (pos frame.step *ℤ place.z) < coordinate_limit frame.world
  pub axes : IfSome frame.world AreAxes
