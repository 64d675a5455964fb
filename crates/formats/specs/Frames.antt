-- The frame in which nodes are printed: the step, and the axes of the volume's own units.
use Rattle.std.specs.Prelude.{◌≤◌, ◌<ℤ◌, ◌^◌, List, [], ◌∷◌, pos, neg_ℤ, IfSome}
use Rattle.formats.specs.declared.Axis.{Axis}
use Rattle.formats.specs.declared.Frame.{Frame}

-- spacing 1 and offset 0, in units of 10^-18
abbrev pub unit_axis : Axis
unit_axis = record { spacing = pos (10 ^ 18); offset = pos 0 }

abbrev pub unit_axes : List Axis
unit_axes = unit_axis ∷ unit_axis ∷ unit_axis ∷ []

-- a spacing above 0 and below 1000, and an offset below 1000000 in size
pub record IsAxis (axis : Axis) : Type 0 where
  pub spacing_low : pos 0 <ℤ axis.spacing
  pub spacing_high : axis.spacing <ℤ pos (10 ^ 21)
  pub offset_low : neg_ℤ (pos (10 ^ 24)) <ℤ axis.offset
  pub offset_high : axis.offset <ℤ pos (10 ^ 24)

-- three axes whose spacings and offsets are within their limits
abbrev pub AreAxes : List Axis → Type 0
AreAxes (x ∷ y ∷ z ∷ []) = IsAxis x × IsAxis y × IsAxis z
AreAxes axes = ⊥

pub record IsFrame (frame : Frame) : Type 0 where
  pub step_low : 1 ≤ frame.step
  pub step_high : frame.step ≤ 64
  pub axes : IfSome frame.world AreAxes
