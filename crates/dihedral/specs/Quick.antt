-- Angles that are within bounds of the extremes so far, which are whole numbers of 4096ths.
use Rattle.std.specs.Prelude.{ℕ, ◌*◌, ◌<◌, ◌≤◌, Option, pos, int_lt, if◌then◌else◌}
use Rattle.definitions.specs.declared.Cosine.{Cosine}
use Rattle.definitions.specs.declared.Extremes.{Extremes}
use Rattle.dihedral.specs.declared.bounds.Bounds.{Bounds}
use Rattle.dihedral.specs.Fractions.{IsFraction, in_lowest_terms}
use Rattle.dihedral.specs.Shapes.{Between}

-- the bound on the side of an angle's cosine
abbrev pub bound_for : Bounds → Cosine → ℕ
bound_for b x = if int_lt (pos 0) x.sign then b.least else b.greatest

-- both bounds are there, and the angle is within the one on its side
pub record IsWithinBounds (b : Bounds) (x : Cosine) : Type 0 where
  pub some_least : 0 < b.least
  pub some_greatest : 0 < b.greatest
  pub within : x.num * 4096 ≤ bound_for b x * x.den

-- whatever is within the bounds is within the extremes
abbrev pub Bound : Bounds → Option Extremes → Type 0
Bound b found = (x : Cosine) → IsFraction x → IsWithinBounds b x → Between found (in_lowest_terms x)
