-- Shapes of tetrahedra, and angles that are within the extremes so far.
use Rattle.std.specs.Prelude.{◌≡◌, ℕ, ◌<◌, ◌≤◌, false, List, Option, Some, None, pos, ◌<ℤ◌}
use Rattle.definitions.specs.declared.Cosine.{Cosine}
use Rattle.definitions.specs.declared.Extremes.{Extremes}
use Rattle.definitions.specs.declared.Place.{Place}
use Rattle.definitions.specs.Angles.{edge_cosine, is_less}
use Rattle.definitions.specs.Vectors.{det, minus, place_at}
use Rattle.dihedral.specs.declared.shape.Shape.{Shape}
use Rattle.dihedral.specs.TetAngles.{edge_at}

-- the shape with these vectors
abbrev pub shape_by : Place → Place → Place → Shape
shape_by a b c = record { second = a; third = b; fourth = c }

-- the vectors from a tetrahedron's first node to the others
pub record IsShapeOf (tet : List Place) (s : Shape) : Type 0 where
  pub second : s.second ≡ minus (place_at tet 1) (place_at tet 0)
  pub third : s.third ≡ minus (place_at tet 2) (place_at tet 0)
  pub fourth : s.fourth ≡ minus (place_at tet 3) (place_at tet 0)

-- an angle is not smaller than the least, and not greater than the greatest
pub record IsBetween (e : Extremes) (x : Cosine) : Type 0 where
  pub below : is_less e.least.cosine x ≡ false
  pub above : is_less x e.greatest.cosine ≡ false

abbrev pub Between : Option Extremes → Cosine → Type 0
Between None x = ⊥
Between (Some e) x = IsBetween e x

-- all angles of a tetrahedron are
abbrev pub Covers : Option Extremes → List Place → Type 0
Covers found tet = (k : ℕ) → k < 6 → Between found (edge_cosine tet (edge_at k))

-- those of every tetrahedron of a shape are
abbrev pub CoversShape : Option Extremes → Shape → Type 0
CoversShape found s = (tet : List Place) → IsShapeOf tet s → pos 0 <ℤ det tet → Covers found tet

-- what is within some extremes is within others
abbrev pub Widens : Option Extremes → Option Extremes → Type 0
Widens old new = (x : Cosine) → 1 ≤ x.den → Between old x → Between new x
