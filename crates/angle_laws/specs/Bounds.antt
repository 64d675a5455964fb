-- What the extremes of a mesh say of all of its angles.
use Rattle.std.specs.Prelude.{◌≡◌, ◌↔◌, ◌≤◌, ◌*◌, List, [], All, Contains, Option, IsNone, IfSome, pos, ◌*ℤ◌, ◌≤ℤ◌}
use Rattle.definitions.specs.declared.Cosine.{Cosine}
use Rattle.definitions.specs.declared.Extreme.{Extreme}
use Rattle.definitions.specs.declared.Extremes.{Extremes}
use Rattle.definitions.specs.Angles.{angles, extremes_of}
use Rattle.definitions.specs.Mesh.{Mesh, mesh}
use Rattle.definitions.specs.States.{Shares, IsShares}
use Rattle.definitions.specs.Values.{Field}

-- the fraction, with its sign, is at most the other: by cross products of whole numbers without bound
abbrev pub IsAtMost : Cosine → Cosine → Type 0
IsAtMost a b = (a.sign *ℤ pos (a.num * b.den)) ≤ℤ (b.sign *ℤ pos (b.num * a.den))

-- The signed square of an angle is a fraction, and lies between that of the greatest angle and that of the least.
pub record LiesBetween (e : Extremes) (angle : Extreme) : Type 0 where
  pub denominator : 1 ≤ angle.cosine.den
  pub below : IsAtMost angle.cosine e.least.cosine
  pub above : IsAtMost e.greatest.cosine angle.cosine

-- Both are among the angles, each with its tetrahedron and its edge, and all angles lie between them.
pub record AreBounds (e : Extremes) (xs : List Extreme) : Type 0 where
  pub least : Contains xs e.least
  pub greatest : Contains xs e.greatest
  pub between : All (LiesBetween e) xs

-- What is found of a mesh: bounds of its angles, and nothing exactly where it has no tetrahedra.
pub record BoundsAngles (found : Option Extremes) (m : Mesh) : Type 0 where
  pub none : IsNone found ↔ (m.tets ≡ [])
  pub some : IfSome found (λ e. AreBounds e (angles m))

-- So it is of the mesh of every field.
abbrev pub AnglesAreBounded : Type 0
AnglesAreBounded = (f : Field) (s : Shares) → IsShares s → BoundsAngles (extremes_of (angles (mesh f s))) (mesh f s)
