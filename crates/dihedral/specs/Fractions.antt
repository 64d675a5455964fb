-- Fractions with a sign, before and after they are brought to lowest terms.
use Rattle.std.specs.Prelude.{◌≡◌, ℕ, ◌+◌, ◌*◌, ◌≤◌, ◌↔◌, pos, neg_ℤ, unsigned_abs, List, slice_index}
use Rattle.std.specs.Int.{int_signum}
use Rattle.definitions.specs.declared.Place.{Place}
use Rattle.definitions.specs.declared.Cosine.{Cosine}
use Rattle.definitions.specs.declared.Extreme.{Extreme}
use Rattle.definitions.specs.declared.Extremes.{Extremes}
use Rattle.definitions.specs.Vectors.{minus, dot, cross, place_at}
use Rattle.definitions.specs.Places.{place}
use Rattle.std.specs.declared.cmp.Ordering.{Ordering}
use Rattle.std.specs.Ordering.{MatchOrdering}
use Rattle.definitions.specs.Angles.{lowest}

-- a sign -1, 0 or 1, which is 0 exactly where the numerator is, and a denominator
pub record IsFraction (a : Cosine) : Type 0 where
  pub sign : unsigned_abs a.sign ≤ 1
  pub zero : (a.sign ≡ pos 0) ↔ (a.num ≡ 0)
  pub den : 1 ≤ a.den

abbrev pub IsAngle : Extreme → Type 0
IsAngle a = IsFraction a.cosine

pub record AreFractions (e : Extremes) : Type 0 where
  pub least : IsAngle e.least
  pub greatest : IsAngle e.greatest

abbrev pub in_lowest_terms : Cosine → Cosine
in_lowest_terms a = lowest a.sign a.num a.den

abbrev pub angle_in_lowest_terms : Extreme → Extreme
angle_in_lowest_terms a = record { cosine = in_lowest_terms a.cosine; tet = a.tet; ends = a.ends }

abbrev pub extremes_in_lowest_terms : Extremes → Extremes
extremes_in_lowest_terms e = record { least = angle_in_lowest_terms e.least; greatest = angle_in_lowest_terms e.greatest }

-- from two normals, the square of the cosine of the angle between them, not in lowest terms
abbrev pub square_between : Place → Place → Cosine
square_between m n = record { sign = int_signum (dot m n); num = unsigned_abs (dot m n) * unsigned_abs (dot m n); den = unsigned_abs (dot m m) * unsigned_abs (dot n n) }

abbrev pub opposite : Place → Place
opposite p = place (neg_ℤ p.x) (neg_ℤ p.y) (neg_ℤ p.z)

-- the normal of a triangle of three places
abbrev pub normal : Place → Place → Place → Place
normal p q r = cross (minus q p) (minus r p)

-- the same at three nodes of a tetrahedron
abbrev pub normal_at : List Place → ℕ → ℕ → ℕ → Place
normal_at tet i j l = normal (place_at tet i) (place_at tet j) (place_at tet l)

-- the square at an edge of a tetrahedron, not in lowest terms
abbrev pub square_at : List Place → List ℕ → Cosine
square_at tet edge = square_between (normal_at tet (slice_index edge 0) (slice_index edge 1) (slice_index edge 2)) (normal_at tet (slice_index edge 0) (slice_index edge 1) (slice_index edge 3))

-- what an order of a / b and c / d says of the products of the next numbers: a number with these leading bits is below the next
abbrev pub AreApart : Ordering → ℕ → ℕ → ℕ → ℕ → Type 0
AreApart order a b c d = MatchOrdering order ((a + 1) * (d + 1) ≤ c * b) ⊥ ((c + 1) * (b + 1) ≤ a * d)
