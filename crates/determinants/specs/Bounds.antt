-- Places that are near to one another.
use Rattle.std.specs.Prelude.{ℕ, ◌<◌, List}
use Rattle.definitions.specs.declared.Place.{Place}
use Rattle.definitions.specs.Vectors.{minus, place_at}
use Rattle.bcc_lattice.specs.Bounds.{IsSmallPlace}

-- the places of a tetrahedron differ by at most 12,286 on each axis
abbrev pub AreNear : List Place → Type 0
AreNear tet = (i j : ℕ) → i < 4 → j < 4 → IsSmallPlace 12286 (minus (place_at tet i) (place_at tet j))
