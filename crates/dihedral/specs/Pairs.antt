-- Pairs of faces of a tetrahedron, by the products of their normals.
use Rattle.std.specs.Prelude.{◌≡◌, ◌*◌, neg_ℤ, pos, unsigned_abs}
use Rattle.std.specs.Int.{int_signum}
use Rattle.definitions.specs.declared.Place.{Place}
use Rattle.definitions.specs.declared.Cosine.{Cosine}
use Rattle.definitions.specs.Vectors.{dot}
use Rattle.dihedral.specs.declared.pair.Pair.{Pair}

-- the square of the cosine of the angle between two faces, not in lowest terms
abbrev pub square_of : Pair → Cosine
square_of p = record { sign = int_signum (neg_ℤ p.product); num = unsigned_abs p.product * unsigned_abs p.product; den = p.one * p.other }

-- two faces with these normals
pub record IsPairOf (m n : Place) (p : Pair) : Type 0 where
  pub product : p.product ≡ dot m n
  pub one : pos p.one ≡ dot m m
  pub other : pos p.other ≡ dot n n
