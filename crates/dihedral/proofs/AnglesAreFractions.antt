-- The angles of a tetrahedron with a volume are fractions.
use Rattle.std.proofs.Common.{◌≡◌, ℕ, zero, suc, ◌<◌, ◌≤◌, arith, sym, subst, List, pos, ◌<ℤ◌, unsigned_abs}
use Rattle.std.specs.Prelude.{All}
use Rattle.std.proofs.Math.Nat.{one-le-mul}
use Rattle.std.proofs.lemmas.List.Elements.{All-from_recursion}
use Rattle.definitions.specs.declared.Place.{Place}
use Rattle.definitions.specs.Vectors.{dot, det, place_at}
use Rattle.definitions.specs.Angles.{edge_cosine}
use Rattle.dihedral.specs.Fractions.{IsFraction, IsAngle, normal_at, opposite, square_at, square_between}
use Rattle.dihedral.specs.TetAngles.{edge_at, six_angles}
use Rattle.dihedral.proofs.Reductions.{IsFraction-lowest}
use Rattle.dihedral.proofs.FaceNormals.{first_is_some, second_is_some, third_is_some, fourth_is_some}
use Rattle.dihedral.proofs.FaceSquares.{square_between-fraction, edge_0, edge_1, edge_2, edge_3, edge_4, edge_5}
use Rattle.dihedral.proofs.SixAngles.{edge_cosine-is}

module _ (tet : List Place) (positive : pos 0 <ℤ det tet) where
  abbrev IsSome : Place → Type 0
  IsSome n = 1 ≤ unsigned_abs (dot n n)

  first : IsSome (normal_at tet 1 2 3)
  first = first_is_some (place_at tet 0) (place_at tet 1) (place_at tet 2) (place_at tet 3) positive

  second : IsSome (normal_at tet 0 3 2)
  second = second_is_some (place_at tet 0) (place_at tet 1) (place_at tet 2) (place_at tet 3) positive

  third : IsSome (normal_at tet 0 1 3)
  third = third_is_some (place_at tet 0) (place_at tet 1) (place_at tet 2) (place_at tet 3) positive

  fourth : IsSome (normal_at tet 0 2 1)
  fourth = fourth_is_some (place_at tet 0) (place_at tet 1) (place_at tet 2) (place_at tet 3) positive

  square_at_edge : (edge : List ℕ) (m n : Place) → IsSome m → IsSome n → square_at tet edge ≡ square_between (opposite m) n → IsFraction (square_at tet edge)
  square_at_edge edge m n p q e = subst IsFraction (sym e) (square_between-fraction m n (one-le-mul p q))

  pub square_fraction : (k : ℕ) → k < 6 → IsFraction (square_at tet (edge_at k))
  square_fraction zero h = square_at_edge (edge_at 0) (normal_at tet 0 2 1) (normal_at tet 0 1 3) fourth third (edge_0 tet)
  square_fraction (suc zero) h = square_at_edge (edge_at 1) (normal_at tet 0 3 2) (normal_at tet 0 2 1) second fourth (edge_1 tet)
  square_fraction (suc (suc zero)) h = square_at_edge (edge_at 2) (normal_at tet 0 1 3) (normal_at tet 0 3 2) third second (edge_2 tet)
  square_fraction (suc (suc (suc zero))) h = square_at_edge (edge_at 3) (normal_at tet 0 2 1) (normal_at tet 1 2 3) fourth first (edge_3 tet)
  square_fraction (suc (suc (suc (suc zero)))) h = square_at_edge (edge_at 4) (normal_at tet 1 2 3) (normal_at tet 0 1 3) first third (edge_4 tet)
  square_fraction (suc (suc (suc (suc (suc zero))))) h = square_at_edge (edge_at 5) (normal_at tet 0 3 2) (normal_at tet 1 2 3) second first (edge_5 tet)
  square_fraction (suc (suc (suc (suc (suc (suc k)))))) h = absurd (omega arith)

  at_edge : (edge : List ℕ) (m n : Place) → IsSome m → IsSome n → square_at tet edge ≡ square_between (opposite m) n → IsFraction (edge_cosine tet edge)
  at_edge edge m n p q e = subst IsFraction (edge_cosine-is tet edge) (IsFraction-lowest (square_at tet edge) (subst IsFraction (sym e) (square_between-fraction m n (one-le-mul p q))))

  pub six_are_angles : (t : ℕ) (nodes : List ℕ) → All IsAngle (six_angles tet t nodes)
  six_are_angles t nodes = All-from_recursion IsAngle (six_angles tet t nodes) (at_edge (edge_at 0) (normal_at tet 0 2 1) (normal_at tet 0 1 3) fourth third (edge_0 tet), (at_edge (edge_at 1) (normal_at tet 0 3 2) (normal_at tet 0 2 1) second fourth (edge_1 tet), (at_edge (edge_at 2) (normal_at tet 0 1 3) (normal_at tet 0 3 2) third second (edge_2 tet), (at_edge (edge_at 3) (normal_at tet 0 2 1) (normal_at tet 1 2 3) fourth first (edge_3 tet), (at_edge (edge_at 4) (normal_at tet 1 2 3) (normal_at tet 0 1 3) first third (edge_4 tet), (at_edge (edge_at 5) (normal_at tet 0 3 2) (normal_at tet 1 2 3) second first (edge_5 tet), tt))))))

  pub cosine_den : (k : ℕ) → k < 6 → 1 ≤ (edge_cosine tet (edge_at k)).den
  cosine_den zero h = (at_edge (edge_at 0) (normal_at tet 0 2 1) (normal_at tet 0 1 3) fourth third (edge_0 tet)).den
  cosine_den (suc zero) h = (at_edge (edge_at 1) (normal_at tet 0 3 2) (normal_at tet 0 2 1) second fourth (edge_1 tet)).den
  cosine_den (suc (suc zero)) h = (at_edge (edge_at 2) (normal_at tet 0 1 3) (normal_at tet 0 3 2) third second (edge_2 tet)).den
  cosine_den (suc (suc (suc zero))) h = (at_edge (edge_at 3) (normal_at tet 0 2 1) (normal_at tet 1 2 3) fourth first (edge_3 tet)).den
  cosine_den (suc (suc (suc (suc zero)))) h = (at_edge (edge_at 4) (normal_at tet 1 2 3) (normal_at tet 0 1 3) first third (edge_4 tet)).den
  cosine_den (suc (suc (suc (suc (suc zero))))) h = (at_edge (edge_at 5) (normal_at tet 0 3 2) (normal_at tet 1 2 3) second first (edge_5 tet)).den
  cosine_den (suc (suc (suc (suc (suc (suc k)))))) h = absurd (omega arith)
