-- The six angles of a tetrahedron, one after another.
use Rattle.std.proofs.Common.{◌≡◌, refl, append_assoc, List, [], ◌∷◌, ◌++◌, ℕ, None}
use Rattle.definitions.specs.declared.Place.{Place}
use Rattle.definitions.specs.declared.Extreme.{Extreme}
use Rattle.definitions.specs.Angles.{edge_cosine, extremes_of}
use Rattle.dihedral.specs.TetAngles.{six_angles}
use Rattle.dihedral.proofs.ExtremesOfLists.{some_extremes}
use Rattle.dihedral.specs.Fractions.{in_lowest_terms, square_at}

pub edge_cosine-is : (tet : List Place) (edge : List ℕ) → in_lowest_terms (square_at tet edge) ≡ edge_cosine tet edge
unfolding edge_cosine
edge_cosine-is tet edge = refl

pub six_after : {X : Type 0} (xs : List X) (a b c d e f : X) → (((((xs ++ a ∷ []) ++ b ∷ []) ++ c ∷ []) ++ d ∷ []) ++ e ∷ []) ++ f ∷ [] ≡ xs ++ a ∷ b ∷ c ∷ d ∷ e ∷ f ∷ []
six_after xs a b c d e f = simp append_assoc

none_of_some : (x : Extreme) (xs : List Extreme) → None ≡ extremes_of (x ∷ xs) → ⊥
none_of_some x xs h = let some = some_extremes x xs in let e = some.1 in cc

pub six_are_some : (tet : List Place) (t : ℕ) (nodes : List ℕ) → None ≡ extremes_of (six_angles tet t nodes) → ⊥
six_are_some tet t nodes h = none_of_some _ _ h
