-- A piece has as many nodes when it is oriented.
use Rattle.std.proofs.Common.{◌≡◌, Bool, true, false, if◌then◌else◌, List, [], ◌∷◌, length, map, refl, pos}
use Rattle.std.specs.Prelude.{int_lt}
use Rattle.definitions.specs.declared.Vertex.{Vertex}
use Rattle.definitions.specs.declared.Corner.{Corner}
use Rattle.definitions.specs.Vectors.{det}
use Rattle.definitions.specs.Pieces.{middle, oriented, swap_last_two}

length_swapped : (p : List Corner) → length (swap_last_two p) ≡ length p
length_swapped [] = refl
length_swapped (a ∷ []) = refl
length_swapped (a ∷ b ∷ []) = refl
length_swapped (a ∷ b ∷ c ∷ []) = refl
length_swapped (a ∷ b ∷ c ∷ d ∷ []) = refl
length_swapped (a ∷ b ∷ c ∷ d ∷ e ∷ p) = refl

pub length_oriented : (tet : List Vertex) (p : List Corner) → length (oriented tet p) ≡ length p
unfolding oriented
length_oriented tet p = go (int_lt (det (map (middle tet) p)) (pos 0))
  where
    go : (b : Bool) → length (if b then swap_last_two p else p) ≡ length p
    go true = length_swapped p
    go false = refl
