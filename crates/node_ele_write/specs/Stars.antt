-- The tetrahedra round a vertex.
use Rattle.std.specs.Prelude.{ℕ, List, [], ◌∷◌, slice_index}

-- six tetrahedra that share a vertex, by seven others
abbrev pub star_tets : ℕ → List ℕ → List (List ℕ)
star_tets own others =
    (own ∷ slice_index others 0 ∷ slice_index others 5 ∷ slice_index others 3 ∷ [])
    ∷ (own ∷ slice_index others 1 ∷ slice_index others 4 ∷ slice_index others 5 ∷ [])
    ∷ (own ∷ slice_index others 2 ∷ slice_index others 3 ∷ slice_index others 6 ∷ [])
    ∷ (own ∷ slice_index others 2 ∷ slice_index others 6 ∷ slice_index others 4 ∷ [])
    ∷ (own ∷ slice_index others 3 ∷ slice_index others 5 ∷ slice_index others 6 ∷ [])
    ∷ (own ∷ slice_index others 4 ∷ slice_index others 6 ∷ slice_index others 5 ∷ [])
    ∷ []
