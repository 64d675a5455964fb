-- Triangles that two tetrahedra share, by the direction that each has them in.
use Rattle.std.specs.Prelude.{◌≡◌, ℕ, Bool, false, ◌&&◌, ◌||◌, ◌==◌, List, [], ◌∷◌, count_by, if◌then◌else◌}
use Rattle.definitions.specs.Soundness.{all_triangles, tets_at_triangle}

-- the second triangle is the first with its direction turned
abbrev pub turned : List ℕ → List ℕ → Bool
turned (a ∷ b ∷ c ∷ []) (x ∷ y ∷ z ∷ []) = (x == a && (y == c && z == b)) || ((x == c && (y == b && z == a)) || (x == b && (y == a && z == c)))
turned _ _ = false

-- a triangle that is in one tetrahedron has no turned partner, any other just one
abbrev pub IsPaired : List (List ℕ) → List ℕ → Type 0
IsPaired tets t = count_by (turned t) (all_triangles tets) ≡ (if tets_at_triangle tets t == 1 then 0 else 1)
