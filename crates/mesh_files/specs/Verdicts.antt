-- What the tetrahedra of finished files come to.
use Rattle.std.specs.Prelude.{ℕ, ◌+◌, Bool, true, false, not, ◌||◌, ◌&&◌, ◌==◌, nat_lt, List, [], ◌∷◌, count_by, length, Option, Some, None, ℤ, pos, negsuc, zero, suc}
use Rattle.std.specs.List.{list_any, position}
use Rattle.definitions.specs.declared.Place.{Place}
use Rattle.definitions.specs.Vectors.{det}
use Rattle.definitions.specs.Soundness.{corner_places, triangles_of, all_triangles, tets_at_triangle, boundary}
use Rattle.formats.specs.declared.Verdict.{Verdict}
use Rattle.formats.specs.declared.Verdict.TheVariants.{NotPositive, Crowded, Turned, Sound}
use Rattle.mesh_files.specs.Files.{Nodes}

abbrev pub is_above_zero : ℤ → Bool
is_above_zero (pos zero) = false
is_above_zero (pos (suc n)) = true
is_above_zero (negsuc n) = false

-- the tetrahedron has a volume above zero
unfoldable pub is_positive : List Place → List ℕ → Bool
is_positive places tet = is_above_zero (det (corner_places places tet))

-- it has a triangle that is in more than two tetrahedra
unfoldable pub is_crowded : List (List ℕ) → List ℕ → Bool
is_crowded tets tet = list_any (λ t. nat_lt 2 (tets_at_triangle tets t)) (triangles_of tet)

-- two triangles have the same nodes in the same direction: one is the other from another node on
abbrev pub same_direction : List ℕ → List ℕ → Bool
same_direction (a ∷ b ∷ c ∷ []) (x ∷ y ∷ z ∷ []) =
    (a == x && (b == y && c == z)) || ((a == y && (b == z && c == x)) || (a == z && (b == x && c == y)))
same_direction s t = false

-- in how many tetrahedra a triangle stands in this direction
abbrev pub tets_in_direction : List (List ℕ) → List ℕ → ℕ
tets_in_direction tets t = count_by (same_direction t) (all_triangles tets)

-- it has a triangle that another tetrahedron directs the same way
unfoldable pub is_turned : List (List ℕ) → List ℕ → Bool
is_turned tets tet = list_any (λ t. nat_lt 1 (tets_in_direction tets t)) (triangles_of tet)

-- the verdict at a place that may have been found, or what comes behind it
abbrev pub found_or : Option ℕ → (ℕ → Verdict) → Verdict → Verdict
found_or None at behind = behind
found_or (Some i) at behind = at i

-- the verdict on tetrahedra over these nodes
unfoldable pub verdict : Nodes → List (List ℕ) → Verdict
verdict nodes tets =
    found_or (position (λ t. not (is_positive nodes.places t)) tets) (λ i. NotPositive (nodes.first + i))
    (found_or (position (is_crowded tets) tets) (λ i. Crowded (nodes.first + i))
    (found_or (position (is_turned tets) tets) (λ i. Turned (nodes.first + i))
    (Sound (length nodes.places) (length tets) (length (boundary tets)))))
