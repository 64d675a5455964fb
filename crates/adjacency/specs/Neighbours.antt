-- Which tetrahedra share a triangle. Tetrahedra and their nodes go by their places in a list, from 0.
use Rattle.std.specs.Prelude.{ℕ, ◌-◌, ◌==◌, ◌&&◌, not, Bool, Option, List, length, map, find, slice_index_or, []}
use Rattle.std.specs.List.{list_any, range_with_len}
use Rattle.definitions.specs.Soundness.{same_nodes, triangles_of}

-- the triangle of a tetrahedron without its node i: the triangles stand from the one without the last node to the one without the first
abbrev pub triangle_without : List ℕ → ℕ → List ℕ
triangle_without tet i = slice_index_or (triangles_of tet) (3 - i) []

-- the tetrahedron has a triangle with the same nodes
abbrev pub has_triangle : List ℕ → List ℕ → Bool
has_triangle triangle tet = list_any (same_nodes triangle) (triangles_of tet)

-- tetrahedron u is another than t, and has the triangle of t without node i
abbrev pub is_across : List (List ℕ) → ℕ → ℕ → ℕ → Bool
is_across tets t i u = not (u == t) && has_triangle (triangle_without (slice_index_or tets t []) i) (slice_index_or tets u [])

-- the neighbour i of tetrahedron t: the other one that has its triangle without node i, or none
unfoldable pub neighbour : List (List ℕ) → ℕ → ℕ → Option ℕ
neighbour tets t i = find (is_across tets t i) (range_with_len 0 (length tets))

-- the four neighbours of each tetrahedron
unfoldable pub neighbours : List (List ℕ) → List (List (Option ℕ))
neighbours tets = map (λ t. map (neighbour tets t) (range_with_len 0 4)) (range_with_len 0 (length tets))
