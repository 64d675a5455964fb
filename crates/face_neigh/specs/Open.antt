-- Triangles across which there is no neighbour.
use Rattle.std.specs.Prelude.{ℕ, ◌-◌, Bool, Option, None, is_none, List, [], ◌∷◌, if◌then◌else◌, flat_map, slice_index_or}
use Rattle.std.specs.List.{range_with_len}
use Rattle.definitions.specs.Soundness.{triangles_of}

-- the triangle, if it is asked for
abbrev pub one_if : Bool → List ℕ → List (List ℕ)
one_if asked triangle = if asked then triangle ∷ [] else []

-- the triangles of a tetrahedron with these neighbours across which there is none, in their order
abbrev pub open_triangles : List ℕ → List (Option ℕ) → List (List ℕ)
open_triangles tet across = flat_map (λ k. one_if (is_none (slice_index_or across (3 - k) None)) (slice_index_or (triangles_of tet) k [])) (range_with_len 0 4)
