-- The lines of a file behind its first one.
use Rattle.std.specs.Prelude.{ℕ, ◌+◌, ◌==◌, Option, List, ◌++◌, length, map, flat_map, filter, take, codes, decimal}
use Rattle.std.specs.Option.{option_map}
use Rattle.std.specs.List.{enumerate_from}
use Rattle.definitions.specs.Soundness.{all_triangles, boundary, tets_at_triangle}
use Rattle.adjacency.specs.Texts.{face_line, neigh_line}

-- those of triangles, numbered from a number on, whose nodes are numbered from `first`
abbrev pub face_lines : ℕ → ℕ → List (List ℕ) → List ℕ
face_lines first from faces = flat_map face_line (enumerate_from from (map (map (λ n. first + n)) faces))

-- those of the neighbours of tetrahedra, all numbered from `first`
abbrev pub neigh_lines : ℕ → List (List (Option ℕ)) → List ℕ
neigh_lines first neighbours = flat_map neigh_line (enumerate_from first (map (map (option_map (λ n. first + n))) neighbours))

-- the boundary triangles that the first n tetrahedra have
abbrev pub boundary_to : List (List ℕ) → ℕ → List (List ℕ)
boundary_to tets n = filter (λ (triangle : List ℕ). tets_at_triangle tets triangle == 1) (all_triangles (take n tets))

-- the .face file up to tetrahedron n, and the .neigh file
abbrev pub face_to : ℕ → List (List ℕ) → ℕ → List ℕ
face_to first tets n = (decimal (length (boundary tets)) ++ codes " 0\n") ++ face_lines first first (boundary_to tets n)

abbrev pub neigh_to : ℕ → List (List (Option ℕ)) → ℕ → List ℕ
neigh_to first neighbours n = (decimal (length neighbours) ++ codes " 4\n") ++ neigh_lines first (take n neighbours)
