-- The texts of boundary triangles and of neighbours. Nodes, tetrahedra and triangles are numbered from `first`, which is 0 or 1.
use Rattle.std.specs.Prelude.{ℕ, ◌+◌, Some, None, Option, List, [], ◌∷◌, ◌++◌, length, map, flat_map, codes, decimal}
use Rattle.std.specs.Option.{option_map}
use Rattle.std.specs.List.{enumerate_from}
use Rattle.formats.specs.Texts.{line}

-- the line of a triangle: its number, and its nodes
abbrev pub face_line : ℕ × List ℕ → List ℕ
face_line face = line (decimal face.0 ∷ map decimal face.1)

-- the number of a neighbour, or -1 where there is none
abbrev pub neighbour_text : Option ℕ → List ℕ
neighbour_text (Some u) = decimal u
neighbour_text None = codes "-1"

-- the line of a tetrahedron's neighbours: its number, and theirs
abbrev pub neigh_line : ℕ × List (Option ℕ) → List ℕ
neigh_line tet = line (decimal tet.0 ∷ map neighbour_text tet.1)

-- a .face file: the number of boundary triangles, and each of them
unfoldable pub face_text : ℕ → List (List ℕ) → List ℕ
face_text first faces =
    line (decimal (length faces) ∷ codes "0" ∷ [])
    ++ flat_map face_line (enumerate_from first (map (map (λ n. first + n)) faces))

-- a .neigh file: the number of tetrahedra, and the neighbours of each
unfoldable pub neigh_text : ℕ → List (List (Option ℕ)) → List ℕ
neigh_text first neighbours =
    line (decimal (length neighbours) ∷ codes "4" ∷ [])
    ++ flat_map neigh_line (enumerate_from first (map (map (option_map (λ n. first + n))) neighbours))
