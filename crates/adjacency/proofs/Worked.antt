-- Worked values of the definitions: the mesh of one sample, its boundary triangles and its neighbours, and the empty mesh.
use Rattle.std.specs.Prelude.{◌≡◌, ℕ, Option, Some, None, List, [], ◌∷◌, ◌++◌, codes, refl}
use Rattle.std.specs.Fmt.{digits}
use Rattle.definitions.specs.Soundness.{boundary}
use Rattle.adjacency.specs.Neighbours.{neighbour, neighbours}
use Rattle.adjacency.specs.Texts.{face_text, neigh_text}

-- the tetrahedra around one sample above the level
abbrev tets : List (List ℕ)
tets = (0 ∷ 1 ∷ 2 ∷ 7 ∷ [])
    ∷ (0 ∷ 1 ∷ 7 ∷ 3 ∷ [])
    ∷ (0 ∷ 2 ∷ 4 ∷ 7 ∷ [])
    ∷ (0 ∷ 3 ∷ 7 ∷ 4 ∷ [])
    ∷ (1 ∷ 2 ∷ 7 ∷ 5 ∷ [])
    ∷ (1 ∷ 3 ∷ 6 ∷ 7 ∷ [])
    ∷ (1 ∷ 5 ∷ 7 ∷ 10 ∷ [])
    ∷ (1 ∷ 6 ∷ 10 ∷ 7 ∷ [])
    ∷ (2 ∷ 4 ∷ 7 ∷ 8 ∷ [])
    ∷ (2 ∷ 5 ∷ 11 ∷ 7 ∷ [])
    ∷ (2 ∷ 7 ∷ 11 ∷ 8 ∷ [])
    ∷ (3 ∷ 4 ∷ 9 ∷ 7 ∷ [])
    ∷ (3 ∷ 6 ∷ 7 ∷ 12 ∷ [])
    ∷ (3 ∷ 7 ∷ 9 ∷ 12 ∷ [])
    ∷ (4 ∷ 7 ∷ 8 ∷ 13 ∷ [])
    ∷ (4 ∷ 7 ∷ 13 ∷ 9 ∷ [])
    ∷ (5 ∷ 7 ∷ 10 ∷ 11 ∷ [])
    ∷ (6 ∷ 7 ∷ 12 ∷ 10 ∷ [])
    ∷ (7 ∷ 8 ∷ 13 ∷ 11 ∷ [])
    ∷ (7 ∷ 9 ∷ 12 ∷ 13 ∷ [])
    ∷ (7 ∷ 10 ∷ 11 ∷ 14 ∷ [])
    ∷ (7 ∷ 10 ∷ 14 ∷ 12 ∷ [])
    ∷ (7 ∷ 11 ∷ 13 ∷ 14 ∷ [])
    ∷ (7 ∷ 12 ∷ 14 ∷ 13 ∷ [])
    ∷ []

abbrev faces : List (List ℕ)
faces = (0 ∷ 2 ∷ 1 ∷ [])
    ∷ (0 ∷ 1 ∷ 3 ∷ [])
    ∷ (0 ∷ 4 ∷ 2 ∷ [])
    ∷ (0 ∷ 3 ∷ 4 ∷ [])
    ∷ (1 ∷ 2 ∷ 5 ∷ [])
    ∷ (1 ∷ 6 ∷ 3 ∷ [])
    ∷ (1 ∷ 5 ∷ 10 ∷ [])
    ∷ (1 ∷ 10 ∷ 6 ∷ [])
    ∷ (2 ∷ 4 ∷ 8 ∷ [])
    ∷ (2 ∷ 11 ∷ 5 ∷ [])
    ∷ (2 ∷ 8 ∷ 11 ∷ [])
    ∷ (3 ∷ 9 ∷ 4 ∷ [])
    ∷ (3 ∷ 6 ∷ 12 ∷ [])
    ∷ (3 ∷ 12 ∷ 9 ∷ [])
    ∷ (4 ∷ 13 ∷ 8 ∷ [])
    ∷ (4 ∷ 9 ∷ 13 ∷ [])
    ∷ (5 ∷ 11 ∷ 10 ∷ [])
    ∷ (6 ∷ 10 ∷ 12 ∷ [])
    ∷ (8 ∷ 13 ∷ 11 ∷ [])
    ∷ (9 ∷ 12 ∷ 13 ∷ [])
    ∷ (10 ∷ 11 ∷ 14 ∷ [])
    ∷ (10 ∷ 14 ∷ 12 ∷ [])
    ∷ (11 ∷ 13 ∷ 14 ∷ [])
    ∷ (12 ∷ 14 ∷ 13 ∷ [])
    ∷ []

abbrev across : List (List (Option ℕ))
across = (Some 4 ∷ Some 2 ∷ Some 1 ∷ None ∷ [])
    ∷ (Some 5 ∷ Some 3 ∷ None ∷ Some 0 ∷ [])
    ∷ (Some 8 ∷ Some 3 ∷ Some 0 ∷ None ∷ [])
    ∷ (Some 11 ∷ Some 2 ∷ None ∷ Some 1 ∷ [])
    ∷ (Some 9 ∷ Some 6 ∷ None ∷ Some 0 ∷ [])
    ∷ (Some 12 ∷ Some 7 ∷ Some 1 ∷ None ∷ [])
    ∷ (Some 16 ∷ Some 7 ∷ None ∷ Some 4 ∷ [])
    ∷ (Some 17 ∷ Some 6 ∷ Some 5 ∷ None ∷ [])
    ∷ (Some 14 ∷ Some 10 ∷ None ∷ Some 2 ∷ [])
    ∷ (Some 16 ∷ Some 10 ∷ Some 4 ∷ None ∷ [])
    ∷ (Some 18 ∷ None ∷ Some 8 ∷ Some 9 ∷ [])
    ∷ (Some 15 ∷ Some 13 ∷ Some 3 ∷ None ∷ [])
    ∷ (Some 17 ∷ Some 13 ∷ None ∷ Some 5 ∷ [])
    ∷ (Some 19 ∷ None ∷ Some 12 ∷ Some 11 ∷ [])
    ∷ (Some 18 ∷ None ∷ Some 15 ∷ Some 8 ∷ [])
    ∷ (Some 19 ∷ None ∷ Some 11 ∷ Some 14 ∷ [])
    ∷ (Some 20 ∷ None ∷ Some 9 ∷ Some 6 ∷ [])
    ∷ (Some 21 ∷ None ∷ Some 7 ∷ Some 12 ∷ [])
    ∷ (None ∷ Some 22 ∷ Some 10 ∷ Some 14 ∷ [])
    ∷ (None ∷ Some 23 ∷ Some 15 ∷ Some 13 ∷ [])
    ∷ (None ∷ Some 22 ∷ Some 21 ∷ Some 16 ∷ [])
    ∷ (None ∷ Some 23 ∷ Some 17 ∷ Some 20 ∷ [])
    ∷ (None ∷ Some 23 ∷ Some 20 ∷ Some 18 ∷ [])
    ∷ (None ∷ Some 22 ∷ Some 19 ∷ Some 21 ∷ [])
    ∷ []

boundary_of_one : boundary tets ≡ faces
boundary_of_one = refl

neighbours_of_one : neighbours tets ≡ across
unfolding neighbour neighbours
neighbours_of_one = refl

face : face_text 0 faces ≡ codes "24 0\n"
    ++ (codes "0 0 2 1\n"
    ++ (codes "1 0 1 3\n"
    ++ (codes "2 0 4 2\n"
    ++ (codes "3 0 3 4\n"
    ++ (codes "4 1 2 5\n"
    ++ (codes "5 1 6 3\n"
    ++ (codes "6 1 5 10\n"
    ++ (codes "7 1 10 6\n"
    ++ (codes "8 2 4 8\n"
    ++ (codes "9 2 11 5\n"
    ++ (codes "10 2 8 11\n"
    ++ (codes "11 3 9 4\n"
    ++ (codes "12 3 6 12\n"
    ++ (codes "13 3 12 9\n"
    ++ (codes "14 4 13 8\n"
    ++ (codes "15 4 9 13\n"
    ++ (codes "16 5 11 10\n"
    ++ (codes "17 6 10 12\n"
    ++ (codes "18 8 13 11\n"
    ++ (codes "19 9 12 13\n"
    ++ (codes "20 10 11 14\n"
    ++ (codes "21 10 14 12\n"
    ++ (codes "22 11 13 14\n"
    ++ (codes "23 12 14 13\n"))))))))))))))))))))))))
unfolding face_text digits
face = refl

neigh : neigh_text 0 across ≡ codes "24 4\n"
    ++ (codes "0 4 2 1 -1\n"
    ++ (codes "1 5 3 -1 0\n"
    ++ (codes "2 8 3 0 -1\n"
    ++ (codes "3 11 2 -1 1\n"
    ++ (codes "4 9 6 -1 0\n"
    ++ (codes "5 12 7 1 -1\n"
    ++ (codes "6 16 7 -1 4\n"
    ++ (codes "7 17 6 5 -1\n"
    ++ (codes "8 14 10 -1 2\n"
    ++ (codes "9 16 10 4 -1\n"
    ++ (codes "10 18 -1 8 9\n"
    ++ (codes "11 15 13 3 -1\n"
    ++ (codes "12 17 13 -1 5\n"
    ++ (codes "13 19 -1 12 11\n"
    ++ (codes "14 18 -1 15 8\n"
    ++ (codes "15 19 -1 11 14\n"
    ++ (codes "16 20 -1 9 6\n"
    ++ (codes "17 21 -1 7 12\n"
    ++ (codes "18 -1 22 10 14\n"
    ++ (codes "19 -1 23 15 13\n"
    ++ (codes "20 -1 22 21 16\n"
    ++ (codes "21 -1 23 17 20\n"
    ++ (codes "22 -1 23 20 18\n"
    ++ (codes "23 -1 22 19 21\n"))))))))))))))))))))))))
unfolding neigh_text digits
neigh = refl

from_one : neigh_text 1 ((Some 1 ∷ None ∷ None ∷ None ∷ []) ∷ (None ∷ None ∷ None ∷ Some 0 ∷ []) ∷ []) ≡ codes "2 4\n1 2 -1 -1 -1\n2 -1 -1 -1 1\n"
unfolding neigh_text digits
from_one = refl

no_faces : face_text 0 (boundary []) ≡ codes "0 0\n"
unfolding face_text digits
no_faces = refl

no_neighbours : neigh_text 0 (neighbours []) ≡ codes "0 4\n"
unfolding neigh_text neighbours digits
no_neighbours = refl
