-- The triangles of the pieces of a lattice tetrahedron, as nodes by slots: tests of one case of signs.
use Rattle.std.specs.Prelude.{◌≡◌, ℕ, Bool, true, not, ◌&&◌, ◌||◌, ◌==◌, nat_le, List, [], ◌∷◌, ◌++◌, map, count_by}
use Rattle.std.specs.List.{list_any, list_all, range_with_len}
use Rattle.definitions.specs.declared.Sign.{Sign}
use Rattle.definitions.specs.declared.Corner.{Corner}
use Rattle.definitions.specs.Facets.{same_set}
use Rattle.definitions.specs.Pieces.{swap_last_two}
use Rattle.definitions.specs.Stencils.{same_corner, has_plus, is_plus, is_level, is_kept, is_on_face, sign_at}
use Rattle.lattice_laws.specs.NumberedTetrahedra.{is_corner}
use Rattle.stencil_laws.specs.Cases.{case_pieces}
use Rattle.stencil_laws.specs.Faces.{face_corner, face_triangles, signs_without}

-- the four triangles of a tetrahedron, each directed
abbrev pub corner_triangles : List Corner → List (List Corner)
corner_triangles (a ∷ b ∷ c ∷ d ∷ []) = (a ∷ c ∷ b ∷ []) ∷ (a ∷ b ∷ d ∷ []) ∷ (a ∷ d ∷ c ∷ []) ∷ (b ∷ c ∷ d ∷ []) ∷ []
corner_triangles p = []

-- the triangles of a piece, and those with its last two nodes swapped
abbrev pub sides : List Corner → List (List Corner)
sides p = corner_triangles p ++ corner_triangles (swap_last_two p)

-- the triangle is one of the piece's, whichever way the piece is directed
abbrev pub has_side : (List Corner → Bool) → List Corner → Bool
has_side is_it p = list_any is_it (corner_triangles p) && list_any is_it (corner_triangles (swap_last_two p))

abbrev pub same_corners : List Corner → List Corner → Bool
same_corners s t = same_set same_corner s t

-- nodes that are kept
abbrev pub are_kept : List Sign → List Corner → Bool
are_kept signs t = list_all (λ c. is_corner c && is_kept signs c) t

abbrev pub is_within_face : ℕ → List Corner → Bool
is_within_face n t = list_all (λ c. is_corner c && is_on_face n c) t

-- a triangle with a Plus node is on a face, or in two pieces
abbrev pub is_inner_twice : List Sign → List Corner → Bool
is_inner_twice signs t =
    list_all (is_level signs) t
    || (list_any (λ n. is_within_face n t) (range_with_len 0 4) || nat_le 2 (count_by (has_side (same_corners t)) (case_pieces signs)))

-- on a face with a Plus node, the vertex is one of the face's
abbrev pub has_plus_on_face : List Sign → ℕ → Bool
has_plus_on_face signs n = list_any (λ m. not (m == n) && is_plus (sign_at signs m)) (range_with_len 0 4)

-- a triangle with a Plus node on a face is one of the face's, and the face has a Plus vertex
abbrev pub is_of_face : List Sign → List Corner → ℕ → Bool
is_of_face signs t n =
    list_all (is_level signs) t
    || (not (is_within_face n t)
    || (has_plus_on_face signs n && (has_plus (signs_without n signs) && list_any (same_corners (map (face_corner n) t)) (face_triangles (signs_without n signs)))))

abbrev pub is_of_faces : List Sign → List Corner → Bool
is_of_faces signs t = list_all (is_of_face signs t) (range_with_len 0 4)

-- at each triangle of each piece
abbrev pub every_side : (List Sign → List Corner → Bool) → List Sign → Bool
every_side test signs = list_all (λ p. list_all (test signs) (sides p)) (case_pieces signs)

-- a triangle of a piece that is on a face, as that triangle of the face
abbrev pub is_face_side : ℕ → List Corner → List Corner → Bool
is_face_side n τ u = is_within_face n u && same_corners (map (face_corner n) u) τ

-- each triangle of a face with a Plus vertex is a piece's
abbrev pub has_face_triangles : List Sign → ℕ → Bool
has_face_triangles signs n =
    not (has_plus (signs_without n signs)) || list_all (λ τ. list_any (has_side (is_face_side n τ)) (case_pieces signs)) (face_triangles (signs_without n signs))

-- What the triangles of the pieces of a case are: their nodes are kept; one with a Plus node is in two pieces or on a face; there it is one of the face's; and each of these is a piece's.
pub record SidesFit (signs : List Sign) : Type 0 where
  pub kept : every_side are_kept signs ≡ true
  pub inner_twice : every_side is_inner_twice signs ≡ true
  pub of_face : every_side is_of_faces signs ≡ true
  pub all_taken : list_all (has_face_triangles signs) (range_with_len 0 4) ≡ true
