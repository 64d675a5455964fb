-- The pieces of a row of the stencil table: its solid, cut by the order of the keys of its nodes.
use Rattle.std.specs.Prelude.{◌≡◌, ℕ, List, [], ◌∷◌, length, map, nat_eq, slice_index, slice_index_or}
use Rattle.std.specs.List.{range_with_len}
use Rattle.definitions.specs.declared.Vertex.{Vertex}
use Rattle.definitions.specs.declared.Sign.{Sign}
use Rattle.definitions.specs.declared.Corner.{Corner}
use Rattle.definitions.specs.declared.Corner.TheVariants.{Whole}
use Rattle.definitions.specs.Facets.{by_key, fill, pyramid_facets, prism_facets}
use Rattle.definitions.specs.Pieces.{corner_key, oriented, pieces}
use Rattle.lattice_laws.specs.NumberedTetrahedra.{IsNumberedTet}
use Rattle.corner_table.specs.declared.Shape.{Shape}
use Rattle.corner_table.specs.declared.Shape.TheVariants.{Nothing, Tetra, Pyramid, Prism}
use Rattle.corner_table.specs.declared.Row.{Row}
use Rattle.corner_table.specs.Rows.{row_corners, row_by_signs}

-- the positions of as many nodes, in the order of their keys
abbrev pub positions_by_key : List ℕ → ℕ → List ℕ
positions_by_key keys n = by_key (λ p. slice_index keys p) (range_with_len 0 n)

-- a solid cut into pieces, as positions of its nodes: what `split_pyramid` and `split_prism` answer at these keys
abbrev pub split : Shape → List ℕ → List (List ℕ)
split Nothing keys = []
split Tetra keys = positions_by_key keys 4 ∷ []
split Pyramid keys = fill nat_eq pyramid_facets (positions_by_key keys 5)
split Prism keys = fill nat_eq prism_facets (positions_by_key keys 6)

-- the nodes of a row at these positions
abbrev pub nodes_at : Row → List ℕ → List Corner
nodes_at row positions = map (λ p. slice_index_or (row_corners row) p (Whole 4)) positions

-- the pieces of a row in a tetrahedron, as the keys of their nodes
abbrev pub pieces_of_row : List Vertex → List ℕ → Row → List (List ℕ)
pieces_of_row tet ids row =
    map (λ p. map (corner_key tet ids) (oriented tet (nodes_at row p))) (split row.shape (map (corner_key tet ids) (row_corners row)))

-- The pieces of a lattice tetrahedron are those of the row of its signs.
abbrev pub RowsGivePieces : Type 0
RowsGivePieces =
    (tet : List Vertex) (ids : List ℕ) (signs : List Sign) → IsNumberedTet tet ids → length signs ≡ 4 → pieces tet ids signs ≡ pieces_of_row tet ids (row_by_signs signs)
