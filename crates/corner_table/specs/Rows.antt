-- The rows of the table, and what a row has to say of its signs.
use Rattle.std.specs.Prelude.{ℕ, Bool, true, not, ◌&&◌, ◌++◌, List, [], ◌∷◌, nat_eq, length, map, take, replicate, slice_index_or, if◌then◌else◌}
use Rattle.std.specs.List.{list_all, list_any}
use Rattle.definitions.specs.declared.Sign.{Sign}
use Rattle.definitions.specs.declared.Sign.TheVariants.{Minus, Zero, Plus}
use Rattle.definitions.specs.declared.Corner.{Corner}
use Rattle.definitions.specs.declared.Corner.TheVariants.{Whole}
use Rattle.definitions.specs.Facets.{same_set, are_across, pyramid_facets, prism_facets}
use Rattle.definitions.specs.Stencils.{sign_at, same_corner, corners, kept, facets}
use Rattle.corner_table.specs.declared.Shape.{Shape}
use Rattle.corner_table.specs.declared.Shape.TheVariants.{Nothing, Tetra, Pyramid, Prism}
use Rattle.corner_table.specs.declared.Facet.{Facet}
use Rattle.corner_table.specs.declared.Row.{Row}
use Rattle.corner_table.specs.declared.table.Solid.{Solid}
use Rattle.corner_table.specs.declared.table.TheConstants.{SOLIDS}

-- ---- what a row has to say

-- the kept nodes of a row
abbrev pub row_corners : Row → List Corner
row_corners row = take row.len row.kept

-- the nodes of a facet, in ring order
abbrev pub ring_of : List Corner → Facet → List Corner
ring_of corners facet = map (λ n. slice_index_or corners n (Whole 4)) (take facet.len facet.ring)

-- the facets of a row
abbrev pub rings : Row → List (List Corner)
rings row = map (ring_of (row_corners row)) (take row.facets_len row.facets)

abbrev pub is_distinct : {X : Type 0} → (X → X → Bool) → List X → Bool
is_distinct same [] = true
is_distinct same (x ∷ xs) = not (list_any (same x) xs) && is_distinct same xs

-- each set of the one list is a set of the other, and the other way round
abbrev pub same_family : List (List Corner) → List (List Corner) → Bool
same_family = same_set (same_set same_corner)

-- in a ring of four the places 0 and 2, and 1 and 3, are opposite
abbrev pub is_ring : List (List Corner) → List Corner → Bool
is_ring sets (a ∷ b ∷ c ∷ d ∷ []) = are_across same_corner sets (a ∷ b ∷ c ∷ d ∷ []) a c && are_across same_corner sets (a ∷ b ∷ c ∷ d ∷ []) b d
is_ring sets ring = true

-- the kept nodes, each once
abbrev pub fits_corners : List Sign → List Corner → Bool
fits_corners signs found = is_distinct same_corner found && same_set same_corner found (kept signs)

-- the facets, each once and with each of its nodes once
abbrev pub fits_facets : List Sign → List (List Corner) → Bool
fits_facets signs found = list_all (is_distinct same_corner) found && (is_distinct (same_set same_corner) found && same_family found (facets signs))

-- The row has the kept nodes and the facets of what is kept, and its facets of four are rings.
unfoldable pub row_fits : List Sign → Row → Bool
row_fits signs row = fits_corners signs (row_corners row) && (fits_facets signs (rings row) && list_all (is_ring (facets signs)) (rings row))

-- ---- the rows of the table

abbrev pub facet_of : List ℕ → Facet
facet_of ring = record { len = length ring; ring = take 4 (ring ++ 0 ∷ 0 ∷ 0 ∷ 0 ∷ []) }

-- the facets of a solid
abbrev pub facets_of : Shape → List (List ℕ)
facets_of Nothing = []
facets_of Tetra = (1 ∷ 2 ∷ 3 ∷ []) ∷ (0 ∷ 2 ∷ 3 ∷ []) ∷ (0 ∷ 1 ∷ 3 ∷ []) ∷ (0 ∷ 1 ∷ 2 ∷ []) ∷ []
facets_of Pyramid = pyramid_facets
facets_of Prism = prism_facets

abbrev pub node_count : Shape → ℕ
node_count Nothing = 0
node_count Tetra = 4
node_count Pyramid = 5
node_count Prism = 6

-- a solid with these nodes, and places that are left over
abbrev pub shape_row : Shape → List Corner → Row
shape_row shape nodes = record {
  shape = shape;
  len = node_count shape;
  kept = nodes;
  facets_len = length (facets_of shape);
  facets = take 5 (map facet_of (facets_of shape) ++ replicate 5 (facet_of []));
}

-- a node by its number among the ten
abbrev pub node_at : ℕ → Corner
node_at n = slice_index_or corners n (Whole 0)

abbrev pub sign_number : Sign → ℕ
sign_number Minus = 0
sign_number Zero = 1
sign_number Plus = 2

-- the entry of the table with these numbers of signs
abbrev pub entry : ℕ → ℕ → ℕ → ℕ → Solid
entry a b c d = slice_index_or (slice_index_or (slice_index_or (slice_index_or SOLIDS a []) b []) c []) d (record { shape = Nothing; nodes = [] })

-- what the table has for four signs
unfoldable pub solid_at : List Sign → Solid
solid_at signs = entry (sign_number (sign_at signs 0)) (sign_number (sign_at signs 1)) (sign_number (sign_at signs 2)) (sign_number (sign_at signs 3))

unfoldable pub row_by_signs : List Sign → Row
row_by_signs signs = shape_row (solid_at signs).shape (map node_at (solid_at signs).nodes)

-- the shape, by the numbers of plus, zero and minus vertices
abbrev pub shape_by_counts : ℕ → ℕ → ℕ → Shape
shape_by_counts p z m =
    if nat_eq p 0 then Nothing
    else (if nat_eq m 0 then Tetra
    else (if nat_eq p 1 then Tetra
    else (if nat_eq z 1 then Pyramid else Prism)))
