-- The pieces of a lattice tetrahedron are those of the row of its signs, cut by the order of keys.
use Rattle.std.proofs.Common.{◌≡◌, ℕ, ◌<◌, Bool, true, ◌&&◌, nat_lt, nat_eq, if◌then◌else◌, List, [], ◌∷◌, length, map, refl, sym, ap, ◌∙◌}
use Rattle.std.specs.Prelude.{slice_index, slice_index_or}
use Rattle.std.specs.List.{list_all, range_with_len}
use Rattle.std.proofs.lemmas.Bool.{ltb-true, and_parts}
use Rattle.std.proofs.lemmas.List.{get_or-map}
use Rattle.std.proofs.lemmas.List.Sums.{AllPass-from_list_all}
use Rattle.std.proofs.lemmas.Simd.{map-map}
use Rattle.quad_split.proofs.AgreedOrder.{agreed_at}
use Rattle.definitions.specs.declared.Sign.{Sign}
use Rattle.definitions.specs.declared.Corner.{Corner}
use Rattle.definitions.specs.declared.Corner.TheVariants.{Whole}
use Rattle.definitions.specs.Lists.{sort_by}
use Rattle.definitions.specs.Facets.{fill, pyramid_facets, prism_facets}
use Rattle.definitions.specs.Stencils.{same_corner, kept, facets}
use Rattle.definitions.specs.Pieces.{corner_key, oriented}
use Rattle.lattice_laws.specs.FiniteTests.{every_case}
use Rattle.lattice_laws.specs.NumberedTetrahedra.{is_corner, rank, KeysAscend}
use Rattle.lattice_laws.proofs.FiniteTests.{each_case}
use Rattle.lattice_laws.proofs.KeyOrder.{keys_ascend, pieces_by_table}
use Rattle.corner_table.specs.declared.Shape.{Shape}
use Rattle.corner_table.specs.declared.Shape.TheVariants.{Nothing, Tetra, Pyramid, Prism}
use Rattle.corner_table.specs.Rows.{row_corners, row_by_signs, solid_at}
use Rattle.lattice_laws.proofs.SamePieces.{same_pieces, pieces_from_same}
use Rattle.row_laws.specs.RowPieces.{split, nodes_at, RowsGivePieces}

-- the same cut by any order of positions
abbrev split_by : (ℕ → ℕ → Bool) → Shape → List (List ℕ)
split_by lt Nothing = []
split_by lt Tetra = sort_by lt (range_with_len 0 4) ∷ []
split_by lt Pyramid = fill nat_eq pyramid_facets (sort_by lt (range_with_len 0 5))
split_by lt Prism = fill nat_eq prism_facets (sort_by lt (range_with_len 0 6))

split_by_keys : (shape : Shape) (keys : List ℕ) → split shape keys ≡ split_by (λ p q. nat_lt (slice_index keys p) (slice_index keys q)) shape
split_by_keys Nothing keys = refl
split_by_keys Tetra keys = refl
split_by_keys Pyramid keys = refl
split_by_keys Prism keys = refl

abbrev node : List Corner → ℕ → Corner
node nodes p = slice_index_or nodes p (Whole 4)

-- the order of two positions: of those that have nodes by the ranks of these
abbrev by_rank : List Corner → List ℕ → ℕ → ℕ → Bool
by_rank nodes keys p q =
    if nat_lt p (length nodes) && nat_lt q (length nodes) then nat_lt (rank (node nodes p)) (rank (node nodes q)) else nat_lt (slice_index keys p) (slice_index keys q)

corner_at : (nodes : List Corner) → list_all is_corner nodes ≡ true → (p : ℕ) → p < length nodes → is_corner (node nodes p) ≡ true
corner_at nodes all p lt = AllPass-from_list_all is_corner nodes all p (Whole 4) lt

module _ (key : Corner → ℕ) (up : KeysAscend key) (nodes : List Corner) (all : list_all is_corner nodes ≡ true) where
  order_by_rank : (p q : ℕ) → nat_lt (slice_index (map key nodes) p) (slice_index (map key nodes) q) ≡ by_rank nodes (map key nodes) p q
  order_by_rank p q =
      agreed_at (nat_lt p (length nodes)) (nat_lt q (length nodes)) _ _
      (λ a b.
      let lp = ltb-true _ _ a in let lq = ltb-true _ _ b in
      (λ i. nat_lt (get_or-map key nodes p (Whole 4) 0 lp i) (get_or-map key nodes q (Whole 4) 0 lq i))
      ∙ up.by_rank (node nodes p) (node nodes q) (corner_at nodes all p lp) (corner_at nodes all q lq))

-- of each row, the nodes are corners, and cut by their order they are the pieces of the table
abbrev fits : List ℕ → List Sign → Bool
fits keys signs =
    list_all is_corner (row_corners (row_by_signs signs))
    && same_pieces (map (nodes_at (row_by_signs signs)) (split_by (by_rank (row_corners (row_by_signs signs)) keys) (row_by_signs signs).shape)) (fill same_corner (facets signs) (kept signs))

all_fit : (keys : List ℕ) → every_case (fits keys) ≡ true
unfolding row_by_signs solid_at kept facets fill
all_fit keys = refl

pub rows_give_pieces : RowsGivePieces
rows_give_pieces tet ids signs h len =
    let key = corner_key tet ids in
    let row = row_by_signs signs in
    let nodes = row_corners row in
    let keys = map key nodes in
    let f = and_parts (list_all is_corner nodes) _ (each_case (fits keys) (all_fit keys) signs len) in
    let order = order_by_rank key (keys_ascend tet ids h) nodes f.0 in
    let filled : map (nodes_at row) (split row.shape keys) ≡ fill same_corner (facets signs) (kept signs) =
    ap (map (nodes_at row)) (split_by_keys row.shape keys ∙ (λ i. split_by (λ p q. order p q i) row.shape)) ∙ pieces_from_same _ _ f.1 in
    let write : List Corner → List ℕ = λ p. map key (oriented tet p) in
    pieces_by_table tet ids signs h ∙ (sym (ap (map write) filled) ∙ map-map write (nodes_at row) (split row.shape keys))
