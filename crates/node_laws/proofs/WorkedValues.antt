-- The nodes around one Plus vertex, computed: the sample of an image of one voxel.
use Rattle.std.proofs.Common.{◌≡◌, ℕ, ◌*◌, ◌==◌, List, [], ◌∷◌, length, map, refl, if◌then◌else◌}
use Rattle.std.specs.Prelude.{filter, sum}
use Rattle.std.specs.List.{range_with_len}
use Rattle.definitions.specs.declared.Dims.{Dims}
use Rattle.definitions.specs.declared.State.{State}
use Rattle.definitions.specs.declared.State.TheVariants as state
use Rattle.definitions.specs.declared.Sign.TheVariants.{Minus, Zero, Plus}
use Rattle.definitions.specs.Lattice.{dims, direction, id, layer, neighbour, vertices}
use Rattle.definitions.specs.Layout.{layer_start}
use Rattle.definitions.specs.Tetrahedra.{lattice_tets, tets_from}
use Rattle.definitions.specs.Facets.{fill}
use Rattle.definitions.specs.Stencils.{facets, kept}
use Rattle.definitions.specs.Pieces.{oriented, pieces}
use Rattle.definitions.specs.Mesh.{all_pieces, layer_node_keys, layer_pieces, node_keys, tet_pieces}
use Rattle.stencil_laws.specs.Cases.{case_pieces, four_signs}
use Rattle.node_laws.specs.Used.{pieces_from, told, used_at}

abbrev one : Dims
one = dims 1 1 1

-- 35 vertices, of which the sample has id 17
abbrev states : List State
states = map (λ n. if n == 17 then state.Plus else state.Minus) (range_with_len 0 35)

-- the same with a Zero vertex, on the cut of its short edge to the sample
abbrev snapped : List State
snapped = map (λ n. if n == 17 then state.Plus else if n == 9 then state.Zero 6 4000 else state.Minus) (range_with_len 0 35)

abbrev expected : List ℕ
expected = 39 ∷ 78 ∷ 85 ∷ 92 ∷ 99 ∷ 114 ∷ 129 ∷ 136 ∷ 137 ∷ 138 ∷ 139 ∷ 140 ∷ 141 ∷ 142 ∷ 143 ∷ []

keys : node_keys one states ≡ expected
unfolding vertices id neighbour direction tets_from lattice_tets fill kept facets oriented pieces tet_pieces all_pieces node_keys
keys = refl

-- what is read off the states
used : filter (used_at one (told one states)) (range_with_len 0 (8 * 35)) ≡ expected
unfolding vertices id neighbour
used = refl

-- the cut at the snapped vertex, 78, gives way to the vertex itself, 72
used_snapped : filter (used_at one (told one snapped)) (range_with_len 0 (8 * 35)) ≡ 39 ∷ 72 ∷ 85 ∷ 92 ∷ 99 ∷ 114 ∷ 129 ∷ 136 ∷ 137 ∷ 138 ∷ 139 ∷ 140 ∷ 141 ∷ 142 ∷ 143 ∷ []
unfolding vertices id neighbour
used_snapped = refl

keys_snapped : node_keys one snapped ≡ 39 ∷ 72 ∷ 85 ∷ 92 ∷ 99 ∷ 114 ∷ 129 ∷ 136 ∷ 137 ∷ 138 ∷ 139 ∷ 140 ∷ 141 ∷ 142 ∷ 143 ∷ []
unfolding vertices id neighbour direction tets_from lattice_tets fill kept facets oriented pieces tet_pieces all_pieces node_keys
keys_snapped = refl

-- how many there are by layers, and how many pieces
counts : map (λ h. length (layer_node_keys one states h)) (range_with_len 0 5) ≡ 1 ∷ 4 ∷ 10 ∷ 0 ∷ 0 ∷ []
unfolding vertices id neighbour direction tets_from lattice_tets fill kept facets oriented pieces tet_pieces all_pieces node_keys
counts = refl

piece_counts : map (λ h. length (layer_pieces one states h)) (range_with_len 0 5) ≡ 4 ∷ 12 ∷ 8 ∷ 0 ∷ 0 ∷ []
unfolding vertices id neighbour direction tets_from fill kept facets oriented pieces tet_pieces
piece_counts = refl

piece_counts_by_vertices : map (λ h. sum (map (pieces_from one (told one states)) (layer one h))) (range_with_len 0 5) ≡ 4 ∷ 12 ∷ 8 ∷ 0 ∷ 0 ∷ []
unfolding vertices tets_from id fill kept facets
piece_counts_by_vertices = refl

starts : map (λ h. layer_start one h) (range_with_len 0 6) ≡ 0 ∷ 9 ∷ 13 ∷ 22 ∷ 26 ∷ 35 ∷ []
unfolding vertices
starts = refl

-- ---- pieces by signs: none without Plus, and from one Plus vertex with three Minus to four Plus

no_plus : length (case_pieces (four_signs Zero Zero Minus Minus)) ≡ 0
unfolding fill kept facets
no_plus = refl

plus_and_three : length (case_pieces (four_signs Minus Plus Minus Minus)) ≡ 1
unfolding fill kept facets
plus_and_three = refl

two_and_two : length (case_pieces (four_signs Plus Minus Plus Minus)) ≡ 3
unfolding fill kept facets
two_and_two = refl

two_zero_minus : length (case_pieces (four_signs Plus Zero Plus Minus)) ≡ 2
unfolding fill kept facets
two_zero_minus = refl

three_and_one : length (case_pieces (four_signs Plus Plus Plus Minus)) ≡ 3
unfolding fill kept facets
three_and_one = refl

all_plus : length (case_pieces (four_signs Plus Plus Plus Plus)) ≡ 1
unfolding fill kept facets
all_plus = refl
