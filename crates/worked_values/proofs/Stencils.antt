-- The 81 cases of a lattice tetrahedron by their shapes, and solids with quadrilateral facets over all orders of their keys.
use Rattle.worked_values.proofs.AllOpen.{all_open}
use Rattle.std.specs.Prelude.{◌≡◌, ℕ, List, [], ◌∷◌, map, length, count_by, flat_map, refl, ◌==◌, ◌&&◌, slice_index}
use Rattle.std.specs.List.{range_with_len}
use Rattle.definitions.specs.declared.Sign.TheVariants.{Minus, Plus}
use Rattle.definitions.specs.Lattice.{vertex}
use Rattle.definitions.specs.Stencils.{kept, facets}
use Rattle.definitions.specs.Facets.{fill, by_key, prism_facets, pyramid_facets}
use Rattle.definitions.specs.Pieces.{pieces}
use Rattle.std.proofs.Common.{◌≡◌, ℕ, refl, List, [], ◌∷◌, length, map, Bool, true, not, ◌||◌, zero, suc}
use Rattle.std.specs.Prelude.{◌==◌, flat_map, count_by, slice_index}
use Rattle.std.specs.List.{list_all, range_with_len}
use Rattle.definitions.specs.declared.Corner.{Corner}
use Rattle.definitions.specs.Stencils.{kept, facets, same_corner}
use Rattle.definitions.specs.Facets.{are_across, fill, by_key, prism_facets, pyramid_facets}
use Rattle.worked_values.specs.Fields.{all_cases}

-- how many all_cases keep so many nodes with so many facets
abbrev shapes : ℕ → ℕ → ℕ
shapes nodes faces = count_by (λ s. length (kept s) == nodes && length (facets s) == faces) all_cases

pub shape_counts : shapes 0 0 ∷ shapes 4 4 ∷ shapes 5 5 ∷ shapes 6 5 ∷ [] ≡ 16 ∷ 43 ∷ 12 ∷ 10 ∷ []
unfolding all_open
shape_counts = refl

pub prism : fill ◌==◌ prism_facets (by_key (λ p. slice_index (1 ∷ 2 ∷ 3 ∷ 4 ∷ 5 ∷ 6 ∷ []) p) (range_with_len 0 6)) ≡ (0 ∷ 1 ∷ 2 ∷ 5 ∷ []) ∷ (0 ∷ 1 ∷ 4 ∷ 5 ∷ []) ∷ (0 ∷ 3 ∷ 4 ∷ 5 ∷ []) ∷ []
unfolding all_open
prism = refl

pub pyramid : fill ◌==◌ pyramid_facets (by_key (λ p. slice_index (1 ∷ 2 ∷ 3 ∷ 4 ∷ 5 ∷ []) p) (range_with_len 0 5)) ≡ (0 ∷ 1 ∷ 2 ∷ 3 ∷ []) ∷ (0 ∷ 1 ∷ 3 ∷ 4 ∷ []) ∷ []
unfolding all_open
pyramid = refl

pub pyramid_2 : fill ◌==◌ pyramid_facets (by_key (λ p. slice_index (5 ∷ 1 ∷ 2 ∷ 3 ∷ 4 ∷ []) p) (range_with_len 0 5)) ≡ (1 ∷ 2 ∷ 3 ∷ 0 ∷ []) ∷ (1 ∷ 3 ∷ 4 ∷ 0 ∷ []) ∷ []
unfolding all_open
pyramid_2 = refl

-- v with its neighbours in directions 3, 4 and 7, of ids 10 to 13
pub prism_pieces :
    pieces (vertex 4 4 4 ∷ vertex 5 3 3 ∷ vertex 5 3 5 ∷ vertex 6 4 4 ∷ []) (10 ∷ 11 ∷ 12 ∷ 13 ∷ []) (Plus ∷ Plus ∷ Minus ∷ Minus ∷ [])
    ≡ (80 ∷ 84 ∷ 87 ∷ 94 ∷ []) ∷ (80 ∷ 84 ∷ 94 ∷ 89 ∷ []) ∷ (80 ∷ 88 ∷ 89 ∷ 94 ∷ []) ∷ []
unfolding all_open
prism_pieces = refl

-- in each facet of four each node has one opposite node
abbrev has_one_opposite : List (List Corner) → List Corner → Bool
has_one_opposite fs f = not (length f == 4) || list_all (λ a. count_by (are_across same_corner fs f a) f == 1) f

pub opposites : list_all (λ s. list_all (has_one_opposite (facets s)) (facets s)) all_cases ≡ true
unfolding all_open
opposites = refl

-- all orders of n things
abbrev put_everywhere : ℕ → List ℕ → List (List ℕ)
put_everywhere x [] = (x ∷ []) ∷ []
put_everywhere x (y ∷ ys) = (x ∷ y ∷ ys) ∷ map (λ r. y ∷ r) (put_everywhere x ys)

abbrev orders : ℕ → List (List ℕ)
orders zero = [] ∷ []
orders (suc n) = flat_map (put_everywhere n) (orders n)

pub orders_6 : length (orders 6) ≡ 720
unfolding all_open
orders_6 = refl

pub prisms : list_all (λ keys. length (fill ◌==◌ prism_facets (by_key (slice_index keys) (range_with_len 0 6))) == 3) (orders 6) ≡ true
unfolding all_open
prisms = refl

pub pyramids : list_all (λ keys. length (fill ◌==◌ pyramid_facets (by_key (slice_index keys) (range_with_len 0 5))) == 2) (orders 5) ≡ true
unfolding all_open
pyramids = refl

-- all cases together have 97 pieces
pub pieces_in_all : length (flat_map (λ s. fill same_corner (facets s) (kept s)) all_cases) ≡ 97
unfolding all_open
pieces_in_all = refl
