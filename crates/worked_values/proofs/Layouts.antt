-- Layouts: the answers are those of an independent program.
use Rattle.worked_values.proofs.AllOpen.{all_open}
use Rattle.std.specs.Prelude.{◌≡◌, [], ◌∷◌, map, refl}
use Rattle.std.specs.List.{range_with_len}
use Rattle.definitions.specs.Lattice.{dims, layers}
use Rattle.definitions.specs.Layout.{layer_len, layer_start, slabs, slab_from, slab_to, reach}

pub layers_of_one : layers (dims 1 1 1) ∷ slabs (dims 1 1 1) 2 ∷ [] ≡ 5 ∷ 2 ∷ []
layers_of_one = refl

pub lens_of_one : map (layer_len (dims 1 1 1)) (range_with_len 0 5) ≡ 9 ∷ 4 ∷ 9 ∷ 4 ∷ 9 ∷ []
unfolding all_open
lens_of_one = refl

pub starts_of_one : map (layer_start (dims 1 1 1)) (range_with_len 0 5) ≡ 0 ∷ 9 ∷ 13 ∷ 22 ∷ 26 ∷ []
unfolding all_open
starts_of_one = refl

pub own_of_one : map (λ j. slab_from 2 j ∷ slab_to (dims 1 1 1) 2 j ∷ []) (range_with_len 0 2) ≡ (0 ∷ 4 ∷ []) ∷ (4 ∷ 5 ∷ []) ∷ []
own_of_one = refl

pub reach_of_one : map (reach (dims 1 1 1) 2) (range_with_len 0 2) ≡ (0 ∷ 1 ∷ 2 ∷ 3 ∷ 4 ∷ []) ∷ (2 ∷ 3 ∷ 4 ∷ []) ∷ []
reach_of_one = refl

pub layers_of_four_upright : layers (dims 1 2 2) ∷ slabs (dims 1 2 2) 1 ∷ [] ≡ 7 ∷ 4 ∷ []
layers_of_four_upright = refl

pub lens_of_four_upright : map (layer_len (dims 1 2 2)) (range_with_len 0 7) ≡ 12 ∷ 6 ∷ 12 ∷ 6 ∷ 12 ∷ 6 ∷ 12 ∷ []
unfolding all_open
lens_of_four_upright = refl

pub starts_of_four_upright : map (layer_start (dims 1 2 2)) (range_with_len 0 7) ≡ 0 ∷ 12 ∷ 18 ∷ 30 ∷ 36 ∷ 48 ∷ 54 ∷ []
unfolding all_open
starts_of_four_upright = refl

pub own_of_four_upright : map (λ j. slab_from 1 j ∷ slab_to (dims 1 2 2) 1 j ∷ []) (range_with_len 0 4) ≡ (0 ∷ 2 ∷ []) ∷ (2 ∷ 4 ∷ []) ∷ (4 ∷ 6 ∷ []) ∷ (6 ∷ 7 ∷ []) ∷ []
own_of_four_upright = refl

pub reach_of_four_upright : map (reach (dims 1 2 2) 1) (range_with_len 0 4) ≡ (0 ∷ 1 ∷ 2 ∷ 3 ∷ []) ∷ (0 ∷ 1 ∷ 2 ∷ 3 ∷ 4 ∷ 5 ∷ []) ∷ (2 ∷ 3 ∷ 4 ∷ 5 ∷ 6 ∷ []) ∷ (4 ∷ 5 ∷ 6 ∷ []) ∷ []
reach_of_four_upright = refl

pub layers_of_four_in_depth : layers (dims 1 1 4) ∷ slabs (dims 1 1 4) 3 ∷ [] ≡ 11 ∷ 2 ∷ []
layers_of_four_in_depth = refl

pub lens_of_four_in_depth : map (layer_len (dims 1 1 4)) (range_with_len 0 11) ≡ 9 ∷ 4 ∷ 9 ∷ 4 ∷ 9 ∷ 4 ∷ 9 ∷ 4 ∷ 9 ∷ 4 ∷ 9 ∷ []
unfolding all_open
lens_of_four_in_depth = refl

pub starts_of_four_in_depth : map (layer_start (dims 1 1 4)) (range_with_len 0 11) ≡ 0 ∷ 9 ∷ 13 ∷ 22 ∷ 26 ∷ 35 ∷ 39 ∷ 48 ∷ 52 ∷ 61 ∷ 65 ∷ []
unfolding all_open
starts_of_four_in_depth = refl

pub own_of_four_in_depth : map (λ j. slab_from 3 j ∷ slab_to (dims 1 1 4) 3 j ∷ []) (range_with_len 0 2) ≡ (0 ∷ 6 ∷ []) ∷ (6 ∷ 11 ∷ []) ∷ []
own_of_four_in_depth = refl

pub reach_of_four_in_depth : map (reach (dims 1 1 4) 3) (range_with_len 0 2) ≡ (0 ∷ 1 ∷ 2 ∷ 3 ∷ 4 ∷ 5 ∷ 6 ∷ 7 ∷ []) ∷ (4 ∷ 5 ∷ 6 ∷ 7 ∷ 8 ∷ 9 ∷ 10 ∷ []) ∷ []
reach_of_four_in_depth = refl
