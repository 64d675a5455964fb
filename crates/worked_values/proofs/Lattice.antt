-- The lattice of one sample.
use Rattle.worked_values.proofs.AllOpen.{all_open}
use Rattle.std.specs.Prelude.{◌≡◌, [], ◌∷◌, map, length, refl}
use Rattle.std.specs.List.{range_with_len}
use Rattle.definitions.specs.Lattice.{id, vertex, dims}
use Rattle.definitions.specs.Layout.{layer_len}
use Rattle.definitions.specs.Tetrahedra.{lattice_tets, tets_from}
use Rattle.std.specs.Prelude.{◌≡◌, map, length, refl, [], ◌∷◌}
use Rattle.definitions.specs.Lattice.{id, vertices, dims}
use Rattle.definitions.specs.Tetrahedra.{lattice_tets}

pub ids_are_places : map (id (dims 1 1 1)) (vertices (dims 1 1 1)) ≡ range_with_len 0 35
unfolding all_open
ids_are_places = refl

pub forty_eight : length (lattice_tets (dims 1 1 1)) ≡ 48
unfolding all_open
forty_eight = refl

pub six_at_17 : length (tets_from (dims 1 1 1) (vertex 2 2 2)) ≡ 6
unfolding all_open
six_at_17 = refl

pub id_17 : id (dims 1 1 1) (vertex 2 2 2) ≡ 17
unfolding all_open
id_17 = refl

pub layer_lens : map (layer_len (dims 1 1 1)) (range_with_len 0 5) ≡ 9 ∷ 4 ∷ 9 ∷ 4 ∷ 9 ∷ []
unfolding all_open
layer_lens = refl
