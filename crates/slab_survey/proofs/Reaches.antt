-- The layers around those of a slab are in its reach.
use Rattle.std.proofs.Common.{◌≡◌, ℕ, ◌+◌, ◌-◌, ◌<◌, ◌≤◌, min, List, length, true, arith}
use Rattle.std.specs.List.{range_with_len}
use Rattle.std.proofs.lemmas.List.FromFn.{length-range_with_len}
use Rattle.definitions.specs.declared.Dims.{Dims}
use Rattle.definitions.specs.Lattice.{layers}
use Rattle.definitions.specs.Layout.{reach_from, reach_to, slab_from, slab_to}
use Rattle.list_words.specs.Words.{has, has_all}
use Rattle.list_words.proofs.Lists.{has_among, has_range}
use Rattle.std.proofs.lemmas.List.{length-map}
use Rattle.definitions.specs.States.{states}
use Rattle.layer_cells.specs.Seats.{Subject}
use Rattle.vertex_numbers.specs.Counts.{count_of_layer}
use Rattle.slab_survey.specs.Layers.{counts_of_layers, slab_layers}

pub knows_around : (d : Dims) (t j h first past low high : ℕ) (seen : List ℕ) → has_all (range_with_len low (high - low)) seen ≡ true → low ≡ reach_from t j → high ≡ reach_to d t j → first ≡ slab_from t j → past ≡ slab_to d t j
    → first ≤ h → h < past → (g : ℕ) → g < layers d → g ≤ h + 2 → h ≤ g + 2 → has g seen ≡ true
knows_around d t j h first past low high seen all low_is high_is first_is past_is from to g below near far =
    has_among g (range_with_len low (high - low)) seen all (has_range g low (high - low) (above (slab_from t j) low first h g low_is first_is from far) (under (slab_to d t j) (layers d) low high past h g (above (slab_from t j) low first h g low_is first_is from far) high_is past_is to near below))
  where
    above : (f low first h g : ℕ) → low ≡ f - 2 → first ≡ f → first ≤ h → h ≤ g + 2 → low ≤ g
    above f low first h g a b c e = omega arith

    under : (p l low high past h g : ℕ) → low ≤ g → high ≡ min (p + 2) l → past ≡ p → h < past → g ≤ h + 2 → g < l → g < low + (high - low)
    under p l low high past h g o a b c e f = omega arith

pub slab_length : (d : Dims) (t j : ℕ) → length (slab_layers d t j) ≡ slab_to d t j - slab_from t j
slab_length d t j = length-range_with_len (slab_from t j) (slab_to d t j - slab_from t j)

pub counts_length : (a : Subject) (hs : List ℕ) → length (counts_of_layers a hs) ≡ length hs
counts_length a hs = length-map hs (count_of_layer a.field.dims (states a.field a.shares))
