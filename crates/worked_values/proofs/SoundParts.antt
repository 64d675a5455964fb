-- Parts of soundness of small meshes, and the order of lattice tetrahedra: each holds, as was computed outside the repository, by programs written from the rules alone.
use Rattle.worked_values.proofs.AllOpen.{all_open}
use Rattle.std.specs.Prelude.{◌≡◌, ℕ, List, [], ◌∷◌, map, refl, length, true, Bool, not, ◌&&◌, ◌||◌, ◌==◌, ◌*◌}
use Rattle.std.specs.List.{list_all, list_any, range_with_len}
use Rattle.definitions.specs.declared.Dims.{Dims}
use Rattle.definitions.specs.Lattice.{dims, id}
use Rattle.definitions.specs.Values.{Field}
use Rattle.definitions.specs.States.{Shares, states, sign_of_state}
use Rattle.definitions.specs.Stencils.{is_plus, is_minus}
use Rattle.definitions.specs.Facets.{numbers_before}
use Rattle.definitions.specs.Mesh.{mesh, node_keys, state_at}
use Rattle.definitions.specs.Soundness.{same_nodes}
use Rattle.definitions.specs.Tetrahedra.{lattice_tets}
use Rattle.worked_values.specs.Fields.{usual, unsnapped, one_sample, two_samples, upper_half_below}

-- no two tetrahedra have the same nodes
abbrev are_different : List (List ℕ) → Bool
are_different [] = true
are_different (t ∷ ts) = list_all (λ u. not (same_nodes t u)) ts && are_different ts

-- vertex n itself is a node
abbrev is_node : List ℕ → ℕ → Bool
is_node keys n = list_any (λ k. k == 8 * n) keys

-- each Plus vertex is a node, and no Minus vertex is
abbrev plus_in_minus_out : Field → Shares → Bool
plus_in_minus_out f s =
    let ss = states f s in
    let keys = node_keys f.dims ss in
    list_all
    (λ n. let sign = sign_of_state (state_at ss n) in (not (is_plus sign) || is_node keys n) && (not (is_minus sign) || not (is_node keys n)))
    (range_with_len 0 (length ss))

-- each comes before the next
abbrev is_ascending : List (List ℕ) → Bool
is_ascending [] = true
is_ascending (a ∷ []) = true
is_ascending (a ∷ b ∷ rest) = numbers_before a b && is_ascending (b ∷ rest)

-- the lattice tetrahedra by their vertices' ids
abbrev tets_by_ids : Dims → List (List ℕ)
tets_by_ids d = map (map (id d)) (lattice_tets d)

pub different_one_sample_usual : are_different (mesh one_sample usual).tets ≡ true
unfolding all_open
different_one_sample_usual = refl

pub plus_and_minus_one_sample_usual : plus_in_minus_out one_sample usual ≡ true
unfolding all_open
plus_and_minus_one_sample_usual = refl

pub different_one_sample_unsnapped : are_different (mesh one_sample unsnapped).tets ≡ true
unfolding all_open
different_one_sample_unsnapped = refl

pub plus_and_minus_one_sample_unsnapped : plus_in_minus_out one_sample unsnapped ≡ true
unfolding all_open
plus_and_minus_one_sample_unsnapped = refl

pub different_two_samples_usual : are_different (mesh two_samples usual).tets ≡ true
unfolding all_open
different_two_samples_usual = refl

pub plus_and_minus_two_samples_usual : plus_in_minus_out two_samples usual ≡ true
unfolding all_open
plus_and_minus_two_samples_usual = refl

pub different_two_samples_unsnapped : are_different (mesh two_samples unsnapped).tets ≡ true
unfolding all_open
different_two_samples_unsnapped = refl

pub plus_and_minus_two_samples_unsnapped : plus_in_minus_out two_samples unsnapped ≡ true
unfolding all_open
plus_and_minus_two_samples_unsnapped = refl

pub different_upper_half_below_usual : are_different (mesh upper_half_below usual).tets ≡ true
unfolding all_open
different_upper_half_below_usual = refl

pub plus_and_minus_upper_half_below_usual : plus_in_minus_out upper_half_below usual ≡ true
unfolding all_open
plus_and_minus_upper_half_below_usual = refl

pub different_upper_half_below_unsnapped : are_different (mesh upper_half_below unsnapped).tets ≡ true
unfolding all_open
different_upper_half_below_unsnapped = refl

pub plus_and_minus_upper_half_below_unsnapped : plus_in_minus_out upper_half_below unsnapped ≡ true
unfolding all_open
plus_and_minus_upper_half_below_unsnapped = refl

pub order_of_one : is_ascending (tets_by_ids (dims 1 1 1)) ≡ true
unfolding all_open
order_of_one = refl

pub order_of_two_along_x : is_ascending (tets_by_ids (dims 2 1 1)) ≡ true
unfolding all_open
order_of_two_along_x = refl

pub order_of_two_along_y : is_ascending (tets_by_ids (dims 1 2 1)) ≡ true
unfolding all_open
order_of_two_along_y = refl
