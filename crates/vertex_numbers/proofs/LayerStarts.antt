-- The ids and the nodes below a layer.
use Rattle.std.proofs.Common.{◌≡◌, ℕ, ◌+◌, ◌-◌, ◌*◌, ◌/◌, ◌%◌, ◌≤◌, List, length, take, arith, refl, sym, ap, subst, ◌∙◌}
use Rattle.std.specs.Prelude.{filter, sum_by}
use Rattle.std.specs.List.{range_with_len}
use Rattle.std.proofs.lemmas.List.Sums.{sum-map}
use Rattle.std.proofs.lemmas.List.FromFn.{length-map-range_with_len, take-map-range_with_len}
use Rattle.list_words.proofs.Sums.{sum_by-map}
use Rattle.definitions.specs.declared.Dims.{Dims}
use Rattle.definitions.specs.declared.State.{State}
use Rattle.definitions.specs.Lattice.{layers, vertices}
use Rattle.definitions.specs.Layout.{layer_start}
use Rattle.definitions.specs.Mesh.{all_pieces, layer_node_keys, node_keys, occurs}
use Rattle.lattice_counts.specs.Counts.{below_layer, even_len, odd_len}
use Rattle.lattice_counts.proofs.Ranks.{below_rises, start}
use Rattle.node_laws.proofs.Layers.{counts_below}
use Rattle.vertex_numbers.specs.Counts.{count_of_layer, layer_counts}
use Rattle.vertex_numbers.specs.Numbering.{nodes_before}

pub starts_rise : (d : Dims) (g h : ℕ) → g ≤ h → h ≤ layers d → layer_start d g ≤ layer_start d h
starts_rise d g h le within =
    let r : below_layer d g ≤ below_layer d h = subst (λ n. below_layer d g ≤ below_layer d n) (let e : g + (h - g) ≡ h = omega arith in e) (below_rises d g (h - g)) in
    subst (λ n. n ≤ layer_start d h) (sym (start d g (omega arith))) (subst (λ n. below_layer d g ≤ n) (sym (start d h within)) r)

-- nothing stands below the first layer
pub no_layers : (d : Dims) → layer_start d 0 ≡ 0
no_layers d = start d 0 (omega arith) ∙ none (even_len d) (odd_len d)
  where
    none : (e o : ℕ) → 0 / 2 * (e + o) + 0 % 2 * e ≡ 0
    none e o = omega arith

module _ (d : Dims) (ss : List State) where
  pub counts_len : length (layer_counts d ss) ≡ layers d
  counts_len = length-map-range_with_len (count_of_layer d ss) 0 (layers d)

  -- the nodes of the layers below one
  pub counts_to : (h : ℕ) → h ≤ layers d → sum_by (λ c. c.nodes) (take h (layer_counts d ss)) ≡ nodes_before d ss (layer_start d h)
  unfolding nodes_before
  counts_to h le =
      ap (sum_by (λ c. c.nodes)) (take-map-range_with_len (count_of_layer d ss) 0 (layers d) h le)
      ∙ sum_by-map (λ c. c.nodes) (count_of_layer d ss) (range_with_len 0 h)
      ∙ sym (sum-map (λ g. length (layer_node_keys d ss g)) (range_with_len 0 h))
      ∙ sym (counts_below d ss h le)

  -- no node stands below the first layer, and all below the end
  pub no_nodes_below : nodes_before d ss (layer_start d 0) ≡ 0
  unfolding nodes_before
  no_nodes_below = ap (λ n. length (filter (occurs (all_pieces d ss)) (range_with_len 0 (8 * n)))) (no_layers d)

  pub all_nodes : nodes_before d ss (length (vertices d)) ≡ length (node_keys d ss)
  unfolding nodes_before node_keys
  all_nodes = refl
