-- How many nodes and tetrahedra there are, by the counts of layers.
use Rattle.std.proofs.Common.{◌≡◌, arith, sym, ◌∙◌, ap, List, length, map, take}
use Rattle.std.specs.Prelude.{sum_by}
use Rattle.std.proofs.lemmas.List.{length-map, take_all}
use Rattle.definitions.specs.declared.State.{State}
use Rattle.definitions.specs.Lattice.{layers}
use Rattle.definitions.specs.Mesh.{all_pieces, node_keys, node_place, number_of}
use Rattle.definitions.specs.Values.{Field}
use Rattle.mesh_lists.specs.Parts.{mesh_of}
use Rattle.vertex_numbers.specs.declared.LayerCount.{LayerCount}
use Rattle.vertex_numbers.specs.Counts.{layer_counts}
use Rattle.vertex_numbers.proofs.LayerStarts.{counts_len, counts_to}
use Rattle.slab_texts.proofs.Counts.{tets_to}
use Rattle.slab_texts.proofs.Spans.{all_keys, all_of_pieces, below_by_ids}

module _ (f : Field) (ss : List State) where
  whole : take (layers f.dims) (layer_counts f.dims ss) ≡ layer_counts f.dims ss
  whole = take_all (layers f.dims) (layer_counts f.dims ss) (let l = counts_len f.dims ss in omega arith)

  pub all_nodes : sum_by (λ (c : LayerCount). c.nodes) (layer_counts f.dims ss) ≡ length (mesh_of f ss).places
  unfolding mesh_of
  all_nodes =
      ap (sum_by (λ (c : LayerCount). c.nodes)) (sym whole) ∙ counts_to f.dims ss (layers f.dims) (omega arith) ∙ sym (below_by_ids f.dims ss (layers f.dims) (omega arith))
      ∙ ap length (all_keys f.dims ss) ∙ sym (length-map (node_keys f.dims ss) (node_place f ss))

  pub all_tets : sum_by (λ (c : LayerCount). c.tets) (layer_counts f.dims ss) ≡ length (mesh_of f ss).tets
  unfolding mesh_of
  all_tets =
      ap (sum_by (λ (c : LayerCount). c.tets)) (sym whole) ∙ tets_to f.dims ss (layers f.dims) (omega arith)
      ∙ ap length (all_of_pieces f.dims ss) ∙ sym (length-map (all_pieces f.dims ss) (map (number_of (node_keys f.dims ss))))
