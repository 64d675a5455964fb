-- How many tetrahedra stand below a layer.
use Rattle.std.proofs.Common.{◌≡◌, ℕ, ◌+◌, ◌-◌, ◌*◌, ◌^◌, ◌<◌, ◌≤◌, arith, sym, ◌∙◌, ap, List, length, length-append, take}
use Rattle.std.specs.Prelude.{flat_map, sum_by}
use Rattle.std.specs.List.{range_with_len}
use Rattle.std.proofs.lemmas.List.Concat.{length-flat_map}
use Rattle.std.proofs.lemmas.List.FromFn.{take-map-range_with_len}
use Rattle.list_words.proofs.Sums.{sum_by-map}
use Rattle.definitions.specs.declared.Dims.{Dims}
use Rattle.definitions.specs.declared.State.{State}
use Rattle.definitions.specs.Lattice.{IsDims, layers}
use Rattle.definitions.specs.Mesh.{layer_pieces}
use Rattle.lattice_counts.proofs.Ranks.{all_small}
use Rattle.mesh_lists.proofs.Sizes.{few_pieces}
use Rattle.vertex_numbers.specs.Counts.{count_of_layer, layer_counts}
use Rattle.slab_texts.specs.Spans.{span_pieces, tets_below}
use Rattle.slab_texts.proofs.Spans.{all_of_pieces, pieces_then}

module _ (d : Dims) (ss : List State) where
  pub tets_to : (h : ℕ) → h ≤ layers d → sum_by (λ c. c.tets) (take h (layer_counts d ss)) ≡ tets_below d ss h
  unfolding span_pieces
  tets_to h le =
      ap (sum_by (λ c. c.tets)) (take-map-range_with_len (count_of_layer d ss) 0 (layers d) h le)
      ∙ sum_by-map (λ c. c.tets) (count_of_layer d ss) (range_with_len 0 h)
      ∙ sym (length-flat_map (layer_pieces d ss) (range_with_len 0 h))
      ∙ ap (λ n. length (flat_map (layer_pieces d ss) (range_with_len 0 n))) (let e : h ≡ h - 0 = omega arith in e)

  pub tets_few : IsDims d → (h : ℕ) → h ≤ layers d → tets_below d ss h < 2 ^ 32
  tets_few is h le =
      let all = ap length (sym (all_of_pieces d ss) ∙ pieces_then d ss 0 h (layers d) (omega arith) le) ∙ length-append (span_pieces d ss 0 h) (span_pieces d ss h (layers d)) in
      bound _ _ _ _ all (few_pieces d ss) (all_small d is)
    where
      bound : (a p q v : ℕ) → a ≡ p + q → a ≤ 18 * v → v ≤ 2 ^ 27 → p < 2 ^ 32
      bound a p q v e f g = omega arith
