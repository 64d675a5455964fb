-- The nodes and the tetrahedra of layers by the ids of their vertices.
use Rattle.std.proofs.Common.{◌≡◌, ℕ, zero, suc, ◌+◌, ◌-◌, ◌*◌, ◌<◌, ◌≤◌, arith, sym, ◌∙◌, ap, Bool, List, ◌++◌, length}
use Rattle.std.specs.Prelude.{filter, flat_map}
use Rattle.std.specs.List.{range_with_len}
use Rattle.std.proofs.lemmas.List.Concat.{flat_map-append}
use Rattle.std.proofs.lemmas.List.Folds.{flat_map-map}
use Rattle.list_words.proofs.Ranges.{range_add}
use Rattle.definitions.specs.declared.Dims.{Dims}
use Rattle.definitions.specs.declared.State.{State}
use Rattle.definitions.specs.Lattice.{IsDims, layer, layers, vertex_at}
use Rattle.definitions.specs.Layout.{layer_len, layer_start}
use Rattle.definitions.specs.Mesh.{all_pieces, layer_node_keys, layer_pieces, node_keys, occurs, tet_pieces}
use Rattle.definitions.specs.Tetrahedra.{tets_from}
use Rattle.node_laws.proofs.Layers.{keys_join, layers_have_keys, next_start}
use Rattle.node_laws.proofs.Pieces.{flat_map_twice, pieces_join}
use Rattle.node_laws.proofs.Ranks.{filter_split}
use Rattle.vertex_numbers.specs.Numbering.{nodes_before}
use Rattle.vertex_numbers.proofs.LayerIds.{layer_by_ids}
use Rattle.vertex_numbers.proofs.LayerStarts.{no_layers, starts_rise}
use Rattle.mesh_lists.specs.Parts.{keys_of_ids}
use Rattle.slab_texts.specs.Nodes.{pieces_at}
use Rattle.slab_texts.specs.Spans.{nodes_below, span_keys, span_pieces}

-- lists over two ranges in a row
join_filters : (p : ℕ → Bool) (a m b k t : ℕ) → a + m ≡ b → m + k ≡ t → filter p (range_with_len a m) ++ filter p (range_with_len b k) ≡ filter p (range_with_len a t)
join_filters p a m b k t e f = ap (λ z. filter p (range_with_len a m) ++ filter p (range_with_len z k)) (sym e) ∙ sym (filter_split p a m k) ∙ ap (λ z. filter p (range_with_len a z)) f

join_maps : {X : Type 0} (f : ℕ → List X) (a m b k t : ℕ) → a + m ≡ b → m + k ≡ t → flat_map f (range_with_len a m) ++ flat_map f (range_with_len b k) ≡ flat_map f (range_with_len a t)
join_maps f a m b k t e g =
    ap (λ z. flat_map f (range_with_len a m) ++ flat_map f (range_with_len z k)) (sym e)
    ∙ sym (ap (flat_map f) (range_add a m k) ∙ flat_map-append f (range_with_len a m) (range_with_len (a + m) k)) ∙ ap (λ z. flat_map f (range_with_len a z)) g

-- the rest of a range behind a first part
rest_of : (s l u t : ℕ) → u ≡ s + l → u ≤ t → l + (t - u) ≡ t - s
rest_of s l u t e le = omega arith

eights : (s l u t : ℕ) → u ≡ s + l → u ≤ t → 8 * l + 8 * (t - u) ≡ 8 * (t - s)
eights s l u t e le = omega arith

eight_times : (s l u : ℕ) → u ≡ s + l → 8 * s + 8 * l ≡ 8 * u
eight_times s l u e = omega arith

none_eight : (s t : ℕ) → s ≡ t → 8 * (t - s) ≡ 0
none_eight s t e = omega arith

none_of : (s t : ℕ) → s ≡ t → t - s ≡ 0
none_of s t e = omega arith

module _ (d : Dims) (ss : List State) where
  abbrev pub occ : ℕ → Bool
  occ = occurs (all_pieces d ss)

  keys_from : (from n to : ℕ) → from + n ≡ to → to ≤ layers d → flat_map (layer_node_keys d ss) (range_with_len from n) ≡ filter occ (range_with_len (8 * layer_start d from) (8 * (layer_start d to - layer_start d from)))
  keys_from from zero to e le =
      let f : from ≡ to = omega arith in
      sym (ap (λ m. filter occ (range_with_len (8 * layer_start d from) m)) (none_eight (layer_start d from) (layer_start d to) (ap (layer_start d) f)))
  keys_from from (suc n) to e le =
      let lt : from < layers d = omega arith in
      let next = next_start d from lt in
      let rises = starts_rise d (from + 1) to (omega arith) le in
      (λ i. layers_have_keys d ss from lt i ++ keys_from (from + 1) n to (omega arith) le i)
      ∙ join_filters occ (8 * layer_start d from) (8 * layer_len d from) (8 * layer_start d (from + 1)) (8 * (layer_start d to - layer_start d (from + 1))) (8 * (layer_start d to - layer_start d from))
      (eight_times (layer_start d from) (layer_len d from) (layer_start d (from + 1)) next)
      (eights (layer_start d from) (layer_len d from) (layer_start d (from + 1)) (layer_start d to) next rises)

  pub keys_by_ids : (from to : ℕ) → from ≤ to → to ≤ layers d → span_keys d ss from to ≡ keys_of_ids d ss (layer_start d from) (layer_start d to - layer_start d from)
  unfolding span_keys keys_of_ids
  keys_by_ids from to h le = keys_from from (to - from) to (omega arith) le

  -- how many nodes stand below a layer
  pub below_by_ids : (h : ℕ) → h ≤ layers d → nodes_below d ss h ≡ nodes_before d ss (layer_start d h)
  unfolding keys_of_ids nodes_before
  below_by_ids h le =
      ap length (keys_by_ids 0 h (omega arith) le)
      ∙ ap (λ z. length (filter occ (range_with_len (8 * z) (8 * (layer_start d h - z))))) (no_layers d)
      ∙ ap (λ z. length (filter occ (range_with_len 0 z))) (plain (layer_start d h))
    where
      plain : (n : ℕ) → 8 * (n - 0) ≡ 8 * n
      plain n = omega arith

  -- all nodes
  pub all_keys : span_keys d ss 0 (layers d) ≡ node_keys d ss
  unfolding span_keys
  all_keys = ap (λ n. flat_map (layer_node_keys d ss) (range_with_len 0 n)) (let e : layers d - 0 ≡ layers d = omega arith in e) ∙ sym (keys_join d ss)

  pub all_of_pieces : span_pieces d ss 0 (layers d) ≡ all_pieces d ss
  unfolding span_pieces
  all_of_pieces = ap (λ n. flat_map (layer_pieces d ss) (range_with_len 0 n)) (let e : layers d - 0 ≡ layers d = omega arith in e) ∙ sym (pieces_join d ss)

  -- layers in a row
  pub keys_then : (from mid to : ℕ) → from ≤ mid → mid ≤ to → span_keys d ss from to ≡ span_keys d ss from mid ++ span_keys d ss mid to
  unfolding span_keys
  keys_then from mid to h k = sym (join_maps (layer_node_keys d ss) from (mid - from) mid (to - mid) (to - from) (omega arith) (omega arith))

  pub pieces_then : (from mid to : ℕ) → from ≤ mid → mid ≤ to → span_pieces d ss from to ≡ span_pieces d ss from mid ++ span_pieces d ss mid to
  unfolding span_pieces
  pieces_then from mid to h k = sym (join_maps (layer_pieces d ss) from (mid - from) mid (to - mid) (to - from) (omega arith) (omega arith))

  module _ (is : IsDims d) where
    of_layer : (h : ℕ) → h < layers d → layer_pieces d ss h ≡ flat_map (pieces_at d ss) (range_with_len (layer_start d h) (layer_len d h))
    of_layer h lt =
        flat_map_twice (tet_pieces d ss) (tets_from d) (layer d h)
        ∙ ap (flat_map (λ v. flat_map (tet_pieces d ss) (tets_from d v))) (layer_by_ids d is h lt)
        ∙ flat_map-map (λ v. flat_map (tet_pieces d ss) (tets_from d v)) (vertex_at d) (range_with_len (layer_start d h) (layer_len d h))

    pieces_from : (from n to : ℕ) → from + n ≡ to → to ≤ layers d → flat_map (layer_pieces d ss) (range_with_len from n) ≡ flat_map (pieces_at d ss) (range_with_len (layer_start d from) (layer_start d to - layer_start d from))
    pieces_from from zero to e le =
        let f : from ≡ to = omega arith in
        sym (ap (λ m. flat_map (pieces_at d ss) (range_with_len (layer_start d from) m)) (none_of (layer_start d from) (layer_start d to) (ap (layer_start d) f)))
    pieces_from from (suc n) to e le =
        let lt : from < layers d = omega arith in
        let next = next_start d from lt in
        let rises = starts_rise d (from + 1) to (omega arith) le in
        (λ i. of_layer from lt i ++ pieces_from (from + 1) n to (omega arith) le i)
        ∙ join_maps (pieces_at d ss) (layer_start d from) (layer_len d from) (layer_start d (from + 1)) (layer_start d to - layer_start d (from + 1)) (layer_start d to - layer_start d from) (sym next)
        (rest_of (layer_start d from) (layer_len d from) (layer_start d (from + 1)) (layer_start d to) next rises)

    pub pieces_by_ids : (from to : ℕ) → from ≤ to → to ≤ layers d → span_pieces d ss from to ≡ flat_map (pieces_at d ss) (range_with_len (layer_start d from) (layer_start d to - layer_start d from))
    unfolding span_pieces
    pieces_by_ids from to h le = pieces_from from (to - from) to (omega arith) le
