-- The sums over the ids of a layer are the numbers of its nodes and of its pieces in the mesh.
use Rattle.std.proofs.Common.{◌≡◌, ℕ, ◌+◌, ◌*◌, ◌<◌, ◌≤◌, List, length, map, arith, sym, ap, subst, ◌∙◌}
use Rattle.std.specs.Prelude.{filter, flat_map}
use Rattle.std.specs.List.{range_with_len, sum_by}
use Rattle.std.proofs.lemmas.List.Concat.{length-flat_map}
use Rattle.list_words.proofs.Sums.{sum_by-map}
use Rattle.definitions.specs.declared.Dims.{Dims}
use Rattle.definitions.specs.declared.Vertex.{Vertex}
use Rattle.definitions.specs.declared.State.{State}
use Rattle.definitions.specs.Lattice.{InDomain, IsDims, layer, layers, vertex, vertices, vertex_at}
use Rattle.definitions.specs.Layout.{layer_len, layer_start}
use Rattle.definitions.specs.Tetrahedra.{tets_from}
use Rattle.definitions.specs.Mesh.{all_pieces, occurs, tet_pieces, ArePadded, layer_node_keys, layer_pieces}
use Rattle.lattice_laws.proofs.Sublists.{has_at}
use Rattle.lattice_laws.proofs.Vertices.{from_vertices, id-vertex_at}
use Rattle.node_laws.proofs.Layers.{layers_have_keys}
use Rattle.node_laws.proofs.Pieces.{flat_map_twice}
use Rattle.vertex_numbers.specs.Bits.{trues}
use Rattle.vertex_numbers.specs.Counts.{nodes_at_id, pieces_at_id, vertex_nodes, vertex_pieces}
use Rattle.vertex_numbers.specs.Sources.{Agrees, KnowsAround}
use Rattle.vertex_numbers.proofs.LayerIds.{layer_by_ids, layer_ends, of_layer}
use Rattle.vertex_numbers.proofs.NodesTold.{nodes_occur, pieces_same}
use Rattle.vertex_numbers.proofs.PiecesTold.{pieces_counted}
use Rattle.vertex_numbers.proofs.Sums.{keys_by_ids, length-filter_trues, sums_alike}

module _ (d : Dims) (is : IsDims d) (h : ℕ) (lt : h < layers d) where
  -- the vertex with an id of the layer
  pub id_within : (n : ℕ) → n < layer_start d h + layer_len d h → n < length (vertices d)
  id_within n high = let e = layer_ends d is h lt in less n (layer_start d h + layer_len d h) (length (vertices d)) high e
    where
      less : (n m l : ℕ) → n < m → m ≤ l → n < l
      less n m l a b = omega arith

  pub known_at : (knows : ℕ → Type 0) → KnowsAround d knows h → (n : ℕ) → layer_start d h ≤ n → n < layer_start d h + layer_len d h → KnowsAround d knows (vertex_at d n).h
  known_at knows known n low high = subst (KnowsAround d knows) (sym (of_layer d is h lt n low high)) known

module _ (d : Dims) (is : IsDims d) (h : ℕ) (lt : h < layers d) (knows : ℕ → Type 0) (t : Vertex → State) (ss : List State) (agrees : Agrees d knows t ss) (known : KnowsAround d knows h) where
  inside : (n : ℕ) → n < layer_start d h + layer_len d h → InDomain d (vertex_at d n)
  inside n high = from_vertices d (vertex_at d n) (has_at (vertices d) n (vertex 0 0 0) (id_within d is h lt n high))

  pub nodes_of_id : ArePadded d ss → (n : ℕ) → layer_start d h ≤ n → n < layer_start d h + layer_len d h → nodes_at_id d t n ≡ length (filter (occurs (all_pieces d ss)) (range_with_len (8 * n) 8))
  unfolding vertex_nodes
  nodes_of_id padded n low high =
      ap trues (nodes_occur d knows t ss agrees (vertex_at d n) (inside n high) (known_at d is h lt knows known n low high) padded)
      ∙ ap (λ m. trues (map (occurs (all_pieces d ss)) (range_with_len (8 * m) 8))) (id-vertex_at d n (id_within d is h lt n high))
      ∙ sym (length-filter_trues (occurs (all_pieces d ss)) (range_with_len (8 * n) 8))

  pieces_of_id : (n : ℕ) → layer_start d h ≤ n → n < layer_start d h + layer_len d h → pieces_at_id d t n ≡ length (flat_map (tet_pieces d ss) (tets_from d (vertex_at d n)))
  unfolding vertex_pieces
  pieces_of_id n low high =
      pieces_same d knows t ss agrees (vertex_at d n) (inside n high) (known_at d is h lt knows known n low high)
      ∙ sym (pieces_counted d ss (vertex_at d n) (inside n high))

  pub nodes_of_layer : ArePadded d ss → sum_by (nodes_at_id d t) (range_with_len (layer_start d h) (layer_len d h)) ≡ length (layer_node_keys d ss h)
  nodes_of_layer padded =
      sums_alike (nodes_at_id d t) (λ n. length (filter (occurs (all_pieces d ss)) (range_with_len (8 * n) 8))) (layer_start d h) (layer_len d h) (nodes_of_id padded)
      ∙ sym (keys_by_ids (occurs (all_pieces d ss)) (layer_start d h) (layer_len d h))
      ∙ ap length (sym (layers_have_keys d ss h lt))

  pub pieces_of_layer : sum_by (pieces_at_id d t) (range_with_len (layer_start d h) (layer_len d h)) ≡ length (layer_pieces d ss h)
  pieces_of_layer =
      let of_vertex = λ (v : Vertex). flat_map (tet_pieces d ss) (tets_from d v) in
      sums_alike (pieces_at_id d t) (λ n. length (of_vertex (vertex_at d n))) (layer_start d h) (layer_len d h) pieces_of_id
      ∙ sym (sum_by-map (λ v. length (of_vertex v)) (vertex_at d) (range_with_len (layer_start d h) (layer_len d h)))
      ∙ ap (sum_by (λ v. length (of_vertex v))) (sym (layer_by_ids d is h lt))
      ∙ sym (length-flat_map of_vertex (layer d h))
      ∙ ap length (sym (flat_map_twice (tet_pieces d ss) (tets_from d) (layer d h)))
