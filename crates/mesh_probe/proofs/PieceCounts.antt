-- Counts of pieces: with those of one more, below a layer, and how many they can be.
use Rattle.std.specs.Prelude.{ℕ, zero, suc, ◌+◌, ◌-◌, ◌*◌, ◌/◌, ◌%◌, ◌^◌, ◌<◌, ◌≤◌, List, [], ◌∷◌, ◌++◌, length, flat_map, sum_by}
use Rattle.std.specs.List.{range_with_len}
use Rattle.std.proofs.Common.{◌≡◌, sym, ap, ◌∙◌, arith, get_or, take}
use Rattle.std.proofs.lemmas.List.{take_all, length-append}
use Rattle.std.proofs.lemmas.List.Concat.{flat_map-append, length-flat_map}
use Rattle.std.proofs.lemmas.List.FromFn.{take-map-range_with_len}
use Rattle.list_words.proofs.Ranges.{range_add}
use Rattle.list_words.proofs.Sums.{sum_by-map}
use Rattle.definitions.specs.declared.Dims.{Dims}
use Rattle.definitions.specs.declared.Vertex.{Vertex}
use Rattle.definitions.specs.declared.State.{State}
use Rattle.definitions.specs.Lattice.{InDomain, IsDims, id, layer, layers, vertex, vertices}
use Rattle.definitions.specs.Tetrahedra.{tets_from}
use Rattle.definitions.specs.Mesh.{all_pieces, layer_pieces, tet_pieces}
use Rattle.lattice_counts.specs.Counts.{below_layer, even_len, odd_len, row_len}
use Rattle.lattice_counts.proofs.Ranges.{length-flat_map_range}
use Rattle.lattice_counts.proofs.Ranks.{all_small, below_grows, rank}
use Rattle.node_laws.proofs.Pieces.{flat_map_twice}
use Rattle.mesh_lists.proofs.Pieces.{pieces_by_vertex}
use Rattle.mesh_lists.proofs.Sizes.{few_pieces}
use Rattle.vertex_numbers.specs.Counts.{count_of_layer, layer_counts}
use Rattle.mesh_probe.specs.Holding.{pieces_from}
use Rattle.mesh_probe.proofs.FirstPieces.{next_part, take_front}

pub length_grown : {X Y : Type 0} (P : X → List Y) (xs : List X) (n : ℕ) (e : X) → n < length xs → (a b : ℕ) → a ≡ length (flat_map P (take n xs)) → b ≡ length (P (get_or xs n e)) → a + b ≡ length (flat_map P (take (n + 1) xs))
length_grown P xs n e lt a b h g = (λ i. h i + g i) ∙ sym (ap length (next_part P xs n e lt) ∙ length-append (flat_map P (take n xs)) (P (get_or xs n e)))

part_at_most : {X Y : Type 0} (P : X → List Y) (xs : List X) (n : ℕ) → length (flat_map P (take n xs)) ≤ length (flat_map P xs)
part_at_most P [] zero = omega arith
part_at_most P [] (suc n) = omega arith
part_at_most P (x ∷ xs) zero = omega arith
part_at_most P (x ∷ xs) (suc n) =
    let a = length-append (P x) (flat_map P (take n xs)) in
    let b = length-append (P x) (flat_map P xs) in
    let c = part_at_most P xs n in
    omega arith

module _ (d : Dims) where
  layers_length : (n : ℕ) → length (flat_map (layer d) (range_with_len 0 n)) ≡ below_layer d n
  layers_length n =
      none (even_len d) (odd_len d) (length (flat_map (layer d) (range_with_len 0 n)))
      ∙ length-flat_map_range (layer d) (below_layer d) (below_grows d) 0 n ∙ ap (below_layer d) (left n)
    where
      none : (e o l : ℕ) → l ≡ 0 / 2 * (e + o) + 0 % 2 * e + l
      none e o l = omega arith

      left : (n : ℕ) → 0 + n ≡ n
      left n = omega arith

  -- the vertices of the layers below one
  lower_vertices : (h : ℕ) → h ≤ layers d → flat_map (layer d) (range_with_len 0 h) ≡ take (below_layer d h) (vertices d)
  unfolding vertices
  lower_vertices h le =
      let low = flat_map (layer d) (range_with_len 0 h) in
      let high = flat_map (layer d) (range_with_len h (layers d - h)) in
      let e : layers d ≡ h + (layers d - h) = omega arith in
      let z : 0 + h ≡ h = omega arith in
      let whole : flat_map (layer d) (range_with_len 0 (layers d)) ≡ low ++ high =
      ap (λ n. flat_map (layer d) (range_with_len 0 n)) e ∙ ap (flat_map (layer d)) (range_add 0 h (layers d - h) ∙ ap (λ k. range_with_len 0 h ++ range_with_len k (layers d - h)) z) ∙ flat_map-append (layer d) (range_with_len 0 h) (range_with_len h (layers d - h))
      in
      let len = layers_length h in
      sym (ap (take (below_layer d h)) whole ∙ take_front low high (below_layer d h) (at_most (below_layer d h) (length low) len) ∙ take_all (below_layer d h) low (as_many (below_layer d h) (length low) len))
    where
      at_most : (a b : ℕ) → b ≡ a → a ≤ b
      at_most a b e = omega arith

      as_many : (a b : ℕ) → b ≡ a → b ≤ a
      as_many a b e = omega arith

  module _ (ss : List State) where
    -- the pieces of the layers below one
    pub below_layer_counts : (h : ℕ) → h ≤ layers d → sum_by (λ c. c.tets) (take h (layer_counts d ss)) ≡ length (flat_map (pieces_from d ss) (take (below_layer d h) (vertices d)))
    below_layer_counts h le =
        ap (sum_by (λ c. c.tets)) (take-map-range_with_len (count_of_layer d ss) 0 (layers d) h le)
        ∙ sum_by-map (λ c. c.tets) (count_of_layer d ss) (range_with_len 0 h)
        ∙ sym (length-flat_map (layer_pieces d ss) (range_with_len 0 h))
        ∙ ap length ((λ i. flat_map (λ g. flat_map_twice (tet_pieces d ss) (tets_from d) (layer d g) i) (range_with_len 0 h)) ∙ sym (flat_map_twice (pieces_from d ss) (layer d) (range_with_len 0 h)) ∙ ap (flat_map (pieces_from d ss)) (lower_vertices h le))

    -- pieces are few
    pub few_before : IsDims d → (n : ℕ) → length (flat_map (pieces_from d ss) (take n (vertices d))) ≤ 18 * 2 ^ 27
    few_before is n =
        let a = part_at_most (pieces_from d ss) (vertices d) n in
        let b : length (flat_map (pieces_from d ss) (vertices d)) ≡ length (all_pieces d ss) = ap length (ap (flat_map (pieces_from d ss)) (sym (take_all (length (vertices d)) (vertices d) (omega arith))) ∙ pieces_by_vertex d ss (length (vertices d)) (omega arith)) in
        bound (length (flat_map (pieces_from d ss) (take n (vertices d)))) (length (flat_map (pieces_from d ss) (vertices d))) (length (all_pieces d ss)) (length (vertices d)) a b (few_pieces d ss) (all_small d is)
      where
        bound : (p q t v : ℕ) → p ≤ q → q ≡ t → t ≤ 18 * v → v ≤ 2 ^ 27 → p ≤ 18 * 2 ^ 27
        bound p q t v a b c e = omega arith

  -- the first vertex of a layer
  pub first_of_layer : (h : ℕ) → InDomain d (vertex h (h % 2) (h % 2)) → id d (vertex h (h % 2) (h % 2)) ≡ below_layer d h
  first_of_layer h k = rank d (vertex h (h % 2) (h % 2)) k ∙ none (below_layer d h) (row_len d.nx h) (h % 2 / 2) (half h)
    where
      half : (h : ℕ) → h % 2 / 2 ≡ 0
      half h = omega arith

      none : (b r q : ℕ) → q ≡ 0 → b + (q * r + q) ≡ b
      none b r q e = (λ i. b + (e i * r + e i)) ∙ zeros b r
        where
          zeros : (b r : ℕ) → b + (0 * r + 0) ≡ b
          zeros b r = omega arith

  pub layer_first : (v : Vertex) → InDomain d v → below_layer d v.h ≤ id d v
  layer_first v k = let e = rank d v k in omega arith
