-- The keys and the places of the nodes of some ids.
use Rattle.std.proofs.Common.{◌≡◌, ℕ, ◌+◌, ◌-◌, ◌*◌, ◌^◌, ◌<◌, ◌≤◌, arith, sym, ◌∙◌, ap, subst, Bool, List, ◌++◌, map, length, length-append, get_or}
use Rattle.std.specs.Prelude.{filter, pos}
use Rattle.std.specs.List.{range_with_len}
use Rattle.std.proofs.lemmas.List.{get_or_append_left, get_or-append_right, length-map, map-append}
use Rattle.definitions.specs.declared.Dims.{Dims}
use Rattle.definitions.specs.declared.Place.{Place}
use Rattle.definitions.specs.declared.State.{State}
use Rattle.definitions.specs.Places.{place}
use Rattle.definitions.specs.Lattice.{IsDims, vertices}
use Rattle.definitions.specs.Mesh.{all_pieces, node_keys, node_place, occurs}
use Rattle.definitions.specs.Values.{Field}
use Rattle.node_laws.proofs.Ranks.{filter_split}
use Rattle.lattice_counts.proofs.Ranks.{all_small}
use Rattle.mesh_lists.specs.Parts.{keys_of_ids, mesh_of}
use Rattle.mesh_lists.proofs.Sizes.{few_keys}
use Rattle.vertex_numbers.specs.Numbering.{nodes_before}
use Rattle.slab_texts.specs.Nodes.{AreInRow}

module _ (d : Dims) (ss : List State) where
  abbrev occ : ℕ → Bool
  occ = occurs (all_pieces d ss)

  -- all keys in three parts
  keys_split : (a b : ℕ) → a ≤ b → b ≤ length (vertices d) → node_keys d ss ≡ filter occ (range_with_len 0 (8 * a)) ++ (keys_of_ids d ss a (b - a) ++ filter occ (range_with_len (8 * b) (8 * (length (vertices d) - b))))
  unfolding node_keys keys_of_ids
  keys_split a b le within =
      let l = length (vertices d) in
      ap (λ m. filter occ (range_with_len 0 m)) (sums a b l le within)
      ∙ filter_split occ 0 (8 * a) (8 * (b - a) + 8 * (l - b))
      ∙ ap (λ t. filter occ (range_with_len 0 (8 * a)) ++ t)
      (ap (λ m. filter occ (range_with_len m (8 * (b - a) + 8 * (l - b)))) (let e : 0 + 8 * a ≡ 8 * a = omega arith in e)
      ∙ filter_split occ (8 * a) (8 * (b - a)) (8 * (l - b))
      ∙ ap (λ m. filter occ (range_with_len (8 * a) (8 * (b - a))) ++ filter occ (range_with_len m (8 * (l - b)))) (let e : 8 * a + 8 * (b - a) ≡ 8 * b = omega arith in e))
    where
      sums : (a b l : ℕ) → a ≤ b → b ≤ l → 8 * l ≡ 8 * a + (8 * (b - a) + 8 * (l - b))
      sums a b l p q = omega arith

-- places of a part of the keys stand in a row among those of all
in_row : (g : ℕ → Place) (all xs ys zs : List ℕ) → all ≡ xs ++ (ys ++ zs) → AreInRow (map g all) (length xs) (map g ys)
in_row g all xs ys zs e = record {
  place = λ n low high.
      (let whole : map g all ≡ map g xs ++ (map g ys ++ map g zs) = ap (map g) e ∙ map-append g xs (ys ++ zs) ∙ ap (λ t. map g xs ++ t) (map-append g ys zs) in
      let z = place (pos 0) (pos 0) (pos 0) in
      ap (λ l. get_or l n z) whole
      ∙ get_or-append_right (map g xs) (map g ys ++ map g zs) (length xs) n z (length-map xs g) low
      ∙ get_or_append_left (map g ys) (map g zs) z (n - length xs) (less n (length xs) (length (map g ys)) low high));
}
  where
    less : (n x y : ℕ) → x ≤ n → n < x + y → n - x < y
    less n x y p q = omega arith

pub places_in_row : (f : Field) (ss : List State) (a b first : ℕ) (places : List Place) → a ≤ b → b ≤ length (vertices f.dims) → first ≡ nodes_before f.dims ss a → places ≡ map (node_place f ss) (keys_of_ids f.dims ss a (b - a)) → AreInRow (mesh_of f ss).places first places
unfolding mesh_of nodes_before
places_in_row f ss a b first places le within e p =
    subst (λ n. AreInRow (map (node_place f ss) (node_keys f.dims ss)) n places) (sym e)
    (subst (AreInRow (map (node_place f ss) (node_keys f.dims ss)) (length (filter (occurs (all_pieces f.dims ss)) (range_with_len 0 (8 * a))))) (sym p)
    (in_row (node_place f ss) (node_keys f.dims ss) (filter (occurs (all_pieces f.dims ss)) (range_with_len 0 (8 * a))) (keys_of_ids f.dims ss a (b - a)) (filter (occurs (all_pieces f.dims ss)) (range_with_len (8 * b) (8 * (length (vertices f.dims) - b)))) (keys_split f.dims ss a b le within)))

-- how many nodes there are below the ids and at them
pub few_nodes : (d : Dims) (ss : List State) (a b : ℕ) → IsDims d → a ≤ b → b ≤ length (vertices d) → nodes_before d ss a + length (keys_of_ids d ss a (b - a)) < 2 ^ 31
unfolding nodes_before
few_nodes d ss a b is le within =
    let x = filter (occurs (all_pieces d ss)) (range_with_len 0 (8 * a)) in
    let y = keys_of_ids d ss a (b - a) in
    let z = filter (occurs (all_pieces d ss)) (range_with_len (8 * b) (8 * (length (vertices d) - b))) in
    let all = ap length (keys_split d ss a b le within) ∙ length-append x (y ++ z) ∙ ap (λ n. length x + n) (length-append y z) in
    bound (length (node_keys d ss)) (length x) (length y) (length z) (length (vertices d)) all (few_keys d ss) (all_small d is)
  where
    bound : (k x y z v : ℕ) → k ≡ x + (y + z) → k ≤ 8 * v → v ≤ 2 ^ 27 → x + y < 2 ^ 31
    bound k x y z v e f g = omega arith
