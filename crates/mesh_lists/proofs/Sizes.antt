-- How many nodes and tetrahedra there are: by layers together, and at most eight and eighteen a vertex.
use Rattle.std.proofs.Common.{◌≡◌, ℕ, suc, ◌+◌, ◌*◌, ◌^◌, ◌<◌, ◌≤◌, arith, refl, sym, ◌∙◌, ap, subst, inl, inr, Bool, true, not, nat_le, List, [], ◌∷◌, ◌++◌, map, length, length-append, Option, Some, None}
use Rattle.std.specs.Prelude.{filter, filter_map, flat_map, sum, sum_by}
use Rattle.std.specs.List.{cons_option, range_with_len}
use Rattle.std.proofs.lemmas.List.{length-map}
use Rattle.std.proofs.lemmas.List.Concat.{length-flat_map}
use Rattle.std.proofs.lemmas.List.Filters.{length-filter_both}
use Rattle.std.proofs.lemmas.List.FromFn.{length-range_with_len}
use Rattle.std.proofs.lemmas.List.Sums.{sum-map}
use Rattle.std.proofs.lemmas.Bool.{leb-true}
use Rattle.definitions.specs.declared.Dims.{Dims}
use Rattle.definitions.specs.declared.Vertex.{Vertex}
use Rattle.definitions.specs.declared.State.{State}
use Rattle.definitions.specs.Facets.{fill}
use Rattle.definitions.specs.Lattice.{are_neighbours, id, layers, vertices}
use Rattle.definitions.specs.Layout.{layer_start}
use Rattle.definitions.specs.Mesh.{all_pieces, layer_pieces, node_keys, occurs, state_at, tet_pieces}
use Rattle.definitions.specs.States.{sign_of_state}
use Rattle.definitions.specs.Stencils.{facets, kept}
use Rattle.definitions.specs.Tetrahedra.{IsLatticeTet, lattice_tets, tets_from}
use Rattle.lattice_laws.specs.Ascending.{Has}
use Rattle.lattice_laws.specs.FiniteTests.{every_case}
use Rattle.lattice_laws.proofs.FiniteTests.{each_case}
use Rattle.lattice_laws.proofs.KeyOrder.{tet_ids_rise}
use Rattle.lattice_laws.proofs.ListedTetrahedra.{lattice_tets_listed}
use Rattle.lattice_laws.proofs.TetrahedraFromLowest.{adjacent, all_of, tets_by_triples, triples, vertex_in}
use Rattle.stencil_laws.specs.Cases.{case_pieces}
use Rattle.node_laws.proofs.Layers.{all_start, counts_below}
use Rattle.node_laws.proofs.Pieces.{piece_counts_by_signs, pieces_join}
use Rattle.vertex_numbers.specs.Counts.{count_of_layer, layer_counts}

-- ---- nodes

filter_short : (p : ℕ → Bool) (xs : List ℕ) → length (filter p xs) ≤ length xs
filter_short p xs = let b = length-filter_both p (λ x. not (p x)) (λ x. refl) xs in omega arith

pub few_keys : (d : Dims) (ss : List State) → length (node_keys d ss) ≤ 8 * length (vertices d)
unfolding node_keys
few_keys d ss = subst (λ n. length (node_keys d ss) ≤ n) (length-range_with_len 0 (8 * length (vertices d))) (filter_short (occurs (all_pieces d ss)) (range_with_len 0 (8 * length (vertices d))))

-- ---- pieces

-- at most b of each
pub at_most_each : {X Y : Type 0} (f : X → List Y) (b : ℕ) (xs : List X) → ((x : X) → Has x xs → length (f x) ≤ b) → length (flat_map f xs) ≤ b * length xs
at_most_each f b [] h = omega arith
at_most_each f b (x ∷ xs) h =
    let l = length-append (f x) (flat_map f xs) in
    let here = h x (inl refl) in
    let rest = at_most_each f b xs (λ y m. h y (inr m)) in
    sums (length (f x)) (length (flat_map f xs)) b (length xs) (length (f x ++ flat_map f xs)) l here rest
  where
    sums : (p q b n t : ℕ) → t ≡ p + q → p ≤ b → q ≤ b * n → t ≤ b * suc n
    sums p q b n t e h k = omega arith

module _ {X Y : Type 0} (f : X → Option Y) where
  given_short : (xs : List X) → length (filter_map f xs) ≤ length xs
  given_short [] = omega arith
  given_short (x ∷ xs) = go (f x) (given_short xs)
    where
      go : (o : Option Y) → length (filter_map f xs) ≤ length xs → length (cons_option o (filter_map f xs)) ≤ suc (length xs)
      go None h = omega arith
      go (Some y) h = omega arith

pub six_at_most : (d : Dims) (v : Vertex) → length (tets_from d v) ≤ 6
six_at_most d v =
    let g = all_of (vertex_in d v) are_neighbours adjacent in
    subst (λ n. n ≤ 6) (sym (ap length (tets_by_triples d v) ∙ length-map (filter_map g triples) (λ c. v ∷ c))) (given_short g triples)

all_few : every_case (λ signs. nat_le (length (case_pieces signs)) 3) ≡ true
unfolding fill facets kept
all_few = refl

pub three_at_most : (d : Dims) (ss : List State) (tet : List Vertex) → IsLatticeTet d tet → length (tet_pieces d ss tet) ≤ 3
unfolding tet_pieces
three_at_most d ss tet t =
    let ids = map (id d) tet in
    let signs = map (λ n. sign_of_state (state_at ss n)) ids in
    let four : length signs ≡ 4 = length-map ids (λ n. sign_of_state (state_at ss n)) ∙ length-map tet (id d) ∙ t.four in
    subst (λ n. n ≤ 3) (sym (piece_counts_by_signs tet ids signs (tet_ids_rise d tet t)))
    (leb-true (length (case_pieces signs)) 3 (each_case (λ xs. nat_le (length (case_pieces xs)) 3) all_few signs four))

pub few_pieces : (d : Dims) (ss : List State) → length (all_pieces d ss) ≤ 18 * length (vertices d)
unfolding all_pieces lattice_tets
few_pieces d ss =
    let tets = at_most_each (tets_from d) 6 (vertices d) (λ v m. six_at_most d v) in
    let pieces = at_most_each (tet_pieces d ss) 3 (lattice_tets d) (λ tet m. three_at_most d ss tet ((lattice_tets_listed d tet).0 m)) in
    product (length (vertices d)) (length (flat_map (tets_from d) (vertices d))) (length (flat_map (tet_pieces d ss) (flat_map (tets_from d) (vertices d)))) tets pieces
  where
    product : (n m p : ℕ) → m ≤ 6 * n → p ≤ 3 * m → p ≤ 18 * n
    product n m p h k = omega arith

-- ---- the layers together

map_twice : {X Y Z : Type 0} (f : Y → Z) (g : X → Y) (xs : List X) → map f (map g xs) ≡ map (λ x. f (g x)) xs
map_twice f g [] = refl
map_twice f g (x ∷ xs) = ap (λ r. f (g x) ∷ r) (map_twice f g xs)

map_same : (xs : List ℕ) → map (λ x. x) xs ≡ xs
map_same [] = refl
map_same (x ∷ xs) = ap (λ r. x ∷ r) (map_same xs)

-- the layers in order
pub layers_in_order : (d : Dims) (ss : List State) → map (λ c. c.h) (layer_counts d ss) ≡ range_with_len 0 (length (layer_counts d ss))
layers_in_order d ss =
    map_twice (λ c. c.h) (count_of_layer d ss) (range_with_len 0 (layers d)) ∙ map_same (range_with_len 0 (layers d))
    ∙ ap (range_with_len 0) (sym (length-map (range_with_len 0 (layers d)) (count_of_layer d ss) ∙ length-range_with_len 0 (layers d)))

sum_of_each : {X : Type 0} (f : X → ℕ) (g : ℕ → X) (xs : List ℕ) → sum_by f (map g xs) ≡ sum (map (λ x. f (g x)) xs)
sum_of_each f g xs = sym (sum-map f (map g xs)) ∙ ap sum (map_twice f g xs)

pub nodes_together : (d : Dims) (ss : List State) → length (vertices d) ≤ 2 ^ 27 → sum_by (λ c. c.nodes) (layer_counts d ss) < 2 ^ 32
nodes_together d ss few =
    let below = counts_below d ss (layers d) (omega arith) in
    let total : sum_by (λ c. c.nodes) (layer_counts d ss) ≡ length (filter (occurs (all_pieces d ss)) (range_with_len 0 (8 * layer_start d (layers d)))) =
    sum_of_each (λ c. c.nodes) (count_of_layer d ss) (range_with_len 0 (layers d)) ∙ sym below
    in
    let short = filter_short (occurs (all_pieces d ss)) (range_with_len 0 (8 * layer_start d (layers d))) in
    bound _ _ _ _ (length (vertices d)) total short (length-range_with_len 0 (8 * layer_start d (layers d))) (all_start d) few
  where
    bound : (t n m s v : ℕ) → t ≡ n → n ≤ m → m ≡ 8 * s → s ≡ v → v ≤ 2 ^ 27 → t < 2 ^ 32
    bound t n m s v e h f g k = omega arith

pub tets_together : (d : Dims) (ss : List State) → length (vertices d) ≤ 2 ^ 27 → sum_by (λ c. c.tets) (layer_counts d ss) < 2 ^ 64
tets_together d ss few =
    let total : sum_by (λ c. c.tets) (layer_counts d ss) ≡ length (all_pieces d ss) =
    sum_of_each (λ c. c.tets) (count_of_layer d ss) (range_with_len 0 (layers d)) ∙ sum-map (λ h. length (layer_pieces d ss h)) (range_with_len 0 (layers d))
    ∙ sym (length-flat_map (layer_pieces d ss) (range_with_len 0 (layers d))) ∙ ap length (sym (pieces_join d ss))
    in
    bound _ _ (length (vertices d)) total (few_pieces d ss) few
  where
    bound : (t n v : ℕ) → t ≡ n → n ≤ 18 * v → v ≤ 2 ^ 27 → t < 2 ^ 64
    bound t n v e h k = omega arith
