-- Nodes and pieces of a layer are read off the layer, the two below and the two above.
use Rattle.std.proofs.Common.{◌≡◌, ℕ, zero, suc, ◌+◌, ◌*◌, ◌/◌, ◌%◌, ◌<◌, ◌≤◌, Bool, true, false, cond, ◌==◌, List, [], ◌∷◌, length, map, Option, Some, None, if◌then◌else◌, nat_eq, length-append, refl, sym, ap, subst, ◌∙◌, arith, inl, inr}
use Rattle.std.specs.Prelude.{filter, flat_map, sum}
use Rattle.std.specs.List.{list_any, range_with_len, AllByRecursion}
use Rattle.std.specs.Option.{option_map_or}
use Rattle.std.proofs.lemmas.Bool.Decides.{nat_tests}
use Rattle.std.proofs.lemmas.List.Sums.{sum-map, sum_by-cons}
use Rattle.std.proofs.lemmas.Bool.{and_parts}
use Rattle.list_words.proofs.Ranges.{any_agree}
use Rattle.definitions.specs.declared.Dims.{Dims}
use Rattle.definitions.specs.declared.Vertex.{Vertex}
use Rattle.definitions.specs.declared.State.{State}
use Rattle.definitions.specs.declared.State.TheVariants as state
use Rattle.definitions.specs.Cuts.{are_opposite}
use Rattle.definitions.specs.Lattice.{InDomain, id, are_neighbours, axis, before, layer, layers, neighbour, vertex, vertices, vertex_at}
use Rattle.definitions.specs.Layout.{layer_len, layer_start}
use Rattle.definitions.specs.Mesh.{all_pieces, occurs, state_at, tet_pieces}
use Rattle.definitions.specs.States.{direction_of, is_up, sign_of_state}
use Rattle.definitions.specs.Tetrahedra.{IsLatticeTet, lattice_tets, tets_from}
use Rattle.lattice_laws.specs.Ascending.{Has}
use Rattle.lattice_laws.proofs.KeyOrder.{tet_ids_rise}
use Rattle.lattice_laws.proofs.LaterNeighbours.{neighbour_to, steps_lead_later}
use Rattle.lattice_laws.proofs.ListedTetrahedra.{lattice_tets_listed}
use Rattle.lattice_laws.proofs.Members.{from_flat_map, from_map, has_flat_map, has_range, flat_map_same}
use Rattle.lattice_laws.proofs.Sublists.{all_by_place, all_from_place, has_at, pairs_from_place}
use Rattle.lattice_laws.proofs.Vertices.{domain_out, from_vertices, has_vertex, vertex_at-id}
use Rattle.stencil_laws.specs.Cases.{case_pieces}
use Rattle.node_laws.specs.Used.{told, is_plus_state, plus_on, cut_on, vertex_used, used_at, AgreeAround, pieces_of, pieces_from}
use Rattle.node_laws.specs.Laws.{LayersCountPieces, LayersHavePieces, LayersHaveUsedKeys, PiecesUseNearLayers, StandsAbove, UsedByReach}
use Rattle.node_laws.proofs.Layers.{end_within, layer_of_id, layers_have_keys}
use Rattle.node_laws.proofs.Pieces.{flat_map_twice, lattice_tet_uses_nodes, piece_counts_by_signs}
use Rattle.node_laws.proofs.NodesOfATetrahedron.{node_slot}
use Rattle.lattice_laws.proofs.Lists.{any_flat_map, member_where}
use Rattle.definitions.specs.Pieces.{pieces, slot}
use Rattle.node_laws.proofs.UsedNodes.{Beside, on_edge, used_nodes_occur}

-- tests that agree over a range pick the same, and hold somewhere at once
filters_agree : (p q : ℕ → Bool) (a n : ℕ) → ((k : ℕ) → a ≤ k → k < a + n → p k ≡ q k) → filter p (range_with_len a n) ≡ filter q (range_with_len a n)
filters_agree p q a zero h = refl
filters_agree p q a (suc n) h =
    let first = h a (omega arith) (omega arith) in
    let rest = filters_agree p q (a + 1) n (λ k lo hi. h k (omega arith) (omega arith)) in
    λ i. cond (first i) (a ∷ rest i) (rest i)

-- neighbours are at most two layers apart
near_layers : (u w : Vertex) → are_neighbours u w ≡ true → (u.h ≤ w.h + 2) × (w.h ≤ u.h + 2)
near_layers u w n = (grind (arith, nat_tests), grind (arith, nat_tests))

near_beside : (u w : Vertex) → Beside u w → (u.h ≤ w.h + 2) × (w.h ≤ u.h + 2)
near_beside u w (inl n) = near_layers u w n
near_beside u w (inr n) = let r = near_layers w u n in (r.1, r.0)

module _ (d : Dims) (said others : Vertex → State) where
  module _ (v : Vertex) (k : InDomain d v) (agree : AgreeAround d v.h said others) where
    same_here : said v ≡ others v
    same_here = agree v k (omega arith) (omega arith)

    same_beside : (w : Vertex) → InDomain d w → Beside v w → said w ≡ others w
    same_beside w l n = let r = near_beside v w n in agree w l r.0 r.1

    same_on : (e : ℕ) → 1 ≤ e → e ≤ 14 → plus_on d said v e ≡ plus_on d others v e
    same_on e lo hi = go (neighbour d v (direction_of e) (is_up e)) refl
      where
        go : (o : Option Vertex) → neighbour d v (direction_of e) (is_up e) ≡ o → option_map_or (λ w. is_plus_state (said w)) o false ≡ option_map_or (λ w. is_plus_state (others w)) o false
        go None f = refl
        go (Some w) f = let n = on_edge d v w e lo hi f in ap is_plus_state (same_beside w n.0 n.1)

    same_vertex : (s : State) → vertex_used d said v s ≡ vertex_used d others v s
    same_vertex state.Minus = refl
    same_vertex state.Plus = refl
    same_vertex (state.Zero edge k) = any_agree (plus_on d said v) (plus_on d others v) 1 14 (λ e lo hi. same_on e lo (omega arith))

    same_cut : (dir : ℕ) → 1 ≤ dir → dir ≤ 7 → cut_on d said v dir ≡ cut_on d others v dir
    same_cut dir lo hi = go (neighbour d v dir true) refl
      where
        go : (o : Option Vertex) → neighbour d v dir true ≡ o →
            option_map_or (λ w. are_opposite (sign_of_state (said v)) (sign_of_state (said w))) o false ≡ option_map_or (λ w. are_opposite (sign_of_state (others v)) (sign_of_state (others w))) o false
        go None f = refl
        go (Some w) f =
            let n = neighbour_to d v w dir f in
            let near = (and_parts (before v w) (are_neighbours v w) (steps_lead_later dir v w lo (omega arith) n.0)).1 in
            λ i. are_opposite (sign_of_state (same_here i)) (sign_of_state (same_beside w (domain_out d w n.1) (inl near) i))

    same_used : (dir : ℕ) → dir ≤ 7 → (b : Bool) → nat_eq dir 0 ≡ b → (if b then vertex_used d said v (said v) else cut_on d said v dir) ≡ (if b then vertex_used d others v (others v) else cut_on d others v dir)
    same_used dir hi true e = ap (vertex_used d said v) same_here ∙ same_vertex (others v)
    same_used dir hi false e = same_cut dir (not_zero dir e) hi
      where
        not_zero : (n : ℕ) → nat_eq n 0 ≡ false → 1 ≤ n
        not_zero n e = grind (arith, nat_tests)

-- whether a node occurs is read off its layer, the two below and the two above
pub used_by_reach : UsedByReach
used_by_reach d said others key lt agree =
    let n : key / 8 < length (vertices d) = omega arith in
    same_used d said others (vertex_at d (key / 8)) (from_vertices d (vertex_at d (key / 8)) (has_at (vertices d) (key / 8) (vertex 0 0 0) n)) agree (key % 8) (omega arith) (nat_eq (key % 8) 0) refl

-- and so are the nodes of a layer
pub layers_have_used_keys : LayersHaveUsedKeys
layers_have_used_keys d ss h said padded lt agree =
    layers_have_keys d ss h lt
    ∙ filters_agree (occurs (all_pieces d ss)) (used_at d said) (8 * layer_start d h) (8 * layer_len d h)
    (λ k lo hi.
    (let n = below_all (layer_start d h) (layer_len d h) (length (vertices d)) k hi (end_within d h lt) in
    let e : (vertex_at d (k / 8)).h ≡ h = layer_of_id d h lt (k / 8) (eighth_from (layer_start d h) k lo) (eighth_below (layer_start d h) (layer_len d h) k hi) in
    sym (used_by_reach d said (told d ss) k n (subst (λ j. AgreeAround d j said (told d ss)) (sym e) agree) ∙ used_nodes_occur d ss padded k n)))
  where
    below_all : (s l all k : ℕ) → k < 8 * s + 8 * l → s + l ≤ all → k < 8 * all
    below_all s l all k lt le = omega arith

    eighth_from : (s k : ℕ) → 8 * s ≤ k → s ≤ k / 8
    eighth_from s k le = omega arith

    eighth_below : (s l k : ℕ) → k < 8 * s + 8 * l → k / 8 < s + l
    eighth_below s l k lt = omega arith

-- ---- pieces

signs_agree : (said : Vertex → State) (d : Dims) (ss : List State) (tet : List Vertex) → AllByRecursion (λ w. said w ≡ told d ss w) tet → map (λ n. sign_of_state (state_at ss n)) (map (id d) tet) ≡ map (λ w. sign_of_state (said w)) tet
signs_agree said d ss [] h = refl
signs_agree said d ss (w ∷ tet) h = λ i. sign_of_state (sym h.0 i) ∷ signs_agree said d ss tet h.1 i

-- the length of lists together, where the length of each is known
lengths_sum : {X Y : Type 0} (f : X → List Y) (g : X → ℕ) (xs : List X) → ((x : X) → Has x xs → length (f x) ≡ g x) → length (flat_map f xs) ≡ sum (map g xs)
lengths_sum f g [] h = refl
lengths_sum f g (x ∷ xs) h =
    length-append (f x) (flat_map f xs)
    ∙ (λ i. h x (inl refl) i + (lengths_sum f g xs (λ y k. h y (inr k)) ∙ sum-map g xs) i)
    ∙ sym (sum_by-cons g x xs)
    ∙ sym (sum-map g (x ∷ xs))

-- a vertex of a layer
from_layer : (d : Dims) (h : ℕ) (v : Vertex) → h < layers d → Has v (layer d h) → InDomain d v × (v.h ≡ h)
unfolding vertices
from_layer d h v lt k =
    let r = from_flat_map (λ y. map (λ x. vertex h y x) (axis d.nx h)) v (axis d.ny h) k in
    let c = from_map (λ x. vertex h r.0 x) v (axis d.nx h) r.2 in
    (from_vertices d v (has_flat_map (layer d) h v (range_with_len 0 (layers d)) (has_range 0 (layers d) h (omega arith) (omega arith)) k), sym (ap (λ w. w.h) c.2))

-- a lattice tetrahedron from a vertex
pub from_tets : (d : Dims) (v : Vertex) (tet : List Vertex) → InDomain d v → Has tet (tets_from d v) → IsLatticeTet d tet
unfolding lattice_tets
from_tets d v tet k m = (lattice_tets_listed d tet).0 (has_flat_map (tets_from d) v tet (vertices d) (has_vertex d v k) m)

-- what holds of a vertex and of its later neighbours holds of the vertices of a lattice tetrahedron from it
module _ (d : Dims) (P : Vertex → Type 0) (v : Vertex) where
  abbrev OfLater : Type 0
  OfLater = (w : Vertex) → InDomain d w → before v w ≡ true → are_neighbours v w ≡ true → P w

  of_later : OfLater → (c : List Vertex) → AllByRecursion (InDomain d) c → AllByRecursion (λ w. before v w ≡ true) c → AllByRecursion (λ w. are_neighbours v w ≡ true) c → AllByRecursion P c
  of_later f [] h k l = tt
  of_later f (w ∷ c) h k l = (f w h.0 k.0 l.0, of_later f c h.1 k.1 l.1)

  of_first : (tet c : List Vertex) → v ∷ c ≡ tet → IsLatticeTet d tet → P v → OfLater → AllByRecursion P tet
  of_first tet c e t p f =
      let s = subst (IsLatticeTet d) (sym e) t in
      let inside = all_from_place (InDomain d) (v ∷ c) s.within in
      let ordered = pairs_from_place (λ u w. before u w ≡ true) (v ∷ c) s.ordered in
      let near = pairs_from_place (λ u w. are_neighbours u w ≡ true) (v ∷ c) s.neighbours in
      subst (AllByRecursion P) e (p, of_later f c inside.1 ordered.0 near.0)

  of_tet_from : (tet : List Vertex) → InDomain d v → Has tet (tets_from d v) → P v → OfLater → AllByRecursion P tet
  unfolding tets_from
  of_tet_from tet k m p f = let c = from_map (λ c. v ∷ c) tet _ m in of_first tet c.0 c.2 (from_tets d v tet k m) p f

-- a lattice tetrahedron from a layer
pub record TetFrom (d : Dims) (h : ℕ) (tet : List Vertex) : Type 0 where
  pub lowest : Vertex
  pub within : InDomain d lowest
  pub layer_is : lowest.h ≡ h
  pub has : Has tet (tets_from d lowest)

from_layer_tets : (d : Dims) (h : ℕ) (tet : List Vertex) → h < layers d → Has tet (flat_map (tets_from d) (layer d h)) → TetFrom d h tet
from_layer_tets d h tet lt m =
    let r = from_flat_map (tets_from d) tet (layer d h) m in
    let v = from_layer d h r.0 lt r.1 in
    record { lowest = r.0; within = v.0; layer_is = v.1; has = r.2 }

layers_up : (h : ℕ) (v w : Vertex) → v.h ≡ h → before v w ≡ true → are_neighbours v w ≡ true → (h ≤ w.h) × (w.h ≤ h + 2)
layers_up h v w e b n = (grind (arith, nat_tests), (let r = near_layers v w n in omega arith))

-- its vertices are in the layer and the two above it
tet_layers : (d : Dims) (h : ℕ) (tet : List Vertex) → TetFrom d h tet → AllByRecursion (λ w. (h ≤ w.h) × (w.h ≤ h + 2)) tet
tet_layers d h tet f =
    let e = f.layer_is in
    of_tet_from d (λ w. (h ≤ w.h) × (w.h ≤ h + 2)) f.lowest tet f.within f.has (omega arith, omega arith) (λ w k b n. layers_up h f.lowest w e b n)

module _ (d : Dims) (ss : List State) (h : ℕ) (said : Vertex → State) (agree : AgreeAround d h said (told d ss)) where
  -- its pieces by what is told of its vertices
  of_tet : (tet : List Vertex) → TetFrom d h tet → tet_pieces d ss tet ≡ pieces_of d said tet
  unfolding tet_pieces
  of_tet tet f =
      let e = f.layer_is in
      let same = of_tet_from d (λ w. said w ≡ told d ss w) f.lowest tet f.within f.has (agree f.lowest f.within (omega arith) (omega arith))
      (λ w k b n. (let r = layers_up h f.lowest w e b n in let lo = r.0 in let hi = r.1 in agree w k (omega arith) hi)) in
      ap (pieces tet (map (id d) tet)) (signs_agree said d ss tet same)

  count_of_tet : (v : Vertex) → InDomain d v → v.h ≡ h → (tet : List Vertex) → Has tet (tets_from d v) → length (tet_pieces d ss tet) ≡ length (case_pieces (map (λ w. sign_of_state (said w)) tet))
  count_of_tet v k e tet m =
      ap length (of_tet tet (record { lowest = v; within = k; layer_is = e; has = m }))
      ∙ piece_counts_by_signs tet (map (id d) tet) (map (λ w. sign_of_state (said w)) tet) (tet_ids_rise d tet (from_tets d v tet k m))

  count_of_vertex : (v : Vertex) → InDomain d v → v.h ≡ h → length (flat_map (tet_pieces d ss) (tets_from d v)) ≡ pieces_from d said v
  count_of_vertex v k e = lengths_sum (tet_pieces d ss) (λ tet. length (case_pieces (map (λ w. sign_of_state (said w)) tet))) (tets_from d v) (count_of_tet v k e)

-- the pieces of a layer, and how many there are
pub layers_have_pieces : LayersHavePieces
layers_have_pieces d ss h said lt agree =
    flat_map_same (tet_pieces d ss) (pieces_of d said) (flat_map (tets_from d) (layer d h)) (λ tet m. of_tet d ss h said agree tet (from_layer_tets d h tet lt m))

pub layers_count_pieces : LayersCountPieces
layers_count_pieces d ss h said lt agree =
    ap length (flat_map_twice (tet_pieces d ss) (tets_from d) (layer d h))
    ∙ lengths_sum (λ v. flat_map (tet_pieces d ss) (tets_from d v)) (pieces_from d said) (layer d h)
    (λ v k. (let r = from_layer d h v lt k in count_of_vertex d ss h said agree v r.0 r.1))

-- the vertex with the id of a slot's is in these layers
slot_layers : (d : Dims) (h : ℕ) (tet : List Vertex) → IsLatticeTet d tet → TetFrom d h tet → (n a : ℕ) → a < 4 → n ≡ id d (slot tet a) → (h ≤ (vertex_at d n).h) × ((vertex_at d n).h ≤ h + 2)
slot_layers d h tet t f n a lt e =
    let four : a < length tet = (let l = t.four in omega arith) in
    let here : vertex_at d n ≡ slot tet a = ap (vertex_at d) e ∙ (vertex_at-id d (slot tet a) (t.within a (vertex 0 0 0) four)).1 in
    subst (λ w. (h ≤ w.h) × (w.h ≤ h + 2)) (sym here) (all_by_place (λ w. (h ≤ w.h) × (w.h ≤ h + 2)) tet (tet_layers d h tet f) a (vertex 0 0 0) four)

-- the nodes of the pieces of a lattice tetrahedron from a layer
of_one : (d : Dims) (ss : List State) (h key : ℕ) (tet : List Vertex) → TetFrom d h tet → occurs (tet_pieces d ss tet) key ≡ true → StandsAbove d ss h key
of_one d ss h key tet f o =
    let t = from_tets d f.lowest tet f.within f.has in
    let s = node_slot d ss tet t key o in
    let r = slot_layers d h tet t f (key / 8) s.0 s.1 s.2 in
    record { occurs_too = lattice_tet_uses_nodes d ss tet key t o; low = r.0; high = r.1 }

-- the nodes of a layer's pieces are in the layer or the two above it
pub pieces_use_near_layers : PiecesUseNearLayers
pieces_use_near_layers d ss h key lt o =
    let tets = flat_map (tets_from d) (layer d h) in
    let m = member_where (λ tet. occurs (tet_pieces d ss tet) key) tets (sym (any_flat_map (list_any (λ k. k == key)) (tet_pieces d ss) tets) ∙ o) in
    of_one d ss h key m.0 (from_layer_tets d h m.0 lt m.1) m.2
