-- What is found first, vertex by vertex, is the first tetrahedron of the mesh that holds the point.
use Rattle.std.specs.Prelude.{ℕ, zero, suc, ◌<◌, ◌≤◌, ◌||◌, ◌&&◌, ◌==◌, nat_lt, true, List, [], ◌∷◌, ◌++◌, length, map, flat_map}
use Rattle.std.proofs.Common.{◌≡◌, sym, ap, subst, ◌∙◌, arith, inl, inr, ◌⊎◌, get_or, take}
use Rattle.std.proofs.Math.IntN.{pos}
use Rattle.std.proofs.lemmas.Bool.Decides.{nat_tests}
use Rattle.std.proofs.lemmas.List.{get_or-map, get_or-take, length-map, length-take-le, take_all}
use lib.Signed.{◌≤ℤ◌}
use borrow.Author.Differences.{at_most_in}
use Rattle.definitions.specs.declared.Dims.{Dims}
use Rattle.definitions.specs.declared.Vertex.{Vertex}
use Rattle.definitions.specs.declared.Place.{Place}
use Rattle.definitions.specs.declared.State.{State}
use Rattle.definitions.specs.Lattice.{InDomain, before, id, vertex, vertices, vertex_at}
use Rattle.definitions.specs.Values.{Field}
use Rattle.definitions.specs.States.{Shares, IsShares, states}
use Rattle.definitions.specs.Tetrahedra.{lattice_tets}
use Rattle.definitions.specs.Mesh.{all_pieces, mesh, node_keys, number_of, tet_pieces}
use Rattle.definitions.specs.Soundness.{corner_places}
use Rattle.lattice_laws.specs.Ascending.{Has}
use Rattle.lattice_laws.proofs.ListedTetrahedra.{lattice_tets_listed}
use Rattle.lattice_laws.proofs.Members.{from_flat_map, place_of}
use Rattle.lattice_laws.proofs.Laws.{ids_count_vertices}
use Rattle.lattice_laws.proofs.Lists.{compared}
use Rattle.lattice_laws.proofs.Sublists.{has_at}
use Rattle.lattice_laws.proofs.Vertices.{from_vertices}
use Rattle.mesh_lists.proofs.Pieces.{pieces_by_vertex}
use Rattle.mesh_probe.specs.declared.hold.Hold.{Hold}
use Rattle.mesh_probe.specs.Answers.{IsHold, IsOutside, number_of_hold}
use Rattle.mesh_probe.specs.Found.{IsClear, IsFirstFound, IsFirstOf, NoneHolds, piece_places}
use Rattle.mesh_probe.specs.Holding.{Holds, pieces_from, places_of, weights}
use Rattle.mesh_probe.proofs.FirstPieces.{first_behind, split}
use Rattle.mesh_probe.proofs.PieceNodes.{piece_nodes}

-- ---- the order of vertices
-- u is before v by its layer, its row or its place in the row, or else it is not before it
data Order (u v : Vertex) : Type 0 where
  by_layer : u.h < v.h → Order u v
  by_row : u.h ≡ v.h → u.y < v.y → Order u v
  by_place : u.h ≡ v.h → u.y ≡ v.y → u.x < v.x → Order u v
  same : u ≡ v → Order u v
  behind : before v u ≡ true → Order u v

before_by_layer : (u v : Vertex) → u.h < v.h → before u v ≡ true
before_by_layer u v h = go u.h v.h u.y v.y u.x v.x h
  where
    go : (a b c d e g : ℕ) → a < b → (nat_lt a b || (a == b && (nat_lt c d || (c == d && nat_lt e g)))) ≡ true
    go a b c d e g h = grind (arith, nat_tests)

before_by_row : (u v : Vertex) → u.h ≡ v.h → u.y < v.y → before u v ≡ true
before_by_row u v e h = go u.h v.h u.y v.y u.x v.x e h
  where
    go : (a b c d e g : ℕ) → a ≡ b → c < d → (nat_lt a b || (a == b && (nat_lt c d || (c == d && nat_lt e g)))) ≡ true
    go a b c d e g q h = grind (arith, nat_tests)

before_by_place : (u v : Vertex) → u.h ≡ v.h → u.y ≡ v.y → u.x < v.x → before u v ≡ true
before_by_place u v e k h = go u.h v.h u.y v.y u.x v.x e k h
  where
    go : (a b c d e g : ℕ) → a ≡ b → c ≡ d → e < g → (nat_lt a b || (a == b && (nat_lt c d || (c == d && nat_lt e g)))) ≡ true
    go a b c d e g q k h = grind (arith, nat_tests)

order : (u v : Vertex) → Order u v
order u v = layers (compared u.h v.h)
  where
    places : u.h ≡ v.h → u.y ≡ v.y → (u.x < v.x) ⊎ ((u.x ≡ v.x) ⊎ (v.x < u.x)) → Order u v
    places e k (inl h) = by_place e k h
    places e k (inr (inl h)) = same (λ i. vertex (e i) (k i) (h i))
    places e k (inr (inr h)) = behind (before_by_place v u (sym e) (sym k) h)

    rows : u.h ≡ v.h → (u.y < v.y) ⊎ ((u.y ≡ v.y) ⊎ (v.y < u.y)) → Order u v
    rows e (inl h) = by_row e h
    rows e (inr (inl k)) = places e k (compared u.x v.x)
    rows e (inr (inr h)) = behind (before_by_row v u (sym e) h)

    layers : (u.h < v.h) ⊎ ((u.h ≡ v.h) ⊎ (v.h < u.h)) → Order u v
    layers (inl h) = by_layer h
    layers (inr (inl e)) = rows e (compared u.y v.y)
    layers (inr (inr h)) = behind (before_by_layer v u h)

-- ---- vertices by their places in the list
-- a vertex among the first n
record IsEarly (d : Dims) (u : Vertex) (n : ℕ) : Type 0 where
  domain : InDomain d u
  below : id d u < n

is_early : (d : Dims) (u : Vertex) (n : ℕ) → n ≤ length (vertices d) → Has u (take n (vertices d)) → IsEarly d u n
is_early d u n le m =
    let p = place_of (vertex 0 0 0) u (take n (vertices d)) m in
    let few = length-take-le n (vertices d) le in
    let lt : p.0 < n = subst (λ k. p.0 < k) few p.1 in
    let e : vertex_at d p.0 ≡ u = sym (get_or-take n (vertices d) p.0 (vertex 0 0 0) lt) ∙ p.2 in
    let lt' : p.0 < length (vertices d) = omega arith in
    record {
      domain = subst (InDomain d) e ((ids_count_vertices d).inside p.0 lt');
      below = subst (λ k. k < n) (sym (ap (id d) (sym e) ∙ (ids_count_vertices d).rank p.0 lt')) lt;
    }

nonnegative : (ws : List ℕ) (i : ℕ) → pos 0 ≤ℤ get_or (map pos ws) i (pos 0)
nonnegative [] i = at_most_in _ _ (omega arith)
nonnegative (w ∷ ws) zero = at_most_in _ _ (omega arith)
nonnegative (w ∷ ws) (suc i) = nonnegative ws i

holds_by_weights : (tet : List Place) (p : Place) (ws : List ℕ) → map pos ws ≡ weights tet p → Holds tet p
holds_by_weights tet p ws e zero h = subst (λ l. pos 0 ≤ℤ get_or l 0 (pos 0)) e (nonnegative ws 0)
holds_by_weights tet p ws e (suc zero) h = subst (λ l. pos 0 ≤ℤ get_or l 1 (pos 0)) e (nonnegative ws 1)
holds_by_weights tet p ws e (suc (suc zero)) h = subst (λ l. pos 0 ≤ℤ get_or l 2 (pos 0)) e (nonnegative ws 2)
holds_by_weights tet p ws e (suc (suc (suc zero))) h = subst (λ l. pos 0 ≤ℤ get_or l 3 (pos 0)) e (nonnegative ws 3)
holds_by_weights tet p ws e (suc (suc (suc (suc i)))) h = absurd (omega arith)

module _ (f : Field) (s : Shares) (is : IsShares s) (p : Place) where
  abbrev d : Dims
  d = f.dims

  abbrev ss : List State
  ss = states f s

  abbrev all : List (List ℕ)
  all = all_pieces d ss

  by_vertex : all ≡ flat_map (pieces_from d ss) (vertices d)
  by_vertex = sym (pieces_by_vertex d ss (length (vertices d)) (omega arith)) ∙ ap (flat_map (pieces_from d ss)) (take_all (length (vertices d)) (vertices d) (omega arith))

  -- ---- the tetrahedron with a number, and its piece
  count_is : length (mesh f s).tets ≡ length all
  unfolding mesh
  count_is = length-map all (map (number_of (node_keys d ss)))

  tet_is : (n : ℕ) → n < length all → get_or (mesh f s).tets n [] ≡ map (number_of (node_keys d ss)) (get_or all n [])
  unfolding mesh
  tet_is n lt = get_or-map (map (number_of (node_keys d ss))) all n [] [] lt

  from_tet : (keys : List ℕ) → Has keys all → (tet : List Vertex) × Has tet (lattice_tets d) × Has keys (tet_pieces d ss tet)
  unfolding all_pieces
  from_tet keys m = from_flat_map (tet_pieces d ss) keys (lattice_tets d) m

  places_are : (n : ℕ) → n < length all → places_of f s n ≡ piece_places f s (get_or all n [])
  places_are n lt =
      let r = from_tet (get_or all n []) (has_at all n [] lt) in
      ap (corner_places (mesh f s).places) (tet_is n lt) ∙ (piece_nodes f s is r.0 ((lattice_tets_listed d r.0).0 r.1) (get_or all n []) r.2).places

  pub four_nodes : (n : ℕ) → n < length (mesh f s).tets → length (get_or (mesh f s).tets n []) ≡ 4
  four_nodes n lt =
      let lt' : n < length all = subst (λ k. n < k) count_is lt in
      let r = from_tet (get_or all n []) (has_at all n [] lt') in
      ap length (tet_is n lt') ∙ length-map (get_or all n []) (number_of (node_keys d ss)) ∙ (piece_nodes f s is r.0 ((lattice_tets_listed d r.0).0 r.1) (get_or all n []) r.2).four

  -- ---- none is found
  pub is_outside : ((h y x : ℕ) → IsClear f s p (vertex h y x)) → IsOutside f s p
  is_outside clear n lt holds =
      let lt' : n < length all = subst (λ k. n < k) count_is lt in
      let r = from_flat_map (pieces_from d ss) (get_or all n []) (vertices d) (subst (Has (get_or all n [])) by_vertex (has_at all n [] lt')) in
      clear r.0.h r.0.y r.0.x (from_vertices d r.0 r.1) (get_or all n []) r.2 (subst (λ ps. Holds ps p) (places_are n lt') holds)

  module _ (hold : Hold) (r : IsFirstFound f s p hold) where
    abbrev v : Vertex
    v = hold.lowest

    abbrev part : List (List ℕ)
    part = flat_map (pieces_from d ss) (take (id d v) (vertices d))

    id_below : id d v < length (vertices d)
    id_below = (ids_count_vertices d).below v r.found.domain

    clear_before : (u : Vertex) → InDomain d u → id d u < id d v → IsClear f s p u
    clear_before u k lt = go (order u v)
      where
        go : Order u v → IsClear f s p u
        go (by_layer h) = r.clear_layers u.h u.y u.x h
        go (by_row e h) = subst (λ m. IsClear f s p (vertex m u.y u.x)) (sym e) (r.clear_rows u.y u.x h)
        go (by_place e g h) = subst (λ m. IsClear f s p (vertex m u.y u.x)) (sym e) (subst (λ m. IsClear f s p (vertex v.h m u.x)) (sym g) (r.clear_row u.x h))
        go (same e) = let q = ap (id d) e in absurd (omega arith)
        go (behind e) = let q = (ids_count_vertices d).ascend v u r.found.domain k e in absurd (omega arith)

    none_before : NoneHolds f s p part
    none_before keys m h =
        let q = from_flat_map (pieces_from d ss) keys (take (id d v) (vertices d)) m in
        let b = id_below in
        let e = is_early d q.0 (id d v) (omega arith) q.1 in
        clear_before q.0 e.domain e.below e.domain keys q.2 h

    first_of_all : IsFirstOf f s p all (number_of_hold f s hold) hold.nodes hold.weights
    first_of_all =
        let q = split (pieces_from d ss) (vertices d) (id d v) (vertex 0 0 0) id_below in
        first_behind f s p part (pieces_from d ss v) q.0 all hold.rank hold.nodes hold.weights
        (by_vertex ∙ q.1 ∙ ap (λ u. part ++ (pieces_from d ss u ++ q.0)) ((ids_count_vertices d).back v r.found.domain)) none_before r.found.first

    pub is_hold : IsHold f s p hold
    is_hold =
        let a = first_of_all in
        let n = number_of_hold f s hold in
        let same = places_are n a.within in
        let ws : map pos hold.weights ≡ weights (places_of f s n) p = a.weights_are ∙ ap (λ ks. weights (piece_places f s ks) p) a.nodes_are ∙ ap (λ ps. weights ps p) (sym same) in
        record {
          first = record {
            within = subst (λ k. n < k) (sym count_is) a.within;
            holds = holds_by_weights (places_of f s n) p hold.weights ws;
            first = λ m lt h. earlier m lt h;
          };
          domain = r.found.domain;
          ranked = r.found.first.within;
          keys = r.found.first.nodes_are;
          nodes = ap (map (number_of (node_keys d ss))) a.nodes_are ∙ sym (tet_is n a.within);
          weights_are = ws;
        }
      where
        earlier : (m : ℕ) → m < number_of_hold f s hold → Holds (places_of f s m) p → ⊥
        earlier m lt h =
            let a = first_of_all in
            let within = a.within in
            let lt' : m < length all = omega arith in
            let few = length-take-le (number_of_hold f s hold) all (omega arith) in
            let lt'' : m < length (take (number_of_hold f s hold) all) = subst (λ k. m < k) (sym few) lt in
            a.first (get_or all m []) (subst (λ ks. Has ks (take (number_of_hold f s hold) all)) (get_or-take (number_of_hold f s hold) all m [] lt) (has_at (take (number_of_hold f s hold) all) m [] lt'')) (subst (λ ps. Holds ps p) (places_are m lt') h)
