-- The nodes of a lattice tetrahedron's pieces stand among its vertices.
use Rattle.std.proofs.Common.{◌≡◌, ℕ, ◌+◌, ◌*◌, ◌/◌, ◌%◌, ◌<◌, ◌≤◌, ◌==◌, arith, refl, sym, ◌∙◌, ap, subst, Bool, true, false, List, length, map, Option, Some, None}
use Rattle.std.specs.Prelude.{if◌then◌else◌, option_and_then, unwrap_or}
use Rattle.std.proofs.lemmas.Bool.{ltb-true, and_parts}
use Rattle.std.proofs.lemmas.Bool.Decides.{nat_tests}
use Rattle.definitions.specs.declared.Corner.{Corner}
use Rattle.definitions.specs.declared.Corner.TheVariants.{Whole, Cut}
use Rattle.definitions.specs.declared.Vertex.{Vertex}
use Rattle.definitions.specs.Cuts.{cut_number}
use Rattle.definitions.specs.Lattice.{InDomain, direction, id, neighbour, step, vertex, vertex_at, vertices}
use Rattle.definitions.specs.Mesh.{edge_cut, node_place, occurs, state_at, tet_pieces}
use Rattle.definitions.specs.Pieces.{corner_key, slot}
use Rattle.definitions.specs.Places.{cut_place, state_place}
use Rattle.definitions.specs.States.{Shares, IsShares, state_of, states}
use Rattle.definitions.specs.Tetrahedra.{IsLatticeTet}
use Rattle.definitions.specs.Values.{Field, value}
use Rattle.lattice_laws.proofs.Directions.{direction_known}
use Rattle.lattice_laws.proofs.EdgeSteps.{direction_of_step, step_to}
use Rattle.lattice_laws.proofs.Vertices.{vertex_at-id}
use Rattle.node_laws.proofs.NodesOfATetrahedron.{in_slots, kept_corner, id_slot}
use Rattle.place_laws.proofs.Between.{leads_by}
use Rattle.snap_laws.proofs.StatesAre.{number_small}
use Rattle.near_laws.proofs.Displacements.{state_about}
use Rattle.near_laws.proofs.Spans.{StandsAmong, about_slot, on_edge}
use Rattle.place_laws.proofs.NodePlaces.{state_at_id}

module _ (f : Field) (s : Shares) (small : IsShares s) (tet : List Vertex) (t : IsLatticeTet f.dims tet) where
  inside : (a : ℕ) → a < 4 → InDomain f.dims (slot tet a)
  inside a h = t.within a (vertex 0 0 0) (let e = t.four in omega arith)

  -- a cut's number is within the edge
  cut_small : (v : Vertex) (dir : ℕ) → edge_cut f v dir ≤ 4096
  cut_small v dir = go (neighbour f.dims v dir true)
    where
      at_end : (w : Vertex) (o : Option ℕ) → cut_number (value f v) (value f w) ≡ o → unwrap_or o 0 ≤ 4096
      at_end w None e = omega arith
      at_end w (Some k) e = number_small (value f v) (value f w) k e

      go : (o : Option Vertex) → unwrap_or (option_and_then (λ w. cut_number (value f v) (value f w)) o) 0 ≤ 4096
      go None = omega arith
      go (Some w) = at_end w (cut_number (value f v) (value f w)) refl

  -- a vertex in its state
  whole_among : (a n : ℕ) → a < 4 → n ≡ id f.dims (slot tet a) → StandsAmong tet (state_place (vertex_at f.dims n) (state_at (states f s) n))
  whole_among a n h e =
      let v = vertex_at-id f.dims (slot tet a) (inside a h) in
      let at : vertex_at f.dims n ≡ slot tet a = ap (vertex_at f.dims) e ∙ v.1 in
      let is : state_at (states f s) n ≡ state_of f s (slot tet a) = state_at_id f s n (subst (λ m. m < length (vertices f.dims)) (sym e) v.0) ∙ ap (state_of f s) at in
      subst (λ p. StandsAmong tet p) (λ i. state_place (sym at i) (sym is i)) (about_slot tet a (state_place (slot tet a) (state_of f s (slot tet a))) h (state_about f s small (slot tet a) (inside a h)))

  -- the cut on an edge
  cut_among : (a b n : ℕ) → a < b → b < 4 → n ≡ id f.dims (slot tet a) → (k : ℕ) → k ≤ 4096 → StandsAmong tet (cut_place (vertex_at f.dims n) (direction (slot tet a) (slot tet b)) k)
  cut_among a b n lt hb e k h =
      let len = t.four in
      let ha : a < 4 = omega arith in
      let v = vertex_at-id f.dims (slot tet a) (inside a ha) in
      let at : vertex_at f.dims n ≡ slot tet a = ap (vertex_at f.dims) e ∙ v.1 in
      let o = t.ordered a b (vertex 0 0 0) lt (omega arith) in
      let m = t.neighbours a b (vertex 0 0 0) lt (omega arith) in
      let to = step_to (slot tet a) (slot tet b) o m in
      let dir : direction (slot tet a) (slot tet b) ≡ to.dir = direction_of_step to.dir (slot tet a) (slot tet b) to.low to.high to.leads in
      subst (λ p. StandsAmong tet p) (λ i. cut_place (sym at i) (sym dir i) k)
      (on_edge tet a b k (step to.dir) ha hb (leads_by (slot tet a) (slot tet b) (step to.dir) to.leads) h)

  among : (key : ℕ) (c : Corner) → in_slots c ≡ true → corner_key tet (map (id f.dims) tet) c ≡ key → (b : Bool) → (key % 8 == 0) ≡ b →
      StandsAmong tet (if b then state_place (vertex_at f.dims (key / 8)) (state_at (states f s) (key / 8)) else cut_place (vertex_at f.dims (key / 8)) (key % 8) (edge_cut f (vertex_at f.dims (key / 8)) (key % 8)))
  among key (Whole a) h e b q =
      let ha = ltb-true a 4 h in
      let k : key ≡ 8 * id f.dims (slot tet a) = sym e ∙ ap (λ n. 8 * n) (id_slot f.dims (states f s) tet t key a ha) in
      at_vertex b q (whole_among a (key / 8) ha (divided key (id f.dims (slot tet a)) k)) (rest key (id f.dims (slot tet a)) k)
    where
      divided : (key n : ℕ) → key ≡ 8 * n → key / 8 ≡ n
      divided key n e = omega arith

      rest : (key n : ℕ) → key ≡ 8 * n → key % 8 ≡ 0
      rest key n e = omega arith

      at_vertex : (b : Bool) → (key % 8 == 0) ≡ b → StandsAmong tet (state_place (vertex_at f.dims (key / 8)) (state_at (states f s) (key / 8))) → key % 8 ≡ 0 →
          StandsAmong tet (if b then state_place (vertex_at f.dims (key / 8)) (state_at (states f s) (key / 8)) else cut_place (vertex_at f.dims (key / 8)) (key % 8) (edge_cut f (vertex_at f.dims (key / 8)) (key % 8)))
      at_vertex true q r z = r
      at_vertex false q r z = absurd (no (key % 8) z q)
        where
          no : (n : ℕ) → n ≡ 0 → (n == 0) ≡ false → ⊥
          no n e f = grind (arith, nat_tests)
  among key (Cut a c) h e b q =
      let r = and_parts _ _ h in
      let hc = ltb-true c 4 r.1 in let lt = ltb-true a c r.0 in
      let len = t.four in
      let dir = direction_known (slot tet a) (slot tet c) (t.neighbours a c (vertex 0 0 0) lt (omega arith)) (t.ordered a c (vertex 0 0 0) lt (omega arith)) in
      let k : key ≡ 8 * id f.dims (slot tet a) + direction (slot tet a) (slot tet c) = sym e ∙ ap (λ n. 8 * n + direction (slot tet a) (slot tet c)) (id_slot f.dims (states f s) tet t key a (omega arith)) in
      let parts = divided key (id f.dims (slot tet a)) (direction (slot tet a) (slot tet c)) dir.1 k in
      at_cut b q
      (subst (λ n. StandsAmong tet (cut_place (vertex_at f.dims (key / 8)) n (edge_cut f (vertex_at f.dims (key / 8)) (key % 8)))) (sym parts.1)
      (cut_among a c (key / 8) lt hc parts.0 (edge_cut f (vertex_at f.dims (key / 8)) (key % 8)) (cut_small (vertex_at f.dims (key / 8)) (key % 8))))
      (subst (λ n. 0 < n) (sym parts.1) dir.0)
    where
      divided : (key n dir : ℕ) → dir < 8 → key ≡ 8 * n + dir → (key / 8 ≡ n) × (key % 8 ≡ dir)
      divided key n dir lt e = (omega arith, omega arith)

      at_cut : (b : Bool) → (key % 8 == 0) ≡ b → StandsAmong tet (cut_place (vertex_at f.dims (key / 8)) (key % 8) (edge_cut f (vertex_at f.dims (key / 8)) (key % 8))) → 0 < key % 8 →
          StandsAmong tet (if b then state_place (vertex_at f.dims (key / 8)) (state_at (states f s) (key / 8)) else cut_place (vertex_at f.dims (key / 8)) (key % 8) (edge_cut f (vertex_at f.dims (key / 8)) (key % 8)))
      at_cut false q r lt = r
      at_cut true q r lt = absurd (no (key % 8) lt q)
        where
          no : (n : ℕ) → 0 < n → (n == 0) ≡ true → ⊥
          no n lt e = grind (arith, nat_tests)

  pub node_among : (key : ℕ) → occurs (tet_pieces f.dims (states f s) tet) key ≡ true → StandsAmong tet (node_place f (states f s) key)
  unfolding node_place
  node_among key h =
      let k = kept_corner f.dims (states f s) tet t key h in
      among key k.corner k.slots k.key_is (key % 8 == 0) refl
