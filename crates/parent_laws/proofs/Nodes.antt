-- A node of a piece stands on its moved vertex, or on the cut of its edge, whose ends are not moved.
use Rattle.std.specs.Prelude.{ℕ, ◌+◌, ◌*◌, ◌/◌, ◌%◌, ◌<◌, ◌≤◌, max, min, Bool, true, false, ◌&&◌, ◌==◌, nat_lt, List, [], ◌∷◌, length, map, if◌then◌else◌, Option, Some, None, option_and_then, unwrap_or, slice_index, IsSomeAnd}
use Rattle.std.proofs.Common.{◌≡◌, refl, sym, ap, subst, ◌∙◌, arith}
use Rattle.std.specs.List.{list_any, list_all}
use Rattle.std.proofs.Math.IntN.{ℤ, pos, ◌+ℤ◌, ◌*ℤ◌, neg_ℤ}
use Rattle.std.proofs.lemmas.Bool.{eqb-true, eq-eqb, ltb-true, and_parts}
use Rattle.std.proofs.lemmas.Bool.Decides.{nat_tests}
use Rattle.std.proofs.lemmas.List.{length-map, get_or-map}
use Rattle.definitions.specs.declared.Vertex.{Vertex}
use Rattle.definitions.specs.declared.Sign.{Sign}
use Rattle.definitions.specs.declared.Sign.TheVariants.{Zero}
use Rattle.definitions.specs.declared.Corner.{Corner}
use Rattle.definitions.specs.declared.Corner.TheVariants.{Whole, Cut}
use Rattle.definitions.specs.declared.State.{State}
use Rattle.definitions.specs.declared.State.TheVariants as state
use Rattle.definitions.specs.Lattice.{InDomain, id, vertex, vertices, vertex_at, neighbour, direction, step, moved}
use Rattle.definitions.specs.Values.{Field, value}
use Rattle.definitions.specs.Cuts.{are_opposite, cut_number}
use Rattle.definitions.specs.States.{Shares, state_of, states, sign_of_state}
use Rattle.definitions.specs.Places.{place, lattice_place, state_place, cut_place}
use Rattle.definitions.specs.Facets.{fill}
use Rattle.definitions.specs.Stencils.{is_kept, kept, facets, sign_at}
use Rattle.definitions.specs.Tetrahedra.{IsLatticeTet}
use Rattle.definitions.specs.Pieces.{corner_key, oriented, slot}
use Rattle.definitions.specs.Vectors.{place_at}
use Rattle.definitions.specs.Mesh.{mesh, all_pieces, occurs, state_at, node_keys, number_of, node_place, edge_cut}
use Rattle.exact.specs.Polynomials.{variable, constant, plus, times, negate}
use Rattle.exact.proofs.Ring.{ring}
use Rattle.lattice_laws.specs.Ascending.{Has}
use Rattle.lattice_laws.specs.FiniteTests.{every_case}
use Rattle.lattice_laws.specs.Vectors.{Vector, vector, origin, ◌+ᵥ◌, ◌*ᵥ◌}
use Rattle.lattice_laws.specs.Kinds.{Kind, vector_of}
use Rattle.lattice_laws.proofs.FiniteTests.{each_case}
use Rattle.lattice_laws.proofs.Lists.{all_at_member}
use Rattle.lattice_laws.proofs.Members.{has_map, any_of_member}
use Rattle.lattice_laws.proofs.EdgeSteps.{step_to, direction_of_step}
use Rattle.lattice_laws.proofs.LaterNeighbours.{neighbour_led}
use Rattle.lattice_laws.proofs.Vertices.{vertex_at-id, domain_in}
use Rattle.snap_laws.proofs.CutsLeft.{cuts_left_are_inner}
use Rattle.place_laws.proofs.Between.{leads_by, LeadsBy}
use Rattle.stencil_laws.specs.Cases.{case_pieces}
use Rattle.node_laws.proofs.NumbersLeadBack.{numbers_lead_back}
use Rattle.node_laws.proofs.Padding.{states_are_padded}
use Rattle.node_laws.proofs.Pieces.{lattice_tet_uses_nodes}
use Rattle.node_laws.proofs.Standing.{keys_are_below}
use Rattle.piece_laws.specs.Renaming as at
use Rattle.displacement_laws.specs.Displacements.{displacement}
use Rattle.displacement_laws.proofs.Displacements.{not_moved}
use Rattle.parent_laws.specs.Everywhere.{at_vector, displacement_on, moved_vertex, number_on, cut_on}
use Rattle.parent_laws.specs.Parents.{signs_of, StandsAt, Parent, from_padding, IsNodePlace}
use Rattle.parent_laws.specs.Laws.{NodesStandOnEdges}
use Rattle.piece_laws.proofs.PiecesMeet.{in_slots}
use Rattle.parent_laws.proofs.Everywhere.{at_vertex}
use Rattle.parent_laws.proofs.OrientedPieces.{has_oriented}
use Rattle.parent_laws.proofs.Parents.{state_at_id, pieces_by_keys}

-- ---- the nodes of pieces: four, in slots below 4, and kept
abbrev has_kept_nodes : List Sign → Bool
has_kept_nodes signs = list_all (λ p. length p == 4 && list_all (λ c. in_slots c && is_kept signs c) p) (case_pieces signs)

all_have_kept_nodes : every_case has_kept_nodes ≡ true
unfolding fill kept facets
all_have_kept_nodes = refl

pub record IsPiece (signs : List Sign) (p : List Corner) : Type 0 where
  pub four : length p ≡ 4
  pub nodes : (c : Corner) → Has c p → (in_slots c ≡ true) × (is_kept signs c ≡ true)

pub piece_is : (signs : List Sign) (p : List Corner) → length signs ≡ 4 → Has p (case_pieces signs) → IsPiece signs p
piece_is signs p len m =
    let e = all_at_member (λ p. length p == 4 && list_all (λ c. in_slots c && is_kept signs c) p) (case_pieces signs) p (each_case has_kept_nodes all_have_kept_nodes signs len) m in
    let g = and_parts (length p == 4) _ e in
    record { four = eqb-true _ _ g.0; nodes = λ c k. and_parts (in_slots c) _ (all_at_member (λ c. in_slots c && is_kept signs c) p c g.1 k) }

-- ---- a node's number leads to its place

module _ (f : Field) (s : Shares) where
  -- the key of a node of a piece occurs
  pub key_occurs : (tet : List Vertex) → IsLatticeTet f.dims tet → (p : List Corner) (c : Corner) → Has p (case_pieces (signs_of f s tet)) → Has c p
      → occurs (all_pieces f.dims (states f s)) (corner_key tet (map (id f.dims) tet) c) ≡ true
  key_occurs tet t p c m k =
      let key = corner_key tet (map (id f.dims) tet) in
      lattice_tet_uses_nodes f.dims (states f s) tet (key c) t
      (ap (λ ps. occurs ps (key c)) (pieces_by_keys f s tet t)
      ∙ any_of_member (list_any (λ n. n == key c)) (map key (oriented tet p)) (map (λ p. map key (oriented tet p)) (case_pieces (signs_of f s tet))) (has_map (λ p. map key (oriented tet p)) p (case_pieces (signs_of f s tet)) m)
      (any_of_member (λ n. n == key c) (key c) (map key (oriented tet p)) (has_map key c (oriented tet p) (has_oriented tet c p k)) (eq-eqb (key c) (key c) refl)))

  pub key_below : (key : ℕ) → occurs (all_pieces f.dims (states f s)) key ≡ true → key < 8 * length (vertices f.dims)
  key_below key o = keys_are_below f.dims (states f s) key (states_are_padded f s) o

  -- the place of a number is that of its key
  pub place_of_number : (key : ℕ) → occurs (all_pieces f.dims (states f s)) key ≡ true → place_at (mesh f s).places (number_of (node_keys f.dims (states f s)) key) ≡ node_place f (states f s) key
  unfolding mesh
  place_of_number key o =
      let n = numbers_lead_back f.dims (states f s) in
      let b = key_below key o in
      get_or-map (node_place f (states f s)) (node_keys f.dims (states f s)) (number_of (node_keys f.dims (states f s)) key) 0 (place (pos 0) (pos 0) (pos 0)) (n.below key o b)
      ∙ ap (node_place f (states f s)) (n.back key o b)

  -- ---- the place of a key
  place_of_vertex : (v : Vertex) (key : ℕ) → InDomain f.dims v → key / 8 ≡ id f.dims v → key % 8 ≡ 0 → node_place f (states f s) key ≡ state_place v (state_of f s v)
  unfolding node_place
  place_of_vertex v key k e z =
      (λ i. if z i == 0 then state_place (vertex_at f.dims (e i)) (state_at (states f s) (e i)) else cut_place (vertex_at f.dims (e i)) (z i) (edge_cut f (vertex_at f.dims (e i)) (z i)))
      ∙ (λ i. state_place ((vertex_at-id f.dims v k).1 i) (state_at_id f s v k i))

  place_of_edge : (v : Vertex) (dir key : ℕ) → InDomain f.dims v → key / 8 ≡ id f.dims v → key % 8 ≡ dir → 0 < dir → node_place f (states f s) key ≡ cut_place v dir (edge_cut f v dir)
  unfolding node_place
  place_of_edge v dir key k e z lt =
      (λ i. if z i == 0 then state_place (vertex_at f.dims (e i)) (state_at (states f s) (e i)) else cut_place (vertex_at f.dims (e i)) (z i) (edge_cut f (vertex_at f.dims (e i)) (z i)))
      ∙ (λ i. if not_zero dir lt i then state_place (vertex_at f.dims (id f.dims v)) (state_at (states f s) (id f.dims v)) else cut_place (vertex_at f.dims (id f.dims v)) dir (edge_cut f (vertex_at f.dims (id f.dims v)) dir))
      ∙ (λ i. cut_place ((vertex_at-id f.dims v k).1 i) dir (edge_cut f ((vertex_at-id f.dims v k).1 i) dir))
    where
      not_zero : (n : ℕ) → 0 < n → (n == 0) ≡ false
      not_zero n h = grind (arith, nat_tests)

-- ---- coordinates
moved_coordinate : (a b : ℤ) → b +ℤ pos 8192 ≡ pos 4096 *ℤ a +ℤ (b +ℤ neg_ℤ ((a +ℤ neg_ℤ (pos 2)) *ℤ pos 4096))
moved_coordinate a b =
    ring (a ∷ b ∷ []) (plus (variable 1) (constant (pos 8192))) (plus (times (constant (pos 4096)) (variable 0)) (plus (variable 1) (negate (times (plus (variable 0) (negate (constant (pos 2)))) (constant (pos 4096)))))) refl

cut_coordinate : (a b s k : ℤ) → b ≡ a +ℤ s
    → pos 4096 *ℤ ((((a +ℤ neg_ℤ (pos 2)) *ℤ pos 4096) +ℤ (s *ℤ k)) +ℤ pos 8192) ≡ ((pos 4096 +ℤ neg_ℤ k) *ℤ (pos 4096 *ℤ a)) +ℤ (k *ℤ (pos 4096 *ℤ b))
cut_coordinate a b s k e =
    ring (a ∷ s ∷ k ∷ []) (times (constant (pos 4096)) (plus (plus (times (plus (variable 0) (negate (constant (pos 2)))) (constant (pos 4096))) (times (variable 1) (variable 2))) (constant (pos 8192))))
    (plus (times (plus (constant (pos 4096)) (negate (variable 2))) (times (constant (pos 4096)) (variable 0))) (times (variable 2) (times (constant (pos 4096)) (plus (variable 0) (variable 1))))) refl
    ∙ (λ i. ((pos 4096 +ℤ neg_ℤ k) *ℤ (pos 4096 *ℤ a)) +ℤ (k *ℤ (pos 4096 *ℤ sym e i)))

-- ends of a cut edge stand where they were
first_stands : (v : Vertex) (t u : State) → are_opposite (sign_of_state t) (sign_of_state u) ≡ true → state_place v t ≡ lattice_place v
first_stands v state.Minus u e = refl
first_stands v state.Plus u e = refl
first_stands v (state.Zero edge k) u e = cc

second_stands : (v : Vertex) (t u : State) → are_opposite (sign_of_state t) (sign_of_state u) ≡ true → state_place v u ≡ lattice_place v
second_stands v t state.Minus e = refl
second_stands v t state.Plus e = refl
second_stands v state.Minus (state.Zero edge k) e = cc
second_stands v state.Plus (state.Zero edge k) e = cc
second_stands v (state.Zero edge' k') (state.Zero edge k) e = cc

some_of : {X : Type 0} (P : X → Type 0) (o : Option X) → IsSomeAnd o P → (x : X) × (o ≡ Some x) × P x
some_of P None h = absurd h
some_of P (Some x) h = (x, refl, h)

inner_number : (k : ℕ) → 1 ≤ k → k ≤ 4095 → max 1 (min 4095 k) ≡ k
inner_number k low high = omega arith

-- the id of the vertex in a slot
pub id_slot : (f : Field) (tet : List Vertex) → IsLatticeTet f.dims tet → (a : ℕ) → a < 4 → slice_index (map (id f.dims) tet) a ≡ id f.dims (slot tet a)
id_slot f tet l a h = get_or-map (id f.dims) tet a (vertex 0 0 0) 0 (let e = l.four in omega arith)

module _ (f : Field) (s : Shares) where
  displacement_at : (v : Vertex) → InDomain f.dims v → displacement_on f s (vector_of v) ≡ displacement v (state_of f s v)
  displacement_at v k = at_vertex f.dims origin (λ v. displacement v (state_of f s v)) v k

  number_at : (v w : Vertex) → InDomain f.dims v → InDomain f.dims w → number_on f (vector_of v) (vector_of w) ≡ unwrap_or (cut_number (value f v) (value f w)) 1
  number_at v w k l =
      at_vertex f.dims 1 (λ v. at_vector f.dims 1 (λ t. unwrap_or (cut_number (value f v) (value f t)) 1) (vector_of w)) v k
      ∙ at_vertex f.dims 1 (λ t. unwrap_or (cut_number (value f v) (value f t)) 1) w l

  module _ (tet : List Vertex) (l : IsLatticeTet f.dims tet) (b : Vector) (κ : Kind) (stands : StandsAt f s tet b κ) where
    in_four : (a : ℕ) → a < 4 → a < length tet
    in_four a h = let e = l.four in omega arith

    inside : (a : ℕ) → a < 4 → InDomain f.dims (slot tet a)
    inside a h = l.within a (vertex 0 0 0) (in_four a h)

    sign_slot : (a : ℕ) → a < 4 → sign_at (signs_of f s tet) a ≡ sign_of_state (state_of f s (slot tet a))
    sign_slot a h = get_or-map (λ v. sign_of_state (state_of f s v)) tet a (vertex 0 0 0) Zero (in_four a h)

    whole_stands : (a : ℕ) → a < 4 → from_padding (node_place f (states f s) (corner_key tet (map (id f.dims) tet) (Whole a))) ≡ moved_vertex f s (at.vertex_at b κ a)
    whole_stands a h =
        let v = slot tet a in
        let key = 8 * slice_index (map (id f.dims) tet) a in
        let e = id_slot f tet l a h in
        ap from_padding (place_of_vertex f s v key (inside a h) (omega arith) (omega arith))
        ∙ (λ i. vector (moved_coordinate (pos v.x) (state_place v (state_of f s v)).x i) (moved_coordinate (pos v.y) (state_place v (state_of f s v)).y i) (moved_coordinate (pos v.h) (state_place v (state_of f s v)).z i))
        ∙ (λ i. pos 4096 *ᵥ vector_of v +ᵥ sym (displacement_at v (inside a h)) i)
        ∙ ap (moved_vertex f s) (stands.slots a h)

    module _ (a c : ℕ) (lt : a < c) (hc : c < 4) (opposite : are_opposite (sign_of_state (state_of f s (slot tet a))) (sign_of_state (state_of f s (slot tet c))) ≡ true) where
      ha : a < 4
      ha = omega arith

      abbrev v : Vertex
      v = slot tet a

      abbrev w : Vertex
      w = slot tet c

      still_a : displacement_on f s (at.vertex_at b κ a) ≡ origin
      still_a = ap (displacement_on f s) (sym (stands.slots a ha)) ∙ (displacement_at v (inside a ha) ∙ not_moved v (state_of f s v) (first_stands v (state_of f s v) (state_of f s w) opposite))

      still_c : displacement_on f s (at.vertex_at b κ c) ≡ origin
      still_c = ap (displacement_on f s) (sym (stands.slots c hc)) ∙ (displacement_at w (inside c hc) ∙ not_moved w (state_of f s w) (second_stands w (state_of f s v) (state_of f s w) opposite))

      -- the edge as a step, with its cut
      record CutEdge : Type 0 where
        dir : ℕ
        low : 1 ≤ dir
        high : dir ≤ 7
        known : direction v w ≡ dir
        leads : LeadsBy v w (step dir)
        k : ℕ
        number : edge_cut f v dir ≡ k
        on_vectors : cut_on f (at.vertex_at b κ a) (at.vertex_at b κ c) ≡ pos k

      edge_with : (dir : ℕ) → 1 ≤ dir → dir < 1 + 7 → moved v (step dir) ≡ Some w → neighbour f.dims v dir true ≡ Some w → (k : ℕ) → cut_number (value f v) (value f w) ≡ Some k → (1 ≤ k) × (k ≤ 4095) → CutEdge
      edge_with dir low high leads there k is fits = record {
        dir = dir;
        low = low;
        high = omega arith;
        known = direction_of_step dir v w low high leads;
        leads = leads_by v w (step dir) leads;
        k = k;
        number = ap (λ o. unwrap_or (option_and_then (λ w. cut_number (value f v) (value f w)) o) 0) there ∙ ap (λ o. unwrap_or o 0) is;
        on_vectors =
            (λ i. pos (max 1 (min 4095 (number_on f (sym (stands.slots a ha) i) (sym (stands.slots c hc) i)))))
            ∙ ap (λ n. pos (max 1 (min 4095 n))) (number_at v w (inside a ha) (inside c hc) ∙ ap (λ o. unwrap_or o 1) is)
            ∙ ap pos (inner_number k fits.0 fits.1);
      }

      cut_edge : CutEdge
      cut_edge =
          let up = step_to v w (l.ordered a c (vertex 0 0 0) lt (in_four c hc)) (l.neighbours a c (vertex 0 0 0) lt (in_four c hc)) in
          let high : up.dir ≤ 7 = let h = up.high in omega arith in
          let n = neighbour_led f.dims v w up.dir true up.leads (domain_in f.dims w (inside c hc)) in
          let k = some_of (λ k. (1 ≤ k) × (k ≤ 4095)) (cut_number (value f v) (value f w)) (cuts_left_are_inner f s v w up.dir (inside a ha) up.low high n opposite) in
          edge_with up.dir up.low up.high up.leads n k.0 k.1 k.2

      cut_stands : pos 4096 *ᵥ from_padding (node_place f (states f s) (corner_key tet (map (id f.dims) tet) (Cut a c)))
          ≡ (pos 4096 +ℤ neg_ℤ (cut_on f (at.vertex_at b κ a) (at.vertex_at b κ c))) *ᵥ (pos 4096 *ᵥ at.vertex_at b κ a) +ᵥ cut_on f (at.vertex_at b κ a) (at.vertex_at b κ c) *ᵥ (pos 4096 *ᵥ at.vertex_at b κ c)
      cut_stands =
          let g = cut_edge in
          let key = 8 * slice_index (map (id f.dims) tet) a + direction v w in
          let e = id_slot f tet l a ha in
          let q = parts key (slice_index (map (id f.dims) tet) a) (direction v w) g.dir g.known g.high refl in
          ap (λ p. pos 4096 *ᵥ from_padding p) (place_of_edge f s v g.dir key (inside a ha) (q.0 ∙ e) q.1 g.low ∙ ap (cut_place v g.dir) g.number)
          ∙ (λ i. vector (cut_coordinate (pos v.x) (pos w.x) (step g.dir).x (pos g.k) g.leads.x i) (cut_coordinate (pos v.y) (pos w.y) (step g.dir).y (pos g.k) g.leads.y i) (cut_coordinate (pos v.h) (pos w.h) (step g.dir).h (pos g.k) g.leads.h i))
          ∙ (λ i. (pos 4096 +ℤ neg_ℤ (sym g.on_vectors i)) *ᵥ (pos 4096 *ᵥ stands.slots a ha i) +ᵥ sym g.on_vectors i *ᵥ (pos 4096 *ᵥ stands.slots c hc i))
        where
          parts : (key m d dir : ℕ) → d ≡ dir → dir ≤ 7 → key ≡ 8 * m + d → (key / 8 ≡ m) × (key % 8 ≡ dir)
          parts key m d dir e h k = (omega arith, omega arith)

    -- a kept node stands where it should
    stands_there : (c : Corner) → in_slots c ≡ true → is_kept (signs_of f s tet) c ≡ true → IsNodePlace f s b κ (from_padding (node_place f (states f s) (corner_key tet (map (id f.dims) tet) c))) c
    stands_there (Whole a) h k = let ha = ltb-true a 4 h in (ha, whole_stands a ha)
    stands_there (Cut a c) h k =
        let g = and_parts (nat_lt a c) (nat_lt c 4) h in
        let lt = ltb-true a c g.0 in let hc = ltb-true c 4 g.1 in
        let ha : a < 4 = omega arith in
        let o : are_opposite (sign_of_state (state_of f s (slot tet a))) (sign_of_state (state_of f s (slot tet c))) ≡ true = sym (λ i. are_opposite (sign_slot a ha i) (sign_slot c hc i)) ∙ k in
        (lt, hc, still_a a c lt hc o, still_c a c lt hc o, cut_stands a c lt hc o)

pub parent_in_case : (f : Field) (s : Shares) (t : List ℕ) (o : Parent f s t) → Has o.piece (case_pieces (signs_of f s o.tet))
parent_in_case f s t o = subst (λ signs. Has o.piece (case_pieces signs)) (sym o.stands.signs) o.in_case

pub nodes_stand_on_edges : NodesStandOnEdges
nodes_stand_on_edges f s t o c m =
    let i = parent_in_case f s t o in
    let p = piece_is (signs_of f s o.tet) o.piece (length-map o.tet (λ v. sign_of_state (state_of f s v)) ∙ o.lattice.four) i in
    let n = p.nodes c m in
    subst (λ q. IsNodePlace f s o.base o.kind (from_padding q) c) (sym (place_of_number f s (corner_key o.tet (map (id f.dims) o.tet) c) (key_occurs f s o.tet o.lattice o.piece c i m)))
    (stands_there f s o.tet o.lattice o.base o.kind o.stands c n.0 n.1)
