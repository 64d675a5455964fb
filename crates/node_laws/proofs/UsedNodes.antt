-- The test that the code computes from states is true exactly of the keys that occur in the mesh.
use Rattle.std.proofs.Common.{◌≡◌, ◌⊎◌, ℕ, ◌+◌, ◌-◌, ◌*◌, ◌/◌, ◌%◌, ◌<◌, ◌≤◌, Bool, true, false, List, length, get_or, Option, Some, None, if◌then◌else◌, nat_eq, refl, sym, ap, ◌∙◌, arith, inl, inr}
use Rattle.std.specs.List.{list_any, range_with_len}
use Rattle.std.specs.Option.{option_map_or}
use Rattle.std.proofs.lemmas.Bool.{eqb-true, eq-eqb, and_parts}
use Rattle.std.proofs.lemmas.Bool.Decides.{nat_tests}
use Rattle.std.proofs.lemmas.List.Folds.{list_any_at}
use Rattle.std.proofs.lemmas.List.FromFn.{get_or-range_with_len, length-range_with_len}
use Rattle.list_words.proofs.Tests.{same_tests}
use Rattle.list_words.proofs.Lists.{place_where}
use Rattle.definitions.specs.declared.Dims.{Dims}
use Rattle.definitions.specs.declared.Vertex.{Vertex}
use Rattle.definitions.specs.declared.State.{State}
use Rattle.definitions.specs.declared.State.TheVariants as state
use Rattle.definitions.specs.Lattice.{InDomain, id, before, are_neighbours, neighbour, moved, step, directed, vertices, vertex_at}
use Rattle.definitions.specs.Cuts.{are_opposite}
use Rattle.definitions.specs.States.{sign_of_state, direction_of, is_up}
use Rattle.definitions.specs.Stencils.{is_plus, is_minus}
use Rattle.lattice_laws.proofs.Vertices.{domain_out, domain_in, id-vertex_at, vertex_at-id, from_vertices}
use Rattle.lattice_laws.proofs.Sublists.{has_at}
use Rattle.lattice_laws.proofs.EdgeSteps.{StepTo, step_to, direction_of_step, back_from, from_back}
use Rattle.lattice_laws.proofs.LaterNeighbours.{neighbour_to, steps_lead_later, neighbour_leads, neighbour_led}
use Rattle.lattice_laws.proofs.EdgeTetrahedra.{neighbours_sym, one_before}
use Rattle.node_laws.specs.Used.{is_plus_state, plus_on, cut_on, vertex_used, used_at, told}
use Rattle.node_laws.specs.Reasons.{Reason, plus, beside, crossed, sign}
use Rattle.node_laws.specs.Laws.{UsedNodesOccur}
use Rattle.node_laws.proofs.NodesOfTheMesh.{nodes_have_reasons}

-- ---- edges at a vertex

pub plus_state : (s : State) → is_plus_state s ≡ is_plus (sign_of_state s)
plus_state state.Minus = refl
plus_state state.Plus = refl
plus_state (state.Zero edge k) = refl

-- neighbours, whichever stands first
abbrev pub Beside : Vertex → Vertex → Type 0
Beside v w = (are_neighbours v w ≡ true) ⊎ (are_neighbours w v ≡ true)

-- the neighbour on an edge 1 to 14
pub on_edge : (d : Dims) (v w : Vertex) (e : ℕ) → 1 ≤ e → e ≤ 14 → neighbour d v (direction_of e) (is_up e) ≡ Some w → InDomain d w × Beside v w
on_edge d v w e lo hi f =
    let n = neighbour_leads d v w (direction_of e) (is_up e) f in
    (domain_out d w n.1, near_by (is_up e) refl n.0)
  where
    near_by : (b : Bool) → is_up e ≡ b → moved v (directed b (step (if b then e else e - 7))) ≡ Some w → Beside v w
    near_by true f m = inl (and_parts (before v w) (are_neighbours v w) (steps_lead_later e v w lo (let g : e ≤ 7 = grind (arith, nat_tests) in omega arith) m)).1
    near_by false f m =
        let g : 7 < e = grind (arith, nat_tests) in
        inr (and_parts (before w v) (are_neighbours w v) (steps_lead_later (e - 7) w v (omega arith) (omega arith) (from_back (e - 7) v w (omega arith) (omega arith) m))).1

module _ (d : Dims) (ss : List State) where
  -- a Plus neighbour on an edge
  pub record PlusBeside (v : Vertex) : Type 0 where
    pub other : Vertex
    pub within : InDomain d other
    pub near : Beside v other
    pub is_above : is_plus (sign d ss other) ≡ true

  plus_beside : (v : Vertex) (e : ℕ) → 1 ≤ e → e ≤ 14 → plus_on d (told d ss) v e ≡ true → PlusBeside v
  plus_beside v e lo hi h = found (neighbour d v (direction_of e) (is_up e)) refl h
    where
      found : (o : Option Vertex) → neighbour d v (direction_of e) (is_up e) ≡ o → option_map_or (λ w. is_plus_state (told d ss w)) o false ≡ true → PlusBeside v
      found None f h = cc
      found (Some w) f h = let n = on_edge d v w e lo hi f in record { other = w; within = n.0; near = n.1; is_above = sym (plus_state (told d ss w)) ∙ h }

  -- an edge with a Plus neighbour on it
  at_edge : (v : Vertex) (e : ℕ) → 1 ≤ e → e ≤ 14 → plus_on d (told d ss) v e ≡ true → list_any (plus_on d (told d ss) v) (range_with_len 1 14) ≡ true
  at_edge v e lo hi h =
      let l = length-range_with_len 1 14 in
      let g : get_or (range_with_len 1 14) (e - 1) 0 ≡ e = get_or-range_with_len 1 14 (e - 1) 0 (omega arith) ∙ (let f : 1 + (e - 1) ≡ e = omega arith in f) in
      list_any_at (plus_on d (told d ss) v) (range_with_len 1 14) (e - 1) 0 (omega arith) (ap (plus_on d (told d ss) v) g ∙ h)

  up_edge : (v w : Vertex) → InDomain d w → is_plus (sign d ss w) ≡ true → StepTo v w → list_any (plus_on d (told d ss) v) (range_with_len 1 14) ≡ true
  up_edge v w k p s =
      let lo = s.low in let hi = s.high in
      let up : is_up s.dir ≡ true = grind (arith, nat_tests) in
      at_edge v s.dir lo (omega arith)
      ((λ i. option_map_or (λ u. is_plus_state (told d ss u)) (neighbour d v (if up i then s.dir else s.dir - 7) (up i)) false)
      ∙ ((λ i. option_map_or (λ u. is_plus_state (told d ss u)) (neighbour_led d v w s.dir true s.leads (domain_in d w k) i) false) ∙ (plus_state (told d ss w) ∙ p)))

  down_edge : (v w : Vertex) → InDomain d w → is_plus (sign d ss w) ≡ true → StepTo w v → list_any (plus_on d (told d ss) v) (range_with_len 1 14) ≡ true
  down_edge v w k p s =
      let lo = s.low in let hi = s.high in
      let up : is_up (s.dir + 7) ≡ false = grind (arith, nat_tests) in
      let dir : s.dir + 7 - 7 ≡ s.dir = omega arith in
      at_edge v (s.dir + 7) (omega arith) (omega arith)
      ((λ i. option_map_or (λ u. is_plus_state (told d ss u)) (neighbour d v (if up i then s.dir + 7 else s.dir + 7 - 7) (up i)) false)
      ∙ ((λ i. option_map_or (λ u. is_plus_state (told d ss u)) (neighbour d v (dir i) false) false)
      ∙ ((λ i. option_map_or (λ u. is_plus_state (told d ss u)) (neighbour_led d v w s.dir false (back_from s.dir v w lo hi s.leads) (domain_in d w k) i) false) ∙ (plus_state (told d ss w) ∙ p))))

  edge_beside : (v w : Vertex) → InDomain d w → is_plus (sign d ss w) ≡ true → Beside v w → list_any (plus_on d (told d ss) v) (range_with_len 1 14) ≡ true
  edge_beside v w k p (inl n) = elim (one_before v w n) [
    | inl b ↦ up_edge v w k p (step_to v w b n)
    | inr b ↦ down_edge v w k p (step_to w v b (sym (neighbours_sym v w) ∙ n))
  ]
  edge_beside v w k p (inr n) = elim (one_before w v n) [
    | inl b ↦ down_edge v w k p (step_to w v b n)
    | inr b ↦ up_edge v w k p (step_to v w b (sym (neighbours_sym w v) ∙ n))
  ]

  -- ---- from the test to a reason and back

  module _ (key : ℕ) (lt : key < 8 * length (vertices d)) where
    here : Vertex
    here = vertex_at d (key / 8)

    place_lt : key / 8 < length (vertices d)
    place_lt = omega arith

    inside : InDomain d here
    unfolding here
    inside = from_vertices d (vertex_at d (key / 8)) (has_at (vertices d) (key / 8) _ place_lt)

    id_here : id d here ≡ key / 8
    unfolding here
    id_here = id-vertex_at d (key / 8) place_lt

    vertex_reason : key % 8 ≡ 0 → (s : State) → told d ss here ≡ s → vertex_used d (told d ss) here s ≡ true → Reason d ss key
    vertex_reason z state.Minus f h = cc
    vertex_reason z state.Plus f h = plus here inside (let g = id_here in omega arith) (ap (λ t. is_plus (sign_of_state t)) f)
    vertex_reason z (state.Zero edge k) f h =
        let l = length-range_with_len 1 14 in
        let r = place_where (plus_on d (told d ss) here) (range_with_len 1 14) 0 h in
        let g = get_or-range_with_len 1 14 r.0 0 (omega arith) in
        let q = plus_beside here (1 + r.0) (omega arith) (omega arith) (ap (plus_on d (told d ss) here) (sym g) ∙ r.2) in
        beside here q.other inside q.within (let g = id_here in omega arith) (ap (λ t. is_minus (sign_of_state t)) f) q.near q.is_above

    cut_reason : 1 ≤ key % 8 → (o : Option Vertex) → neighbour d here (key % 8) true ≡ o → option_map_or (λ w. are_opposite (sign_of_state (told d ss here)) (sign_of_state (told d ss w))) o false ≡ true → Reason d ss key
    cut_reason z None f h = cc
    cut_reason z (Some w) f h =
        let n = neighbour_to d here w (key % 8) f in
        let s = and_parts (before here w) (are_neighbours here w) (steps_lead_later (key % 8) here w z (omega arith) n.0) in
        let e = direction_of_step (key % 8) here w z (omega arith) n.0 in
        crossed here w inside (domain_out d w n.1) (let g = id_here in omega arith) s.1 s.0 h

    to_reason : used_at d (told d ss) key ≡ true → Reason d ss key
    unfolding here
    to_reason h = go (nat_eq (key % 8) 0) refl h
      where
        not_zero : (n : ℕ) → nat_eq n 0 ≡ false → 1 ≤ n
        not_zero n e = grind (arith, nat_tests)

        go : (b : Bool) → nat_eq (key % 8) 0 ≡ b → (if b then vertex_used d (told d ss) (vertex_at d (key / 8)) (told d ss (vertex_at d (key / 8))) else cut_on d (told d ss) (vertex_at d (key / 8)) (key % 8)) ≡ true → Reason d ss key
        go true e h = vertex_reason (eqb-true (key % 8) 0 e) (told d ss (vertex_at d (key / 8))) refl h
        go false e h = cut_reason (not_zero (key % 8) e) (neighbour d (vertex_at d (key / 8)) (key % 8) true) refl h

    at_vertex : (v : Vertex) → InDomain d v → key ≡ 8 * id d v → used_at d (told d ss) key ≡ vertex_used d (told d ss) v (told d ss v)
    at_vertex v k e =
        let z : nat_eq (key % 8) 0 ≡ true = eq-eqb (key % 8) 0 (omega arith) in
        let q : key / 8 ≡ id d v = omega arith in
        let p : vertex_at d (key / 8) ≡ v = ap (vertex_at d) q ∙ (vertex_at-id d v k).1 in
        λ i. if z i then vertex_used d (told d ss) (p i) (told d ss (p i)) else cut_on d (told d ss) (p i) (key % 8)

    at_cut : (u : Vertex) (dir : ℕ) → InDomain d u → 1 ≤ dir → dir < 1 + 7 → key ≡ 8 * id d u + dir → used_at d (told d ss) key ≡ cut_on d (told d ss) u dir
    at_cut u dir k lo hi e =
        let r : key % 8 ≡ dir = omega arith in
        let z : nat_eq (key % 8) 0 ≡ false = not_zero (key % 8) (omega arith) in
        let q : key / 8 ≡ id d u = omega arith in
        let p : vertex_at d (key / 8) ≡ u = ap (vertex_at d) q ∙ (vertex_at-id d u k).1 in
        λ i. if z i then vertex_used d (told d ss) (p i) (told d ss (p i)) else cut_on d (told d ss) (p i) (r i)
      where
        not_zero : (n : ℕ) → 1 ≤ n → nat_eq n 0 ≡ false
        not_zero n e = grind (arith, nat_tests)

    used_plus : (v : Vertex) (s : State) → is_plus (sign_of_state s) ≡ true → vertex_used d (told d ss) v s ≡ true
    used_plus v state.Minus h = cc
    used_plus v state.Plus h = refl
    used_plus v (state.Zero edge k) h = cc

    used_beside : (v : Vertex) (s : State) → is_minus (sign_of_state s) ≡ false → list_any (plus_on d (told d ss) v) (range_with_len 1 14) ≡ true → vertex_used d (told d ss) v s ≡ true
    used_beside v state.Minus m h = cc
    used_beside v state.Plus m h = refl
    used_beside v (state.Zero edge k) m h = h

    from_reason : Reason d ss key → used_at d (told d ss) key ≡ true
    from_reason (plus v k e p) = at_vertex v k e ∙ used_plus v (told d ss v) p
    from_reason (beside v w k l e m n p) = at_vertex v k e ∙ used_beside v (told d ss v) m (edge_beside v w l p n)
    from_reason (crossed u w k l e n b o) =
        let s = step_to u w b n in
        let f = direction_of_step s.dir u w s.low s.high s.leads in
        at_cut u s.dir k s.low s.high (omega arith)
        ∙ ((λ i. option_map_or (λ v. are_opposite (sign_of_state (told d ss u)) (sign_of_state (told d ss v))) (neighbour_led d u w s.dir true s.leads (domain_in d w l) i) false) ∙ o)

-- what is read off the states is what occurs
pub used_nodes_occur : UsedNodesOccur
used_nodes_occur d ss padded key lt =
    let r = nodes_have_reasons d ss padded key in
    same_tests _ _ (λ h. r.1 (to_reason d ss key lt h)) (λ h. from_reason d ss key lt (r.0 h))
