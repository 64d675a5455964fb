-- What the signs around a vertex say of its nodes is what occurs in the mesh, whatever states of all vertices agree with those that are told.
use Rattle.std.proofs.Common.{◌≡◌, ℕ, zero, suc, ◌+◌, ◌*◌, ◌/◌, ◌%◌, ◌<◌, ◌≤◌, Bool, true, false, ◌||◌, List, ◌∷◌, map, Option, Some, None, if◌then◌else◌, nat_eq, arith, refl, sym, ap, ◌∙◌}
use Rattle.std.specs.List.{list_any, range_with_len}
use Rattle.std.specs.Option.{option_map, option_map_or}
use Rattle.std.proofs.lemmas.Bool.Decides.{nat_tests}
use Rattle.std.proofs.lemmas.List.Folds.{list_any-append}
use Rattle.definitions.specs.declared.Dims.{Dims}
use Rattle.definitions.specs.declared.Vertex.{Vertex}
use Rattle.definitions.specs.declared.State.{State}
use Rattle.definitions.specs.declared.State.TheVariants as state
use Rattle.definitions.specs.Lattice.{InDomain, id, neighbour, vertex_at}
use Rattle.definitions.specs.Cuts.{are_opposite}
use Rattle.definitions.specs.States.{sign_of_state}
use Rattle.definitions.specs.Mesh.{all_pieces, occurs, ArePadded}
use Rattle.lattice_laws.proofs.Vertices.{vertex_at-id}
use Rattle.node_laws.specs.Used.{is_plus_state, plus_on, cut_on, vertex_used, used_at, told}
use Rattle.node_laws.proofs.UsedNodes.{used_nodes_occur, plus_state}
use Rattle.vertex_numbers.specs.Around.{sign_towards, signs_towards, is_plus_there, has_plus_there, crosses, is_node, node_towards, nodes_of, pieces_up, pieces_from}
use Rattle.vertex_numbers.specs.Sources.{Agrees, KnowsAround}
use Rattle.vertex_numbers.proofs.Neighbours.{near}

-- ---- the words of the laws, by the signs around a vertex
-- equal maps of two ranges
pub map_ranges : {X : Type 0} (p q : ℕ → X) (a b n : ℕ) → ((k : ℕ) → k < n → p (a + k) ≡ q (b + k)) → map p (range_with_len a n) ≡ map q (range_with_len b n)
map_ranges p q a b zero h = refl
map_ranges p q a b (suc n) h =
    λ i. (ap p (less a) ∙ h 0 (omega arith) ∙ ap q (sym (less b))) i
    ∷ map_ranges p q (a + 1) (b + 1) n (λ k lt. ap p (next a k) ∙ h (suc k) (omega arith) ∙ ap q (sym (next b k))) i
  where
    less : (a : ℕ) → a ≡ a + 0
    less a = omega arith

    next : (a k : ℕ) → a + 1 + k ≡ a + suc k
    next a k = omega arith

module _ (d : Dims) (t : Vertex → State) where
  plus_there : (o : Option Vertex) → option_map_or (λ w. is_plus_state (t w)) o false ≡ is_plus_there (option_map (λ w. sign_of_state (t w)) o)
  plus_there None = refl
  plus_there (Some w) = plus_state (t w)

  crossed : (v : Vertex) (o : Option Vertex) → option_map_or (λ w. are_opposite (sign_of_state (t v)) (sign_of_state (t w))) o false ≡ crosses (sign_of_state (t v)) (option_map (λ w. sign_of_state (t w)) o)
  crossed v None = refl
  crossed v (Some w) = refl

  plus_beside : (v : Vertex) → list_any (plus_on d t v) (range_with_len 1 14) ≡ (has_plus_there (signs_towards d t v true) || has_plus_there (signs_towards d t v false))
  plus_beside v =
      list_any-append (plus_on d t v) (range_with_len 1 7) (range_with_len 8 7)
      ∙ (λ i. (at 1 true i || (at 2 true i || (at 3 true i || (at 4 true i || (at 5 true i || (at 6 true i || (at 7 true i || false)))))))
      || (at 1 false i || (at 2 false i || (at 3 false i || (at 4 false i || (at 5 false i || (at 6 false i || (at 7 false i || false))))))))
    where
      at : (dir : ℕ) (up : Bool) → option_map_or (λ w. is_plus_state (t w)) (neighbour d v dir up) false ≡ is_plus_there (sign_towards d t v up dir)
      at dir up = plus_there (neighbour d v dir up)

  vertex_same : (v : Vertex) (s : State) → vertex_used d t v s ≡ is_node (sign_of_state s) (has_plus_there (signs_towards d t v true) || has_plus_there (signs_towards d t v false))
  vertex_same v state.Minus = refl
  vertex_same v state.Plus = refl
  vertex_same v (state.Zero edge k) = plus_beside v

  used_same : (v : Vertex) → InDomain d v → (k : ℕ) → k < 8 → used_at d t (8 * id d v + k) ≡ node_towards d t v k
  used_same v inside k lt =
      let q : (8 * id d v + k) / 8 ≡ id d v = omega arith in
      let r : (8 * id d v + k) % 8 ≡ k = omega arith in
      let p : vertex_at d ((8 * id d v + k) / 8) ≡ v = ap (vertex_at d) q ∙ (vertex_at-id d v inside).1 in
      (λ i. if nat_eq (r i) 0 then vertex_used d t (p i) (t (p i)) else cut_on d t (p i) (r i))
      ∙ (λ i. if nat_eq k 0 then vertex_same v (t v) i else crossed v (neighbour d v k true) i)

-- ---- states that agree with what is told

module _ (d : Dims) (knows : ℕ → Type 0) (t : Vertex → State) (ss : List State) (agrees : Agrees d knows t ss) (v : Vertex) (inside : InDomain d v) (known : KnowsAround d knows v.h) where
  own : t v ≡ told d ss v
  own = sym (agrees v inside (known v.h inside.h_below (omega arith) (omega arith)))

  towards : (up : Bool) (dir : ℕ) → 1 ≤ dir → dir ≤ 7 → sign_towards d t v up dir ≡ sign_towards d (told d ss) v up dir
  towards up dir low high = go (neighbour d v dir up) refl
    where
      go : (o : Option Vertex) → neighbour d v dir up ≡ o → option_map (λ w. sign_of_state (t w)) o ≡ option_map (λ w. sign_of_state (told d ss w)) o
      go None e = refl
      go (Some w) e =
          let n = near d v w dir up low high e in
          let i = n.inside in
          ap (λ s. Some (sign_of_state s)) (sym (agrees w n.inside (known w.h i.h_below n.above n.below)))

  all_towards : (up : Bool) → signs_towards d t v up ≡ signs_towards d (told d ss) v up
  all_towards up = map_ranges (sign_towards d t v up) (sign_towards d (told d ss) v up) 1 1 7 (λ k lt. towards up (1 + k) (omega arith) (omega arith))

  node_same : (dir : ℕ) → dir < 8 → node_towards d t v dir ≡ node_towards d (told d ss) v dir
  node_same dir lt =
      if_alike (nat_eq dir 0) (λ i. is_node (sign_of_state (own i)) (has_plus_there (all_towards true i) || has_plus_there (all_towards false i)))
      (λ e. λ i. crosses (sign_of_state (own i)) (towards true dir (not_zero dir e) (omega arith) i))
    where
      not_zero : (n : ℕ) → nat_eq n 0 ≡ false → 1 ≤ n
      not_zero n e = grind (arith, nat_tests)

      if_alike : (b : Bool) {x x' y y' : Bool} → x ≡ x' → (b ≡ false → y ≡ y') → (if b then x else y) ≡ (if b then x' else y')
      if_alike true h k = h
      if_alike false h k = k refl

  pub pieces_same : pieces_from d t v ≡ pieces_from d (told d ss) v
  pieces_same = λ i. pieces_up (sign_of_state (own i)) (all_towards true i)

  -- the nodes at the vertex
  pub node_occurs : ArePadded d ss → (dir : ℕ) → dir < 8 → node_towards d t v dir ≡ occurs (all_pieces d ss) (8 * id d v + dir)
  node_occurs padded dir lt =
      let b = (vertex_at-id d v inside).0 in
      node_same dir lt ∙ sym (used_same d (told d ss) v inside dir lt) ∙ used_nodes_occur d ss padded (8 * id d v + dir) (omega arith)

  pub nodes_occur : ArePadded d ss → nodes_of d t v ≡ map (occurs (all_pieces d ss)) (range_with_len (8 * id d v) 8)
  nodes_occur padded = map_ranges (node_towards d t v) (occurs (all_pieces d ss)) 0 (8 * id d v) 8 (λ k lt. ap (node_towards d t v) (let e : 0 + k ≡ k = omega arith in e) ∙ node_occurs padded k lt)
