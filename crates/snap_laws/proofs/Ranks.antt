-- The order of the keys of the cuts at a vertex does not depend on ids.
use Rattle.std.proofs.Common.{◌≡◌, ℕ, zero, suc, ◌+◌, ◌-◌, ◌*◌, ◌<◌, ◌≤◌, inl, inr, arith, refl, sym, ◌∙◌, ap, Bool, true, false, not, ◌||◌, nat_lt, nat_le, nat_eq, Some}
use Rattle.std.specs.Prelude.{if◌then◌else◌}
use Rattle.std.specs.Option.{option_map_or}
use Rattle.std.proofs.lemmas.Bool.Decides.{nat_tests}
use Rattle.std.proofs.lemmas.Bool.{and_parts, leb-true, leb-false}
use Rattle.definitions.specs.declared.Dims.{Dims}
use Rattle.definitions.specs.declared.Vertex.{Vertex}
use Rattle.definitions.specs.Lattice.{InDomain, neighbour, moved, step, before, id, key, are_neighbours}
use Rattle.definitions.specs.States.{is_up, direction_of}
use Rattle.lattice_laws.specs.FiniteTests.{below}
use Rattle.lattice_laws.proofs.Booleans.{implied}
use Rattle.lattice_laws.proofs.FiniteTests.{below_at}
use Rattle.lattice_laws.proofs.Lists.{tests_of_order, compared}
use Rattle.lattice_laws.proofs.Steps.{after_step_1, after_step_2, after_step_3, after_step_4, after_step_5, after_step_6, after_step_7}
use Rattle.lattice_laws.proofs.LaterNeighbours.{neighbour_leads, steps_lead_later}
use Rattle.lattice_laws.proofs.EdgeSteps.{from_back}
use Rattle.lattice_laws.proofs.Vertices.{domain_out, id_before}
use Rattle.lattice_laws.proofs.Directions.{Offset, before_by_offset, before_at}
use Rattle.snap_laws.specs.Around.{rank}

-- where the vertex below v in a direction stands from v: two more than its numbers are greater
abbrev off_h : ℕ → ℕ
off_h dir = if nat_le dir 2 then 2 else if nat_le dir 6 then 1 else 0

abbrev off_y : ℕ → ℕ
off_y dir = if nat_eq dir 2 then 0 else if nat_eq dir 3 then 3 else if nat_eq dir 4 then 3 else if nat_eq dir 5 then 1 else if nat_eq dir 6 then 1 else 2

abbrev off_x : ℕ → ℕ
off_x dir = if nat_eq dir 1 then 0 else if nat_eq dir 3 then 3 else if nat_eq dir 4 then 1 else if nat_eq dir 5 then 3 else if nat_eq dir 6 then 1 else 2

stands_below : (dir : ℕ) (v w : Vertex) → 1 ≤ dir → dir < 1 + 7 → moved w (step dir) ≡ Some v → Offset v w (off_h dir) (off_y dir) (off_x dir)
stands_below zero v w h k e = absurd (omega arith)
stands_below (suc zero) v w h k e = let p = after_step_1 w v e in record { by_h = omega arith; by_y = omega arith; by_x = omega arith }
stands_below (suc (suc zero)) v w h k e = let p = after_step_2 w v e in record { by_h = omega arith; by_y = omega arith; by_x = omega arith }
stands_below (suc (suc (suc zero))) v w h k e = let p = after_step_3 w v e in record { by_h = omega arith; by_y = omega arith; by_x = omega arith }
stands_below (suc (suc (suc (suc zero)))) v w h k e = let p = after_step_4 w v e in record { by_h = omega arith; by_y = omega arith; by_x = omega arith }
stands_below (suc (suc (suc (suc (suc zero))))) v w h k e = let p = after_step_5 w v e in record { by_h = omega arith; by_y = omega arith; by_x = omega arith }
stands_below (suc (suc (suc (suc (suc (suc zero)))))) v w h k e = let p = after_step_6 w v e in record { by_h = omega arith; by_y = omega arith; by_x = omega arith }
stands_below (suc (suc (suc (suc (suc (suc (suc zero))))))) v w h k e = let p = after_step_7 w v e in record { by_h = omega arith; by_y = omega arith; by_x = omega arith }
stands_below (suc (suc (suc (suc (suc (suc (suc (suc j)))))))) v w h k e = absurd (omega arith)

-- the vertices below v ascend as their directions go down
abbrev descend_test : ℕ → ℕ → Bool
descend_test i j = not (nat_le 1 j) || before_at (off_h i) (off_y i) (off_x i) (off_h j) (off_y j) (off_x j)

all_descend : below 8 (λ i. below i (λ j. descend_test i j)) ≡ true
all_descend = refl

below_descend : (i j : ℕ) (v u w : Vertex) → 1 ≤ j → j < i → i < 1 + 7 → moved u (step i) ≡ Some v → moved w (step j) ≡ Some v → before u w ≡ true
below_descend i j v u w h k l e f =
    before_by_offset v u w (off_h i) (off_y i) (off_x i) (off_h j) (off_y j) (off_x j) (stands_below i v u (omega arith) l e) (stands_below j v w h (omega arith) f)
    ∙ implied (nat_le 1 j) (before_at (off_h i) (off_y i) (off_x i) (off_h j) (off_y j) (off_x j)) (below_at i (λ j. descend_test i j) (below_at 8 (λ i. below i (λ j. descend_test i j)) all_descend i (omega arith)) j k) (at_least j h)
  where
    at_least : (j : ℕ) → 1 ≤ j → nat_le 1 j ≡ true
    at_least j h = grind (arith, nat_tests)

module _ (d : Dims) (v : Vertex) (inside : InDomain d v) where
  -- the key of the cut on an edge of v, 0 where the edge is not there
  abbrev pub key_of : ℕ → ℕ
  key_of edge = if is_up edge then key d v (direction_of edge) else option_map_or (λ w. key d w (direction_of edge)) (neighbour d v (direction_of edge) false) 0

  -- an edge of v: its number, and its other end
  pub record IsEdge (edge : ℕ) (w : Vertex) : Type 0 where
    pub low : 1 ≤ edge
    pub high : edge ≤ 14
    pub leads : neighbour d v (direction_of edge) (is_up edge) ≡ Some w

  data Side (edge : ℕ) (w : Vertex) : Type 0 where
    upwards : edge ≤ 7 → key_of edge ≡ 8 * id d v + edge → rank edge ≡ edge + 7 → Side edge w
    downwards : 8 ≤ edge → key_of edge ≡ 8 * id d w + (edge - 7) → rank edge ≡ 15 - edge → moved w (step (edge - 7)) ≡ Some v → InDomain d w → Side edge w

  side : (edge : ℕ) (w : Vertex) → IsEdge edge w → Side edge w
  side edge w k = go (is_up edge) refl
    where
      go : (b : Bool) → is_up edge ≡ b → Side edge w
      go true e =
          upwards (leb-true edge 7 e)
          (λ i. if e i then 8 * id d v + (if e i then edge else edge - 7) else option_map_or (λ u. key d u (direction_of edge)) (neighbour d v (direction_of edge) false) 0)
          (λ i. if e i then edge + 7 else 15 - edge)
      go false e =
          let n : neighbour d v (edge - 7) false ≡ Some w = sym (λ i. neighbour d v (if e i then edge else edge - 7) (e i)) ∙ k.leads in
          let l = neighbour_leads d v w (edge - 7) false n in
          let low : 7 < edge = leb-false edge 7 e in
          let high = k.high in
          downwards (omega arith)
          ((λ i. if e i then key d v (direction_of edge) else option_map_or (λ u. 8 * id d u + (if e i then edge else edge - 7)) (neighbour d v (if e i then edge else edge - 7) false) 0)
          ∙ ap (λ o. option_map_or (λ u. 8 * id d u + (edge - 7)) o 0) n)
          (λ i. if e i then edge + 7 else 15 - edge)
          (from_back (edge - 7) v w (omega arith) (omega arith) l.0) (domain_out d w l.1)

  id_below : (edge : ℕ) (w : Vertex) → 8 ≤ edge → edge ≤ 14 → moved w (step (edge - 7)) ≡ Some v → InDomain d w → id d w < id d v
  id_below edge w low high e h = id_before d w v h inside (and_parts (before w v) (are_neighbours w v) (steps_lead_later (edge - 7) w v (omega arith) (omega arith) e)).0

  keys_rise : (e e' : ℕ) (w w' : Vertex) → IsEdge e w → IsEdge e' w' → rank e < rank e' → key_of e < key_of e'
  keys_rise e e' w w' k k' lt = elim (side e w k) [
    | upwards a b c ↦ elim (side e' w' k') [
      | upwards a' b' c' ↦ omega arith
      | downwards a' b' c' m' h' ↦ absurd (omega arith)
    ]
    | downwards a b c m h ↦ elim (side e' w' k') [
      | upwards a' b' c' ↦ (let i = id_below e w a k.high m h in let l = k.high in let l' = k'.low in omega arith)
      | downwards a' b' c' m' h' ↦
          (let l = k.high in let l' = k'.high in
          let i = id_before d w w' h h' (below_descend (e - 7) (e' - 7) v w w' (omega arith) (omega arith) (omega arith) m m') in
          omega arith)
    ]
  ]

  same_edge : (e e' : ℕ) (w w' : Vertex) → IsEdge e w → IsEdge e' w' → rank e ≡ rank e' → e ≡ e'
  same_edge e e' w w' k k' q = elim (side e w k) [
    | upwards a b c ↦ elim (side e' w' k') [
      | upwards a' b' c' ↦ omega arith
      | downwards a' b' c' m' h' ↦ absurd (omega arith)
    ]
    | downwards a b c m h ↦ elim (side e' w' k') [
      | upwards a' b' c' ↦ (let l = k.high in let l' = k'.low in absurd (omega arith))
      | downwards a' b' c' m' h' ↦ (let l = k.high in let l' = k'.high in omega arith)
    ]
  ]

  -- keys stand as ranks do
  pub keys_by_rank : (e e' : ℕ) (w w' : Vertex) → IsEdge e w → IsEdge e' w' → nat_lt (key_of e) (key_of e') ≡ nat_lt (rank e) (rank e')
  keys_by_rank e e' w w' k k' = tests_of_order (rank e) (rank e') (key_of e) (key_of e') (keys_rise e e' w w' k k') back
    where
      back : rank e' ≤ rank e → key_of e' ≤ key_of e
      back le = elim (compared (rank e') (rank e)) [
        | inl lt ↦ (let r = keys_rise e' e w' w k' k lt in omega arith)
        | inr rest ↦ elim rest [
          | inl q ↦ (let r : key_of e' ≡ key_of e = ap key_of (same_edge e' e w' w k' k q) in omega arith)
          | inr gt ↦ absurd (omega arith)
        ]
      ]
