-- Why a key occurs: what the neighbours of its vertex say.
use Rattle.std.proofs.Common.{inl, inr, ◌⊎◌, ◌≡◌, ◌≢◌, ℕ, ◌+◌, ◌*◌, ◌/◌, ◌<◌, Bool, true, false, not, ◌&&◌, ◌||◌, ◌==◌, nat_lt, List, length, map, refl, sym, ap, ◌∙◌, arith, add-zero}
use Rattle.std.specs.Prelude.{slice_index}
use Rattle.std.specs.List.{list_any}
use Rattle.std.proofs.lemmas.Bool.{cases_lt}
use Rattle.std.proofs.lemmas.Bool.Decides.{nat_tests}
use Rattle.std.proofs.lemmas.List.{get_or-map}
use Rattle.std.proofs.Math.Nat.{eq-or-lt_of_le}
use Rattle.definitions.specs.declared.Dims.{Dims}
use Rattle.definitions.specs.declared.Vertex.{Vertex}
use Rattle.definitions.specs.declared.State.{State}
use Rattle.definitions.specs.declared.Sign.{Sign}
use Rattle.definitions.specs.declared.Sign.TheVariants.{Minus, Zero, Plus}
use Rattle.definitions.specs.declared.Corner.{Corner}
use Rattle.definitions.specs.declared.Corner.TheVariants.{Whole, Cut}
use Rattle.definitions.specs.Cuts.{are_opposite}
use Rattle.definitions.specs.Lattice.{InDomain, id, vertex, direction, are_neighbours}
use Rattle.definitions.specs.Tetrahedra.{IsLatticeTet}
use Rattle.definitions.specs.Stencils.{is_plus, is_minus, has_plus, is_kept, corners, sign_at, same_corner, kept}
use Rattle.definitions.specs.States.{sign_of_state}
use Rattle.definitions.specs.Pieces.{corner_key, slot}
use Rattle.definitions.specs.Mesh.{occurs, tet_pieces, state_at}
use Rattle.node_laws.specs.Reasons.{Reason, plus, beside, crossed, sign}
use Rattle.lattice_laws.proofs.KeyOrder.{keys_ascend, tet_ids_rise}
use Rattle.lattice_laws.proofs.Directions.{direction_known}
use Rattle.node_laws.proofs.KeptNodes.{occurs_kept, found}
use Rattle.lattice_laws.specs.FiniteTests.{below}
use Rattle.lattice_laws.proofs.FiniteTests.{below_at}
use Rattle.std.proofs.lemmas.List.Folds.{list_any_at}
use Rattle.std.proofs.lemmas.Bool.{eqb-true, ltb-true, eq-eqb, and_parts, not-true}
use Rattle.std.proofs.lemmas.List.{length-map}
use Rattle.list_words.proofs.Lists.{place_where}
use Rattle.lattice_laws.proofs.Booleans.{implied}
use Rattle.lattice_laws.proofs.Lists.{any_map, any_filter, pick}

abbrev pub in_slots : Corner → Bool
in_slots (Whole a) = nat_lt a 4
in_slots (Cut a b) = nat_lt a b && nat_lt b 4

all_so : (a b c : Bool) → a ≡ true → b ≡ true → c ≡ true → ((a && b) && c) ≡ true
all_so true true true p q r = refl
all_so false b c p q r = cc
all_so true false c p q r = cc
all_so true true false p q r = cc

member_whole : (a : ℕ) → a < 4 → list_any (λ x. same_corner (Whole a) x) corners ≡ true
member_whole a h = below_at 4 (λ a. list_any (λ x. same_corner (Whole a) x) corners) refl a h

member_cut : (a b : ℕ) → a < b → b < 4 → list_any (λ x. same_corner (Cut a b) x) corners ≡ true
member_cut a b lt h =
    implied (nat_lt a b) (list_any (λ x. same_corner (Cut a b) x) corners)
    (below_at 4 (λ a. not (nat_lt a b) || list_any (λ x. same_corner (Cut a b) x) corners) (below_at 4 (λ b. below 4 (λ a. not (nat_lt a b) || list_any (λ x. same_corner (Cut a b) x) corners)) refl b h) a (omega arith))
    (so a b lt)
  where
    so : (a b : ℕ) → a < b → nat_lt a b ≡ true
    so a b h = grind (arith, nat_tests)

pub plus_of : (s t : Sign) → are_opposite s t ≡ true → (is_plus s ≡ true) ⊎ (is_plus t ≡ true)
plus_of Plus t h = inl refl
plus_of Minus Plus h = inr refl
plus_of Minus Minus h = cc
plus_of Minus Zero h = cc
plus_of Zero Plus h = cc
plus_of Zero Minus h = cc
plus_of Zero Zero h = cc

-- the id in a key
eighth : (key m n : ℕ) → n < 8 → key ≡ 8 * m + n → key / 8 ≡ m
eighth key m n lt e = omega arith

module _ (d : Dims) (ss : List State) (tet : List Vertex) (t : IsLatticeTet d tet) (key : ℕ) where
  pub signs : List Sign
  signs = map (λ n. sign_of_state (state_at ss n)) (map (id d) tet)

  in_four : (a : ℕ) → a < 4 → a < length tet
  in_four a h = let e = t.four in omega arith

  pub id_slot : (a : ℕ) → a < 4 → slice_index (map (id d) tet) a ≡ id d (slot tet a)
  id_slot a h = get_or-map (id d) tet a (vertex 0 0 0) 0 (in_four a h)

  sign_slot : (a : ℕ) → a < 4 → sign_at signs a ≡ sign d ss (slot tet a)
  unfolding signs
  sign_slot a h =
      let e = length-map tet (id d) in
      get_or-map (λ n. sign_of_state (state_at ss n)) (map (id d) tet) a 0 Zero (let f = in_four a h in omega arith) ∙ ap (λ n. sign_of_state (state_at ss n)) (id_slot a h)

  inside : (a : ℕ) → a < 4 → InDomain d (slot tet a)
  inside a h = t.within a (vertex 0 0 0) (in_four a h)

  beside_each : (a b : ℕ) → a < 4 → b < 4 → a ≢ b → (are_neighbours (slot tet a) (slot tet b) ≡ true) ⊎ (are_neighbours (slot tet b) (slot tet a) ≡ true)
  beside_each a b ha hb ne = elim (cases_lt a b) [
    | inl lt ↦ inl (t.neighbours a b (vertex 0 0 0) lt (in_four b hb))
    | inr ge ↦ inr (t.neighbours b a (vertex 0 0 0) (omega arith) (in_four a ha))
  ]

  has_one : has_plus signs ≡ true → (b : ℕ) × (b < 4) × (is_plus (sign d ss (slot tet b)) ≡ true)
  unfolding signs
  has_one h =
      let e : list_any (λ v. is_plus (sign d ss v)) tet ≡ true = sym (any_map is_plus (λ n. sign_of_state (state_at ss n)) (map (id d) tet) ∙ any_map (λ n. is_plus (sign_of_state (state_at ss n))) (id d) tet) ∙ h in
      let r = place_where (λ v. is_plus (sign d ss v)) tet (vertex 0 0 0) e in
      let f = t.four in
      (r.0, omega arith, r.2)

  reason_of : (c : Corner) → in_slots c ≡ true → has_plus signs ≡ true → is_kept signs c ≡ true → corner_key tet (map (id d) tet) c ≡ key → Reason d ss key
  reason_of (Whole a) h p k e =
      let ha = ltb-true a 4 h in
      let b = has_one p in
      let f : key ≡ 8 * id d (slot tet a) = sym e ∙ ap (λ n. 8 * n) (id_slot a ha) in
      let m : is_minus (sign d ss (slot tet a)) ≡ false = ap is_minus (sym (sign_slot a ha)) ∙ not-true (is_minus (sign_at signs a)) k in
      elim (same_or_not a b.0) [
        | inl s ↦ plus (slot tet a) (inside a ha) f (ap (λ n. is_plus (sign d ss (slot tet n))) s ∙ b.2)
        | inr ne ↦ beside (slot tet a) (slot tet b.0) (inside a ha) (inside b.0 b.1) f m (beside_each a b.0 ha b.1 ne) b.2
      ]
    where
      same_or_not : (a b : ℕ) → (a ≡ b) ⊎ (a ≢ b)
      same_or_not a b = elim (cases_lt a b) [
        | inl lt ↦ inr (λ e. omega arith)
        | inr ge ↦ elim (eq-or-lt_of_le ge) [ inl e ↦ inl (sym e) | inr lt ↦ inr (λ e. omega arith) ]
      ]
  reason_of (Cut a b) h p k e =
      let s = and_parts (nat_lt a b) (nat_lt b 4) h in
      let hb = ltb-true b 4 s.1 in let lt = ltb-true a b s.0 in
      let ha : a < 4 = omega arith in
      let f : key ≡ 8 * id d (slot tet a) + direction (slot tet a) (slot tet b) = sym e ∙ ap (λ n. 8 * n + direction (slot tet a) (slot tet b)) (id_slot a ha) in
      crossed (slot tet a) (slot tet b) (inside a ha) (inside b hb) f (t.neighbours a b (vertex 0 0 0) lt (in_four b hb)) (t.ordered a b (vertex 0 0 0) lt (in_four b hb))
      ((λ i. are_opposite (sym (sign_slot a ha) i) (sym (sign_slot b hb) i)) ∙ k)

  -- a kept corner with this key
  pub record KeptCorner : Type 0 where
    pub corner : Corner
    pub slots : in_slots corner ≡ true
    pub some_plus : has_plus signs ≡ true
    pub is_there : is_kept signs corner ≡ true
    pub key_is : corner_key tet (map (id d) tet) corner ≡ key

  -- a key that occurs in a lattice tetrahedron's pieces is a kept corner's
  pub kept_corner : occurs (tet_pieces d ss tet) key ≡ true → KeptCorner
  unfolding signs tet_pieces kept
  kept_corner h =
      let len : length signs ≡ 4 = length-map (map (id d) tet) (λ n. sign_of_state (state_at ss n)) ∙ (length-map tet (id d) ∙ t.four) in
      let e = sym (occurs_kept tet (map (id d) tet) (keys_ascend tet (map (id d) tet) (tet_ids_rise d tet t)) signs len key) ∙ h in
      let f = sym (any_filter (λ c. corner_key tet (map (id d) tet) c == key) (λ c. has_plus signs && is_kept signs c) corners) ∙ e in
      let r = pick (λ c. (has_plus signs && is_kept signs c) && (corner_key tet (map (id d) tet) c == key)) in_slots corners f refl in
      let s = and_parts (has_plus signs && is_kept signs r.0) (corner_key tet (map (id d) tet) r.0 == key) r.1 in
      let u = and_parts (has_plus signs) (is_kept signs r.0) s.0 in
      record { corner = r.0; slots = r.2; some_plus = u.0; is_there = u.1; key_is = eqb-true _ _ s.1 }

  -- so it has a reason
  pub reason : occurs (tet_pieces d ss tet) key ≡ true → Reason d ss key
  reason h = let k = kept_corner h in reason_of k.corner k.slots k.some_plus k.is_there k.key_is

  -- the slot of the corner's vertex, or of its edge's lower end
  slot_of : (c : Corner) → in_slots c ≡ true → corner_key tet (map (id d) tet) c ≡ key → (a : ℕ) × (a < 4) × (key / 8 ≡ id d (slot tet a))
  slot_of (Whole a) h e =
      let ha = ltb-true a 4 h in
      (a, ha, eighth key (id d (slot tet a)) 0 (omega arith) (sym e ∙ ap (λ n. 8 * n) (id_slot a ha) ∙ sym (add-zero (8 * id d (slot tet a)))))
  slot_of (Cut a b) h e =
      let s = and_parts (nat_lt a b) (nat_lt b 4) h in
      let hb = ltb-true b 4 s.1 in let lt = ltb-true a b s.0 in
      let ha : a < 4 = omega arith in
      let dir = direction_known (slot tet a) (slot tet b) (t.neighbours a b (vertex 0 0 0) lt (in_four b hb)) (t.ordered a b (vertex 0 0 0) lt (in_four b hb)) in
      (a, ha, eighth key (id d (slot tet a)) (direction (slot tet a) (slot tet b)) dir.1 (sym e ∙ ap (λ n. 8 * n + direction (slot tet a) (slot tet b)) (id_slot a ha)))

  pub node_slot : occurs (tet_pieces d ss tet) key ≡ true → (a : ℕ) × (a < 4) × (key / 8 ≡ id d (slot tet a))
  node_slot h = let k = kept_corner h in slot_of k.corner k.slots k.key_is

  -- a kept corner's key occurs
  kept_occurs : (c : Corner) → list_any (λ x. same_corner c x) corners ≡ true → has_plus signs ≡ true → is_kept signs c ≡ true → corner_key tet (map (id d) tet) c ≡ key → occurs (tet_pieces d ss tet) key ≡ true
  unfolding signs tet_pieces kept
  kept_occurs c m p k e =
      let len : length signs ≡ 4 = length-map (map (id d) tet) (λ n. sign_of_state (state_at ss n)) ∙ (length-map tet (id d) ∙ t.four) in
      occurs_kept tet (map (id d) tet) (keys_ascend tet (map (id d) tet) (tet_ids_rise d tet t)) signs len key
      ∙ (any_filter (λ c. corner_key tet (map (id d) tet) c == key) (λ c. has_plus signs && is_kept signs c) corners
      ∙ found (λ x. (has_plus signs && is_kept signs x) && (corner_key tet (map (id d) tet) x == key)) c corners (all_so _ _ _ p k (eq-eqb _ _ e)) m)

  has_plus_at : (b : ℕ) → b < 4 → is_plus (sign d ss (slot tet b)) ≡ true → has_plus signs ≡ true
  unfolding signs
  has_plus_at b hb h =
      any_map is_plus (λ n. sign_of_state (state_at ss n)) (map (id d) tet) ∙ (any_map (λ n. is_plus (sign_of_state (state_at ss n))) (id d) tet ∙ list_any_at (λ v. is_plus (sign d ss v)) tet b (vertex 0 0 0) (in_four b hb) h)

  -- a vertex that is not Minus is a node where a vertex of the tetrahedron is Plus
  pub vertex_occurs : (a b : ℕ) → a < 4 → b < 4 → is_minus (sign d ss (slot tet a)) ≡ false → is_plus (sign d ss (slot tet b)) ≡ true → key ≡ 8 * id d (slot tet a) → occurs (tet_pieces d ss tet) key ≡ true
  vertex_occurs a b ha hb m p e =
      kept_occurs (Whole a) (member_whole a ha) (has_plus_at b hb p) (ap not (ap is_minus (sign_slot a ha) ∙ m)) (ap (λ n. 8 * n) (id_slot a ha) ∙ sym e)

  -- the cut of an edge between Plus and Minus is a node
  pub cut_occurs : (a b : ℕ) → a < b → b < 4 → are_opposite (sign d ss (slot tet a)) (sign d ss (slot tet b)) ≡ true → key ≡ 8 * id d (slot tet a) + direction (slot tet a) (slot tet b) → occurs (tet_pieces d ss tet) key ≡ true
  cut_occurs a b lt hb o e =
      let ha : a < 4 = omega arith in
      kept_occurs (Cut a b) (member_cut a b lt hb)
      (elim (plus_of (sign d ss (slot tet a)) (sign d ss (slot tet b)) o) [ inl p ↦ has_plus_at a ha p | inr p ↦ has_plus_at b hb p ])
      ((λ i. are_opposite (sign_slot a ha i) (sign_slot b hb i)) ∙ o) (ap (λ n. 8 * n + direction (slot tet a) (slot tet b)) (id_slot a ha) ∙ sym e)
