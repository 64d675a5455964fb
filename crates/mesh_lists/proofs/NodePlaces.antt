-- Where the nodes of a vertex stand, and the list of nodes with one more.
use Rattle.std.proofs.Common.{◌≡◌, ℕ, ◌+◌, ◌-◌, ◌*◌, ◌/◌, ◌%◌, ◌^◌, ◌<◌, ◌≤◌, ◌==◌, zero, suc, arith, refl, sym, subst, ◌∙◌, ap, cond, Bool, true, false, List, [], ◌∷◌, ◌++◌, map, length, append-nil, append_assoc, inl, inr, eq-zero-or-pos}
use Rattle.std.specs.Prelude.{if◌then◌else◌, filter, slice_index}
use Rattle.std.specs.List.{range_with_len}
use Rattle.std.proofs.lemmas.Bool.Decides.{nat_tests}
use Rattle.std.proofs.lemmas.List.{map-append}
use Rattle.std.proofs.Math.Nat.{zero-div}
use Rattle.bcc_lattice.specs.Directions.{IsDirection}
use Rattle.definitions.specs.declared.Dims.{Dims}
use Rattle.definitions.specs.declared.Vertex.{Vertex}
use Rattle.definitions.specs.declared.State.{State}
use Rattle.definitions.specs.Lattice.{vertex_at, vertices}
use Rattle.definitions.specs.Values.{Field}
use Rattle.definitions.specs.Places.{cut_place, state_place}
use Rattle.definitions.specs.Mesh.{all_pieces, edge_cut, node_keys, node_place, occurs, state_at}
use Rattle.mesh_lists.specs.Parts.{keys_at, keys_of_ids, place_on_edge}
use Rattle.vertex_numbers.specs.Bits.{has_bit}
use Rattle.vertex_numbers.specs.Numbering.{Numbering, TellsUsed}
use Rattle.node_laws.proofs.Ranks.{filter_split}

pub key_vertex : (n dir : ℕ) → dir < 8 → (8 * n + dir) / 8 ≡ n
key_vertex n dir lt = omega arith

pub key_direction : (n dir : ℕ) → dir < 8 → (8 * n + dir) % 8 ≡ dir
key_direction n dir lt = omega arith

node_place_at : (f : Field) (ss : List State) (v : Vertex) (n dir : ℕ) → vertex_at f.dims n ≡ v → dir < 8 →
    node_place f ss (8 * n + dir) ≡ (if dir == 0 then state_place v (state_at ss n) else cut_place v dir (edge_cut f v dir))
unfolding node_place
node_place_at f ss v n dir e lt =
    (λ i. if key_direction n dir lt i == 0 then state_place (vertex_at f.dims (key_vertex n dir lt i)) (state_at ss (key_vertex n dir lt i)) else cut_place (vertex_at f.dims (key_vertex n dir lt i)) (key_direction n dir lt i) (edge_cut f (vertex_at f.dims (key_vertex n dir lt i)) (key_direction n dir lt i)))
    ∙ (λ i. if dir == 0 then state_place (e i) (state_at ss n) else cut_place (e i) dir (edge_cut f (e i) dir))

-- of an edge, and of the vertex itself
pub edge_place : (f : Field) (ss : List State) (v : Vertex) (n dir : ℕ) → vertex_at f.dims n ≡ v → 1 ≤ dir → dir < 8 → node_place f ss (8 * n + dir) ≡ cut_place v dir (edge_cut f v dir)
edge_place f ss v n dir e low lt =
    node_place_at f ss v n dir e lt ∙ ap (λ b. if b then state_place v (state_at ss n) else cut_place v dir (edge_cut f v dir)) (other dir low)
  where
    other : (n : ℕ) → 1 ≤ n → (n == 0) ≡ false
    other n h = grind (arith, nat_tests)

pub vertex_place : (f : Field) (ss : List State) (v : Vertex) (n dir : ℕ) → vertex_at f.dims n ≡ v → dir ≡ 0 → node_place f ss (8 * n + dir) ≡ state_place v (state_at ss n)
vertex_place f ss v n dir e z = ap (λ m. node_place f ss (8 * n + m)) z ∙ node_place_at f ss v n 0 e (omega arith)

-- no direction below 8 but 0
pub only_zero : (n : ℕ) → n < 8 → (IsDirection n → ⊥) → n ≡ 0
only_zero n lt never = elim (eq-zero-or-pos n) [ inl e ↦ e | inr low ↦ absurd (never (record { low = omega arith; high = omega arith })) ]

map_one : {X : Type 0} (f : ℕ → X) (b : Bool) (k : ℕ) → map f (filter (λ _. b) (k ∷ [])) ≡ (if b then f k ∷ [] else [])
map_one f true k = refl
map_one f false k = refl

-- one more key
keys_more : {X : Type 0} (f : ℕ → X) (p : ℕ → Bool) (a n : ℕ) (xs ys zs : List X) → ys ≡ xs ++ map f (filter p (range_with_len a n)) → zs ≡ ys ++ (if p (a + n) then f (a + n) ∷ [] else []) →
    zs ≡ xs ++ map f (filter p (range_with_len a (n + 1)))
keys_more f p a n xs ys zs e g =
    g ∙ ap (λ l. l ++ (if p (a + n) then f (a + n) ∷ [] else [])) e ∙ append_assoc xs (map f (filter p (range_with_len a n))) (if p (a + n) then f (a + n) ∷ [] else [])
    ∙ ap (λ l. xs ++ l) (ap (λ l. map f (filter p (range_with_len a n)) ++ l) (sym (map_one f (p (a + n)) (a + n))) ∙ sym (map-append f (filter p (range_with_len a n)) (filter p (range_with_len (a + n) 1))) ∙ ap (map f) (sym (filter_split p a n 1)))

-- ---- the nodes of a vertex by its bits: itself, and then the cuts on its edges upwards

module _ {X : Type 0} where
  -- one direction more
  pub cuts_more : (h : ℕ → X) (p : ℕ → Bool) (dir : ℕ) (xs ys zs : List X) → 1 ≤ dir → ys ≡ xs ++ map h (filter p (range_with_len 1 (dir - 1))) → zs ≡ ys ++ (if p dir then h dir ∷ [] else []) →
      zs ≡ xs ++ map h (filter p (range_with_len 1 (dir + 1 - 1)))
  cuts_more h p dir xs ys zs low e g =
      keys_more h p 1 (dir - 1) xs ys zs e (subst (λ k. zs ≡ ys ++ (if p k then h k ∷ [] else [])) (let f : dir ≡ 1 + (dir - 1) = omega arith in f) g)
      ∙ ap (λ n. xs ++ map h (filter p (range_with_len 1 n))) (let f : dir - 1 + 1 ≡ dir + 1 - 1 = omega arith in f)

  same_head : (b c : Bool) (g h : ℕ → X) (k l : ℕ) (xs ys : List ℕ) → b ≡ c → g k ≡ h l → map g xs ≡ map h ys → map g (cond b (k ∷ xs) xs) ≡ map h (cond c (l ∷ ys) ys)
  same_head true true g h k l xs ys e f rest = λ i. f i ∷ rest i
  same_head false false g h k l xs ys e f rest = rest
  same_head true false g h k l xs ys e f rest = cc
  same_head false true g h k l xs ys e f rest = cc

  same_nodes : (p q : ℕ → Bool) (g h : ℕ → X) (a b n : ℕ) → ((k : ℕ) → k < n → p (a + k) ≡ q (b + k)) → ((k : ℕ) → k < n → g (a + k) ≡ h (b + k)) →
      map g (filter p (range_with_len a n)) ≡ map h (filter q (range_with_len b n))
  same_nodes p q g h a b zero ps gs = refl
  same_nodes p q g h a b (suc n) ps gs =
      same_head (p a) (q b) g h a b (filter p (range_with_len (a + 1) n)) (filter q (range_with_len (b + 1) n))
      (ap p (none a) ∙ ps 0 (omega arith) ∙ ap q (sym (none b))) (ap g (none a) ∙ gs 0 (omega arith) ∙ ap h (sym (none b)))
      (same_nodes p q g h (a + 1) (b + 1) n
      (λ k lt. ap p (one a k) ∙ ps (k + 1) (omega arith) ∙ ap q (sym (one b k)))
      (λ k lt. ap g (one a k) ∙ gs (k + 1) (omega arith) ∙ ap h (sym (one b k))))
    where
      none : (m : ℕ) → m ≡ m + 0
      none m = omega arith

      one : (m k : ℕ) → m + 1 + k ≡ m + (k + 1)
      one m k = omega arith

  module _ (p : ℕ → Bool) (g h : ℕ → X) (own : X) (bits id : ℕ) where
    pub nodes_by_bits : ((k : ℕ) → k < 8 → p (8 * id + k) ≡ has_bit bits k) → g (8 * id + 0) ≡ own → ((k : ℕ) → 1 ≤ k → k < 8 → g (8 * id + k) ≡ h k) →
        (if has_bit bits 0 then own ∷ [] else []) ++ map h (filter (has_bit bits) (range_with_len 1 7)) ≡ map g (filter p (range_with_len (8 * id) 8))
    nodes_by_bits ps first gs =
        ap (λ l. (if has_bit bits 0 then own ∷ [] else []) ++ l)
        (sym (same_nodes p (has_bit bits) g h (8 * id + 1) 1 7 (λ k lt. ap p (one k) ∙ ps (1 + k) (omega arith)) (λ k lt. ap g (one k) ∙ gs (1 + k) (omega arith) (omega arith))))
        ∙ (λ i. (if sym (ps 0 (omega arith)) i then sym first i ∷ [] else []) ++ map g (filter p (range_with_len (8 * id + 1) 7)))
        ∙ ap (λ m. (if p m then g m ∷ [] else []) ++ map g (filter p (range_with_len (8 * id + 1) 7))) (let e : 8 * id + 0 ≡ 8 * id = omega arith in e)
        ∙ joined (p (8 * id)) (8 * id) (filter p (range_with_len (8 * id + 1) 7))
      where
        one : (k : ℕ) → 8 * id + 1 + k ≡ 8 * id + (1 + k)
        one k = omega arith

        joined : (b : Bool) (k : ℕ) (ks : List ℕ) → (if b then g k ∷ [] else []) ++ map g ks ≡ map g (cond b (k ∷ ks) ks)
        joined true k ks = refl
        joined false k ks = refl

-- no cuts
pub no_cuts : (bits : ℕ) → bits < 2 → filter (has_bit bits) (range_with_len 1 7) ≡ []
no_cuts zero lt = refl
no_cuts (suc zero) lt = refl
no_cuts (suc (suc n)) lt = absurd (omega arith)

-- what a numbering says of the keys of a vertex
pub bits_tell : (d : Dims) (ss : List State) (n : Numbering) (id k : ℕ) → TellsUsed d ss n → n.first ≤ id → id < n.first + n.len → k < 8 →
    occurs (all_pieces d ss) (8 * id + k) ≡ has_bit (slice_index n.nodes (id - n.first)) k
bits_tell d ss n id k used low high lt =
    sym (used (8 * id + k) (record { low = (let e = key_vertex id k lt in omega arith); high = (let e = key_vertex id k lt in omega arith) }))
    ∙ (λ i. has_bit (slice_index n.nodes (key_vertex id k lt i - n.first)) (key_direction id k lt i))

-- the places of the nodes of a vertex
pub places_by_bits : (f : Field) (ss : List State) (n : Numbering) (v : Vertex) (id bits : ℕ) → TellsUsed f.dims ss n → n.first ≤ id → id < n.first + n.len → vertex_at f.dims id ≡ v → bits ≡ slice_index n.nodes (id - n.first) →
    (if has_bit bits 0 then state_place v (state_at ss id) ∷ [] else []) ++ map (place_on_edge f v) (filter (has_bit bits) (range_with_len 1 7)) ≡ map (node_place f ss) (keys_at f.dims ss id)
places_by_bits f ss n v id bits used low high at e =
    nodes_by_bits (occurs (all_pieces f.dims ss)) (node_place f ss) (place_on_edge f v) (state_place v (state_at ss id)) bits id
    (λ k lt. bits_tell f.dims ss n id k used low high lt ∙ ap (λ b. has_bit b k) (sym e))
    (vertex_place f ss v id 0 at refl)
    (λ k some lt. edge_place f ss v id k at some lt)

-- ---- the keys of the nodes of some ids

module _ (d : Dims) (ss : List State) where
  abbrev occ : ℕ → Bool
  occ = occurs (all_pieces d ss)

  pub keys_of_one : (id n : ℕ) → n ≡ 8 → filter occ (range_with_len (8 * id) n) ≡ keys_of_ids d ss id 1
  unfolding keys_of_ids
  keys_of_one id n e = ap (λ m. filter occ (range_with_len (8 * id) m)) (e ∙ (let f : 8 ≡ 8 * 1 = omega arith in f))

  pub keys_of_none : (id : ℕ) → [] ≡ keys_of_ids d ss id (id - id)
  unfolding keys_of_ids
  keys_of_none id = sym (ap (λ m. filter occ (range_with_len (8 * id) m)) (let e : 8 * (id - id) ≡ 0 = omega arith in e))

  -- one id more
  pub keys_of_more : (a n : ℕ) → a ≤ n → keys_of_ids d ss a (n - a) ++ keys_of_ids d ss n 1 ≡ keys_of_ids d ss a (n + 1 - a)
  unfolding keys_of_ids
  keys_of_more a n le =
      ap (λ m. filter occ (range_with_len (8 * a) (8 * (n - a))) ++ filter occ (range_with_len m (8 * 1))) (let e : 8 * n ≡ 8 * a + 8 * (n - a) = omega arith in e)
      ∙ sym (filter_split occ (8 * a) (8 * (n - a)) (8 * 1))
      ∙ ap (λ m. filter occ (range_with_len (8 * a) m)) (let e : 8 * (n - a) + 8 * 1 ≡ 8 * (n + 1 - a) = omega arith in e)

  -- all of them
  pub keys_of_all : (n : ℕ) → n ≡ length (vertices d) → keys_of_ids d ss 0 (n - 0) ≡ node_keys d ss
  unfolding keys_of_ids node_keys
  keys_of_all n e = ap (λ m. filter occ (range_with_len 0 (8 * m))) ((let z : n - 0 ≡ n = omega arith in z) ∙ e)

-- ---- vertices without nodes

no_bit : (k : ℕ) → has_bit 0 k ≡ false
no_bit k = ap (λ n. n % 2 == 1) (zero-div (2 ^ k))

-- no key of theirs occurs
pub none_by_bits : (d : Dims) (ss : List State) (n : Numbering) (id : ℕ) → TellsUsed d ss n → n.first ≤ id → id < n.first + n.len → slice_index n.nodes (id - n.first) ≡ 0 →
    (k : ℕ) → k < 8 → occurs (all_pieces d ss) (8 * id + k) ≡ false
none_by_bits d ss n id used low high none k lt = bits_tell d ss n id k used low high lt ∙ ap (λ b. has_bit b k) none ∙ no_bit k

none_pass : (p : ℕ → Bool) (a n : ℕ) → ((k : ℕ) → k < n → p (a + k) ≡ false) → filter p (range_with_len a n) ≡ []
none_pass p a zero h = refl
none_pass p a (suc n) h =
    ap (λ b. cond b (a ∷ filter p (range_with_len (a + 1) n)) (filter p (range_with_len (a + 1) n))) (ap p (let e : a ≡ a + 0 = omega arith in e) ∙ h 0 (omega arith))
    ∙ none_pass p (a + 1) n (λ k lt. ap p (one k) ∙ h (k + 1) (omega arith))
  where
    one : (k : ℕ) → a + 1 + k ≡ a + (k + 1)
    one k = omega arith

-- the keys of some ids, and of more whose vertices have no nodes
module _ (d : Dims) (ss : List State) (n : Numbering) (used : TellsUsed d ss n) (a b : ℕ) (le : a ≤ b) (low : n.first ≤ b) where
  pub keys_over : (g : ℕ) → b + g ≤ n.first + n.len → ((m : ℕ) → b ≤ m → m < b + g → slice_index n.nodes (m - n.first) ≡ 0) → keys_of_ids d ss a (b - a) ≡ keys_of_ids d ss a (b + g - a)
  keys_over zero within none = ap (λ m. keys_of_ids d ss a (m - a)) (let e : b ≡ b + 0 = omega arith in e)
  keys_over (suc g) within none =
      keys_over g (omega arith) (λ m lo hi. none m lo (omega arith))
      ∙ sym (append-nil (keys_of_ids d ss a (b + g - a)))
      ∙ ap (λ ks. keys_of_ids d ss a (b + g - a) ++ ks)
      (sym (none_pass (occurs (all_pieces d ss)) (8 * (b + g)) 8 (none_by_bits d ss n (b + g) used (omega arith) (omega arith) (none (b + g) (omega arith) (omega arith)))) ∙ keys_of_one d ss (b + g) 8 refl)
      ∙ keys_of_more d ss a (b + g) (omega arith)
      ∙ ap (λ m. keys_of_ids d ss a (m - a)) (let e : b + g + 1 ≡ b + suc g = omega arith in e)

  pub keys_past : (c : ℕ) → b ≤ c → c ≤ n.first + n.len → ((m : ℕ) → b ≤ m → m < c → slice_index n.nodes (m - n.first) ≡ 0) → keys_of_ids d ss a (b - a) ≡ keys_of_ids d ss a (c - a)
  keys_past c more within none =
      let e : b + (c - b) ≡ c = omega arith in
      keys_over (c - b) (omega arith) (λ m lo hi. none m lo (omega arith)) ∙ ap (λ k. keys_of_ids d ss a (k - a)) e
