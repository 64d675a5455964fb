-- The ids and keys of a layer follow those of the layers below it, and all nodes are those of each layer, one after another.
use Rattle.std.proofs.Common.{◌≡◌, ℕ, zero, suc, ◌+◌, ◌-◌, ◌*◌, ◌/◌, ◌<◌, ◌≤◌, Bool, true, false, cond, ◌==◌, List, [], ◌∷◌, ◌++◌, length, refl, sym, ap, subst, ◌∙◌, arith, inl, inr, append-nil, zero-add}
use Rattle.std.specs.Prelude.{filter, flat_map}
use Rattle.std.specs.List.{range_with_len}
use Rattle.std.proofs.lemmas.Bool.{eq-eqb}
use Rattle.std.proofs.lemmas.Bool.Decides.{nat_tests}
use Rattle.std.proofs.lemmas.List.Concat.{flat_map-append, length-flat_map}
use Rattle.std.proofs.lemmas.List.Elements.{filter-append}
use Rattle.std.proofs.lemmas.List.Sums.{sum-map}
use Rattle.list_words.proofs.Ranges.{range_add}
use Rattle.definitions.specs.declared.Dims.{Dims}
use Rattle.definitions.specs.declared.State.{State}
use Rattle.definitions.specs.Lattice.{id, layers, vertex, vertices, vertex_at}
use Rattle.definitions.specs.Layout.{layer_len, layer_start}
use Rattle.definitions.specs.Mesh.{all_pieces, occurs, node_keys, layer_node_keys}
use Rattle.lattice_counts.specs.Counts.{below_layer, before_in_layer}
use Rattle.lattice_counts.proofs.Ranks.{all_length, below_grows, below_rises, rank, start, within_layer}
use Rattle.lattice_laws.proofs.Lists.{compared}
use Rattle.lattice_laws.proofs.Sublists.{has_at}
use Rattle.lattice_laws.proofs.Vertices.{from_vertices, id-vertex_at}
use Rattle.node_laws.specs.Laws.{LayersHaveKeys, KeysJoin, CountsBelow}
use Rattle.node_laws.proofs.Ranks.{filter_split}

-- ---- filters of ranges

-- those that pass the second test, where the first holds of all, or of none
all_pass : (q p : ℕ → Bool) (a n : ℕ) → ((k : ℕ) → a ≤ k → k < a + n → q k ≡ true) → filter q (filter p (range_with_len a n)) ≡ filter p (range_with_len a n)
all_pass q p a zero h = refl
all_pass q p a (suc n) h =
    let more = filter p (range_with_len (a + 1) n) in
    let rest : filter q more ≡ more = all_pass q p (a + 1) n (λ k lo hi. h k (omega arith) (omega arith)) in
    elim (p a) as (λ b. filter q (cond b (a ∷ more) more) ≡ cond b (a ∷ more) more) [
      | true ↦ ap (λ b. cond b (a ∷ filter q more) (filter q more)) (h a (omega arith) (omega arith)) ∙ ap (λ xs. a ∷ xs) rest
      | false ↦ rest
    ]

none_passes : (q p : ℕ → Bool) (a n : ℕ) → ((k : ℕ) → a ≤ k → k < a + n → q k ≡ false) → filter q (filter p (range_with_len a n)) ≡ []
none_passes q p a zero h = refl
none_passes q p a (suc n) h =
    let more = filter p (range_with_len (a + 1) n) in
    let rest : filter q more ≡ [] = none_passes q p (a + 1) n (λ k lo hi. h k (omega arith) (omega arith)) in
    elim (p a) as (λ b. filter q (cond b (a ∷ more) more) ≡ []) [
      | true ↦ ap (λ b. cond b (a ∷ filter q more) (filter q more)) (h a (omega arith) (omega arith)) ∙ rest
      | false ↦ rest
    ]

-- of three parts the first test holds in the middle one alone
middle_passes :
    (q p : ℕ → Bool) (a m n : ℕ) → ((k : ℕ) → k < a → q k ≡ false) → ((k : ℕ) → a ≤ k → k < a + m → q k ≡ true) → ((k : ℕ) → a + m ≤ k → k < a + m + n → q k ≡ false)
    → filter q (filter p (range_with_len 0 (a + (m + n)))) ≡ filter p (range_with_len a m)
middle_passes q p a m n low mid high =
    ap (filter q) (filter_split p 0 a (m + n))
    ∙ filter-append q (filter p (range_with_len 0 a)) (filter p (range_with_len (0 + a) (m + n)))
    ∙ (λ i. none_passes q p 0 a (λ k lo hi. low k (omega arith)) i ++ filter q (filter p (range_with_len (zero-add a i) (m + n))))
    ∙ ap (filter q) (filter_split p a m n)
    ∙ filter-append q (filter p (range_with_len a m)) (filter p (range_with_len (a + m) n))
    ∙ (λ i. all_pass q p a m mid i ++ none_passes q p (a + m) n high i)
    ∙ append-nil (filter p (range_with_len a m))

-- ---- layers

module _ (d : Dims) where
  rises : (i j : ℕ) → i ≤ j → below_layer d i ≤ below_layer d j
  rises i j le = subst (λ n. below_layer d i ≤ below_layer d n) (let e : i + (j - i) ≡ j = omega arith in e) (below_rises d i (j - i))

  -- an id is among those of its vertex's layer
  within : (n : ℕ) → n < length (vertices d) → (below_layer d (vertex_at d n).h ≤ n) × (n < below_layer d ((vertex_at d n).h + 1))
  within n lt =
      let v = vertex_at d n in
      let k = from_vertices d v (has_at (vertices d) n (vertex 0 0 0) lt) in
      place (below_layer d v.h) (below_layer d (v.h + 1)) (before_in_layer d v) (layer_len d v.h) n (id d v) (rank d v k) (id-vertex_at d n lt) (within_layer d v k) (below_grows d v.h)
    where
      place : (s t p l n i : ℕ) → i ≡ s + p → i ≡ n → p < l → t ≡ s + l → (s ≤ n) × (n < t)
      place s t p l n i r e w g = (omega arith, omega arith)

  -- the vertex with an id is in a layer exactly where the id is among the layer's
  in_layer : (n h : ℕ) → n < length (vertices d) → below_layer d h ≤ n → n < below_layer d (h + 1) → (vertex_at d n).h ≡ h
  in_layer n h lt low high =
      let w = within n lt in
      elim (compared (vertex_at d n).h h) [
        | inl less ↦ absurd (let r = rises ((vertex_at d n).h + 1) h (omega arith) in between (below_layer d ((vertex_at d n).h + 1)) (below_layer d h) n r w.1 low)
        | inr rest ↦ elim rest [
          | inl same ↦ same
          | inr more ↦ absurd (let r = rises (h + 1) (vertex_at d n).h (omega arith) in between (below_layer d (h + 1)) (below_layer d (vertex_at d n).h) n r high w.0)
        ]
      ]
    where
      between : (a b n : ℕ) → a ≤ b → n < a → b ≤ n → ⊥
      between a b n r lt le = omega arith

  layer_has : (n h : ℕ) → n < length (vertices d) → (vertex_at d n).h ≡ h → (below_layer d h ≤ n) × (n < below_layer d (h + 1))
  layer_has n h lt e = subst (λ j. (below_layer d j ≤ n) × (n < below_layer d (j + 1))) e (within n lt)

  abbrev in_it : ℕ → ℕ → Bool
  in_it h n = (vertex_at d n).h == h

  not_in_it : (n h : ℕ) → n < length (vertices d) → ((below_layer d h ≤ n) × (n < below_layer d (h + 1)) → ⊥) → in_it h n ≡ false
  not_in_it n h lt outside = other (vertex_at d n).h h (λ e. outside (layer_has n h lt e))
    where
      other : (a b : ℕ) → (a ≡ b → ⊥) → (a == b) ≡ false
      other a b ne = grind (arith, nat_tests)

  -- the layers below layer h, the layer, and those above are all vertices
  pub next_start : (h : ℕ) → h < layers d → layer_start d (h + 1) ≡ layer_start d h + layer_len d h
  next_start h lt = start d (h + 1) (omega arith) ∙ below_grows d h ∙ ap (λ n. n + layer_len d h) (sym (start d h (omega arith)))

  pub all_start : layer_start d (layers d) ≡ length (vertices d)
  all_start = start d (layers d) (omega arith) ∙ sym (all_length d)

  module _ (h : ℕ) (lt : h < layers d) where
    from_start : below_layer d h ≡ layer_start d h
    from_start = sym (start d h (omega arith))

    to_end : below_layer d (h + 1) ≡ layer_start d h + layer_len d h
    to_end = sym (start d (h + 1) (omega arith)) ∙ next_start h lt

    pub end_within : layer_start d h + layer_len d h ≤ length (vertices d)
    end_within = subst (λ n. n ≤ length (vertices d)) to_end (subst (λ n. below_layer d (h + 1) ≤ n) (sym (all_length d)) (rises (h + 1) (layers d) (omega arith)))

    -- the vertex of an id of the layer is in it
    pub layer_of_id : (n : ℕ) → layer_start d h ≤ n → n < layer_start d h + layer_len d h → (vertex_at d n).h ≡ h
    layer_of_id n lo hi =
        in_layer n h (within_all (layer_start d h) (layer_len d h) (length (vertices d)) n hi end_within) (subst (λ m. m ≤ n) (sym from_start) lo) (subst (λ m. n < m) (sym to_end) hi)
      where
        within_all : (s l v n : ℕ) → n < s + l → s + l ≤ v → n < v
        within_all s l v n hi e = omega arith

    in_between : (n : ℕ) → layer_start d h ≤ n → n < layer_start d h + layer_len d h → in_it h n ≡ true
    in_between n lo hi = eq-eqb (vertex_at d n).h h (layer_of_id n lo hi)

    lower : (n : ℕ) → n < layer_start d h → in_it h n ≡ false
    lower n lo =
        not_in_it n h (within_all (layer_start d h) (layer_len d h) (length (vertices d)) n lo end_within)
        (λ w. less (layer_start d h) n lo (subst (λ m. m ≤ n) from_start w.0))
      where
        within_all : (s l v n : ℕ) → n < s → s + l ≤ v → n < v
        within_all s l v n hi e = omega arith

        less : (s n : ℕ) → n < s → s ≤ n → ⊥
        less s n a b = omega arith

    upper : (n : ℕ) → layer_start d h + layer_len d h ≤ n → n < length (vertices d) → in_it h n ≡ false
    upper n lo hi =
        not_in_it n h hi (λ w. less (layer_start d h + layer_len d h) n lo (subst (λ m. n < m) to_end w.1))
      where
        less : (s n : ℕ) → s ≤ n → n < s → ⊥
        less s n a b = omega arith

-- ---- keys

-- keys of an id, and of ids from one on
eighth_below : (k n : ℕ) → k < 8 * n → k / 8 < n
eighth_below k n lt = omega arith

eighth_from : (k n : ℕ) → 8 * n ≤ k → n ≤ k / 8
eighth_from k n le = omega arith

-- the node keys of a layer
pub layers_have_keys : LayersHaveKeys
unfolding node_keys
layers_have_keys d ss h lt =
    let s = layer_start d h in
    let l = layer_len d h in
    let all = length (vertices d) in
    let rest = all - (s + l) in
    let e : 8 * all ≡ 8 * s + (8 * l + 8 * rest) = parts s l all (end_within d h lt) in
    ap (λ n. filter (λ k. (vertex_at d (k / 8)).h == h) (filter (occurs (all_pieces d ss)) (range_with_len 0 n))) e
    ∙ middle_passes (λ k. in_it d h (k / 8)) (occurs (all_pieces d ss)) (8 * s) (8 * l) (8 * rest)
    (λ k hi. lower d h lt (k / 8) (eighth_below k s hi))
    (λ k lo hi. in_between d h lt (k / 8) (eighth_from k s lo) (eighth_below k (s + l) (joined k s l hi)))
    (λ k lo hi. upper d h lt (k / 8) (eighth_from k (s + l) (started k s l lo)) (eighth_below k all (ended k s l all (end_within d h lt) hi)))
  where
    parts : (s l all : ℕ) → s + l ≤ all → 8 * all ≡ 8 * s + (8 * l + 8 * (all - (s + l)))
    parts s l all le = omega arith

    joined : (k s l : ℕ) → k < 8 * s + 8 * l → k < 8 * (s + l)
    joined k s l lt = omega arith

    started : (k s l : ℕ) → 8 * s + 8 * l ≤ k → 8 * (s + l) ≤ k
    started k s l le = omega arith

    ended : (k s l all : ℕ) → s + l ≤ all → k < 8 * s + 8 * l + 8 * (all - (s + l)) → k < 8 * all
    ended k s l all le lt = omega arith

module _ (d : Dims) (ss : List State) where
  -- the keys that occur below a layer are those of the layers below it
  keys_below : (h : ℕ) → h ≤ layers d → filter (occurs (all_pieces d ss)) (range_with_len 0 (8 * layer_start d h)) ≡ flat_map (layer_node_keys d ss) (range_with_len 0 h)
  keys_below zero le = ap (λ n. filter (occurs (all_pieces d ss)) (range_with_len 0 (8 * n))) (start d 0 le ∙ none (below_layer d 0) refl)
    where
      none : (n : ℕ) → below_layer d 0 ≡ n → n ≡ 0
      none n e = omega arith
  keys_below (suc h) le =
      let p = occurs (all_pieces d ss) in
      let lt : h < layers d = omega arith in
      let e : suc h ≡ h + 1 = omega arith in
      ap (λ n. filter p (range_with_len 0 n)) (ap (λ n. 8 * layer_start d n) e ∙ ap (λ n. 8 * n) (next_start d h lt) ∙ eight_times (layer_start d h) (layer_len d h))
      ∙ filter_split p 0 (8 * layer_start d h) (8 * layer_len d h)
      ∙ (λ i. keys_below h (let r : h ≤ layers d = omega arith in r) i ++ filter p (range_with_len (zero-add (8 * layer_start d h) i) (8 * layer_len d h)))
      ∙ ap (λ xs. flat_map (layer_node_keys d ss) (range_with_len 0 h) ++ xs) (sym (layers_have_keys d ss h lt) ∙ sym (append-nil (layer_node_keys d ss h)))
      ∙ (λ i. flat_map (layer_node_keys d ss) (range_with_len 0 h) ++ flat_map (layer_node_keys d ss) (range_with_len (sym (zero-add h) i) 1))
      ∙ sym (flat_map-append (layer_node_keys d ss) (range_with_len 0 h) (range_with_len (0 + h) 1))
      ∙ ap (flat_map (layer_node_keys d ss)) (sym (range_add 0 h 1))
      ∙ ap (λ n. flat_map (layer_node_keys d ss) (range_with_len 0 n)) (sym e)
    where
      eight_times : (s l : ℕ) → 8 * (s + l) ≡ 8 * s + 8 * l
      eight_times s l = omega arith

-- all node keys are those of each layer, one after another
pub keys_join : KeysJoin
unfolding node_keys
keys_join d ss =
    ap (λ n. filter (occurs (all_pieces d ss)) (range_with_len 0 (8 * n))) (sym (all_start d)) ∙ keys_below d ss (layers d) (let r : layers d ≤ layers d = omega arith in r)

-- how many nodes stand below a layer
pub counts_below : CountsBelow
counts_below d ss h le =
    ap length (keys_below d ss h le)
    ∙ length-flat_map (layer_node_keys d ss) (range_with_len 0 h)
    ∙ sym (sum-map (λ g. length (layer_node_keys d ss g)) (range_with_len 0 h))
