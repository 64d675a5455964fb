-- Nodes at the vertices of ids one after another: their bits, and how many nodes stand before.
use Rattle.std.proofs.Common.{if◌then◌else◌, [], ◌∷◌, ◌++◌, ◌≡◌, ℕ, ◌+◌, ◌-◌, ◌*◌, ◌/◌, ◌%◌, ◌^◌, ◌<◌, ◌≤◌, Bool, true, false, List, length, map, get_or, arith, refl, sym, ap, subst, ◌∙◌}
use Rattle.std.specs.Prelude.{count_ones, filter}
use Rattle.std.specs.List.{range_with_len}
use Rattle.std.proofs.lemmas.List.Sums.{count_by-le-length, length-filter}
use Rattle.std.proofs.lemmas.List.FromFn.{get_or-map-range_with_len, length-map-range_with_len, length-range_with_len, map-range_with_len_more, take-map-range_with_len}
use Rattle.definitions.specs.declared.Dims.{Dims}
use Rattle.definitions.specs.declared.State.{State}
use Rattle.definitions.specs.Lattice.{IsDims, vertices}
use Rattle.definitions.specs.Mesh.{all_pieces, node_keys, number_of, occurs}
use Rattle.lattice_counts.proofs.Ranks.{all_small}
use Rattle.node_laws.proofs.NumbersLeadBack.{numbers_by_vertex}
use Rattle.node_laws.proofs.Ranks.{count_split}
use Rattle.vertex_numbers.specs.Bits.{bits, has_bit, trues}
use Rattle.vertex_numbers.specs.declared.starts.Draft.{Draft}
use Rattle.vertex_numbers.specs.Numbering.{AreStarts, IsDraft, mesh_bits, nodes_before, number_in, used_in}
use Rattle.vertex_numbers.proofs.EightBits.{bit_of, ones_below, ones_of_bits}
use Rattle.vertex_numbers.proofs.Sums.{length-filter_trues}

module _ (d : Dims) (ss : List State) where
  abbrev answers : ℕ → List Bool
  answers id = map (occurs (all_pieces d ss)) (range_with_len (8 * id) 8)

  -- one more vertex
  pub nodes_more : (id : ℕ) → nodes_before d ss id + count_ones (mesh_bits d ss id) ≡ nodes_before d ss (id + 1)
  unfolding nodes_before mesh_bits
  nodes_more id =
      let p = occurs (all_pieces d ss) in
      ap (λ n. length (filter p (range_with_len 0 (8 * id))) + n) (ones_of_bits (answers id) refl ∙ sym (length-filter_trues p (range_with_len (8 * id) 8)))
      ∙ ap (λ a. length (filter p (range_with_len 0 (8 * id))) + length (filter p (range_with_len a 8))) (zero_plus (8 * id))
      ∙ sym (count_split p 0 (8 * id) 8)
      ∙ ap (λ n. length (filter p (range_with_len 0 n))) (next id)
    where
      zero_plus : (n : ℕ) → n ≡ 0 + n
      zero_plus n = omega arith

      next : (id : ℕ) → 8 * id + 8 ≡ 8 * (id + 1)
      next id = omega arith

  few_before : (id : ℕ) → nodes_before d ss id ≤ 8 * id
  unfolding nodes_before
  few_before id =
      let p = occurs (all_pieces d ss) in
      let e = length-filter p (range_with_len 0 (8 * id)) in
      let l = count_by-le-length p (range_with_len 0 (8 * id)) in
      let n = length-range_with_len 0 (8 * id) in
      chain (length (filter p (range_with_len 0 (8 * id)))) _ _ (8 * id) e l n
    where
      chain : (a b c n : ℕ) → a ≡ b → b ≤ c → c ≡ n → a ≤ n
      chain a b c n e l f = omega arith

  -- so few that no number is too great
  pub before_small : IsDims d → (id : ℕ) → id ≤ length (vertices d) → nodes_before d ss id + 8 < 2 ^ 32
  before_small is id le = let a = all_small d is in let b = few_before id in chain (nodes_before d ss id) id (length (vertices d)) b le a
    where
      chain : (n id l : ℕ) → n ≤ 8 * id → id ≤ l → l ≤ 2 ^ 27 → n + 8 < 2 ^ 32
      chain n id l b le a = omega arith

  -- the bits of the nodes at the vertices of the ids from `first` on, and how many nodes stand before each
  pub record AreOfIds (first len : ℕ) (nodes before : List ℕ) : Type 0 where
    pub bits_are : nodes ≡ map (mesh_bits d ss) (range_with_len first len)
    pub before_are : before ≡ map (nodes_before d ss) (range_with_len first len)

  module _ (first len : ℕ) (nodes before : List ℕ) (are : AreOfIds first len nodes before) where
    pub bits_len : length nodes ≡ len
    bits_len = ap length are.bits_are ∙ length-map-range_with_len (mesh_bits d ss) first len

    before_len : length before ≡ len
    before_len = ap length are.before_are ∙ length-map-range_with_len (nodes_before d ss) first len

    bits_at : (id : ℕ) → first ≤ id → id < first + len → get_or nodes (id - first) 0 ≡ mesh_bits d ss id
    bits_at id low high = ap (λ xs. get_or xs (id - first) 0) are.bits_are ∙ get_or-map-range_with_len (mesh_bits d ss) first len (id - first) id 0 (omega arith) (omega arith)

    before_at : (id : ℕ) → first ≤ id → id < first + len → get_or before (id - first) 0 ≡ nodes_before d ss id
    before_at id low high = ap (λ xs. get_or xs (id - first) 0) are.before_are ∙ get_or-map-range_with_len (nodes_before d ss) first len (id - first) id 0 (omega arith) (omega arith)

    pub are_starts : IsDims d → first + len ≤ length (vertices d) → AreStarts nodes before
    are_starts is within = record {
      whole = before_len ∙ sym bits_len;
      few = λ n lt.
          (let e : get_or before n 0 ≡ nodes_before d ss (first + n) = ap (λ xs. get_or xs n 0) are.before_are ∙ get_or-map-range_with_len (nodes_before d ss) first len n (first + n) 0 (let l = before_len in omega arith) refl in
          let l = before_len in
          let s = before_small is (first + n) (omega arith) in
          subst (λ m. m + 8 < 2 ^ 32) (sym e) s);
    }

    module _ (key : ℕ) (low : first ≤ key / 8) (high : key / 8 < first + len) where
      whole_key : 8 * (key / 8) + key % 8 ≡ key
      whole_key = omega arith

      pub used_is : used_in (record { first = first; len = len; nodes = nodes; before = before }) key ≡ occurs (all_pieces d ss) key
      unfolding mesh_bits
      used_is =
          ap (λ n. has_bit n (key % 8)) (bits_at (key / 8) low high)
          ∙ bit_of (answers (key / 8)) refl (key % 8) (omega arith)
          ∙ get_or-map-range_with_len (occurs (all_pieces d ss)) (8 * (key / 8)) 8 (key % 8) key false (omega arith) whole_key

      pub number_is : first + len ≤ length (vertices d) → occurs (all_pieces d ss) key ≡ true → number_in (record { first = first; len = len; nodes = nodes; before = before }) key ≡ number_of (node_keys d ss) key
      unfolding mesh_bits nodes_before
      number_is within o =
          let p = occurs (all_pieces d ss) in
          (λ i. before_at (key / 8) low high i + count_ones (bits_at (key / 8) low high i % 2 ^ (key % 8)))
          ∙ ap (λ n. length (filter p (range_with_len 0 (8 * (key / 8)))) + n)
          (ones_below (answers (key / 8)) refl (key % 8) (omega arith)
          ∙ ap trues (take-map-range_with_len p (8 * (key / 8)) 8 (key % 8) (omega arith))
          ∙ sym (length-filter_trues p (range_with_len (8 * (key / 8)) (key % 8))))
          ∙ sym (numbers_by_vertex d ss key o (omega arith))

-- one more at the end
pub more_of_ids : {X : Type 0} (f : ℕ → X) (first id : ℕ) → first ≤ id → map f (range_with_len first (id + 1 - first)) ≡ map f (range_with_len first (id - first)) ++ f id ∷ []
more_of_ids f first id le =
    ap (λ n. map f (range_with_len first n)) (let e : id + 1 - first ≡ (id - first) + 1 = omega arith in e)
    ∙ map-range_with_len_more f first (id - first) id (omega arith)

pub pushed : {X : Type 0} (ok : Bool) (new old : List X) (x : X) → new ≡ (if ok then old ++ x ∷ [] else old) → ok ≡ true → new ≡ old ++ x ∷ []
pushed ok new old x e h = e ∙ ap (λ b. if b then old ++ x ∷ [] else old) h

-- the starts of one more id
pub draft_more : (d : Dims) (ss : List State) (id : ℕ) (old new : Draft) (bits : ℕ) → IsDraft d ss id old → bits ≡ mesh_bits d ss id →
    new.first ≡ old.first → new.nodes.items ≡ old.nodes.items ++ bits ∷ [] → new.before.items ≡ old.before.items ++ old.count ∷ [] → new.count ≡ old.count + count_ones bits → IsDraft d ss (id + 1) new
draft_more d ss id old new bits is e first nodes before count =
    record {
      begun = (let b = is.begun in omega arith);
      nodes = nodes ∙ (λ i. is.nodes i ++ e i ∷ []) ∙ sym (more_of_ids (mesh_bits d ss) old.first id is.begun) ∙ ap (λ f. map (mesh_bits d ss) (range_with_len f (id + 1 - f))) (sym first);
      before = before ∙ (λ i. is.before i ++ is.count i ∷ []) ∙ sym (more_of_ids (nodes_before d ss) old.first id is.begun) ∙ ap (λ f. map (nodes_before d ss) (range_with_len f (id + 1 - f))) (sym first);
      count = count ∙ (λ i. is.count i + count_ones (e i)) ∙ nodes_more d ss id;
    }

-- what the draft of some ids says
pub are_of_ids : (d : Dims) (ss : List State) (id : ℕ) (draft : Draft) → IsDraft d ss id draft → AreOfIds d ss draft.first (id - draft.first) draft.nodes.items draft.before.items
are_of_ids d ss id draft is = record { bits_are = is.nodes; before_are = is.before }
