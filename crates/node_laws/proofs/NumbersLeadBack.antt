-- The number of a node is a rank, and leads back to its key, so that different nodes have different numbers, below the number of places.
use Rattle.std.proofs.Common.{◌≡◌, ℕ, ◌+◌, ◌*◌, ◌/◌, ◌%◌, ◌<◌, true, ◌==◌, List, [], ◌∷◌, length, get_or, sym, ap, ◌∙◌, inl, inr, arith, zero-add}
use Rattle.std.specs.Prelude.{filter}
use Rattle.std.specs.List.{list_any, range_with_len}
use Rattle.std.proofs.lemmas.Bool.{eqb-true, eq-eqb, or_left, or_right}
use Rattle.std.proofs.lemmas.List.Sums.{passes_at_first}
use Rattle.definitions.specs.declared.Dims.{Dims}
use Rattle.definitions.specs.declared.State.{State}
use Rattle.definitions.specs.Lattice.{vertices}
use Rattle.definitions.specs.Mesh.{all_pieces, occurs, node_keys, number_of}
use Rattle.lattice_laws.specs.Ascending.{Has}
use Rattle.lattice_laws.proofs.Lists.{place_below}
use Rattle.lattice_laws.proofs.Members.{has_range, has_filter}
use Rattle.node_laws.specs.Laws.{NumbersAreRanks, NumbersByVertex, NumbersLeadBack}
use Rattle.node_laws.proofs.Ranks.{count_split, rank_is}

-- a member is found
member_found : (key : ℕ) (xs : List ℕ) → Has key xs → list_any (λ k. k == key) xs ≡ true
member_found key [] h = absurd h
member_found key (x ∷ xs) (inl e) = or_left (x == key) (list_any (λ k. k == key) xs) (eq-eqb x key e)
member_found key (x ∷ xs) (inr h) = or_right (x == key) (list_any (λ k. k == key) xs) (member_found key xs h)

module _ (d : Dims) (ss : List State) where
  occurring : (key : ℕ) → occurs (all_pieces d ss) key ≡ true → key < 8 * length (vertices d) → list_any (λ k. k == key) (node_keys d ss) ≡ true
  unfolding node_keys
  occurring key h lt =
      member_found key (node_keys d ss)
      (has_filter (occurs (all_pieces d ss)) key (range_with_len 0 (8 * length (vertices d))) (has_range 0 (8 * length (vertices d)) key (omega arith) (omega arith)) h)

  leads_back : (key : ℕ) → occurs (all_pieces d ss) key ≡ true → key < 8 * length (vertices d) → get_or (node_keys d ss) (number_of (node_keys d ss) key) 0 ≡ key
  leads_back key h lt =
      eqb-true _ key (passes_at_first (λ k. k == key) (node_keys d ss) 0 (place_below (λ k. k == key) (node_keys d ss) (occurring key h lt)))

-- numbers and keys of nodes are one to one
pub numbers_lead_back : NumbersLeadBack
numbers_lead_back d ss = record {
  below = λ key h lt. place_below (λ k. k == key) (node_keys d ss) (occurring d ss key h lt);
  back = leads_back d ss;
  differ = λ a b ha hb la lb e. sym (leads_back d ss a ha la) ∙ (ap (λ n. get_or (node_keys d ss) n 0) e ∙ leads_back d ss b hb lb);
}

-- the number of a node is how many lower keys occur
pub numbers_are_ranks : NumbersAreRanks
unfolding node_keys
numbers_are_ranks d ss key h lt = rank_is (occurs (all_pieces d ss)) (8 * length (vertices d)) key h lt

-- and those are the ones of lower vertices, and of its own vertex
pub numbers_by_vertex : NumbersByVertex
numbers_by_vertex d ss key h lt =
    let p = occurs (all_pieces d ss) in
    let below = 8 * (key / 8) in
    let e : key ≡ below + key % 8 = omega arith in
    numbers_are_ranks d ss key h lt
    ∙ ap (λ n. length (filter p (range_with_len 0 n))) e
    ∙ count_split p 0 below (key % 8)
    ∙ ap (λ n. length (filter p (range_with_len 0 below)) + length (filter p (range_with_len n (key % 8)))) (zero-add below)
