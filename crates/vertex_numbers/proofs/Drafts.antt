-- What holds of the starts of some ids, and of room for more.
use Rattle.std.proofs.Common.{◌≡◌, ℕ, ◌+◌, ◌-◌, ◌^◌, ◌<◌, ◌≤◌, List, length, arith, ap, sym, subst, ◌∙◌}
use Rattle.std.specs.Prelude.{count_ones, map, vec_capacity}
use Rattle.std.specs.List.{range_with_len}
use Rattle.definitions.specs.declared.Dims.{Dims}
use Rattle.definitions.specs.declared.State.{State}
use Rattle.definitions.specs.Lattice.{IsDims, vertices}
use Rattle.vertex_numbers.specs.declared.starts.Draft.{Draft}
use Rattle.vertex_numbers.specs.Numbering.{HasRoom, IsDraft, mesh_bits, nodes_before}
use Rattle.vertex_numbers.proofs.NumberedIds.{before_small, nodes_more}

-- the nodes of one more vertex are few enough to be counted
pub few_more : (d : Dims) (ss : List State) → IsDims d → (id count bits : ℕ) → id < length (vertices d) → count ≡ nodes_before d ss id → bits ≡ mesh_bits d ss id → count + count_ones bits < 2 ^ 32
few_more d ss is id count bits lt e f = fits _ _ ((λ i. e i + count_ones (f i)) ∙ nodes_more d ss id) (before_small d ss is (id + 1) (next id (length (vertices d)) lt))
  where
    fits : (n m : ℕ) → n ≡ m → m + 8 < 2 ^ 32 → n < 2 ^ 32
    fits n m e h = omega arith

    next : (n l : ℕ) → n < l → n + 1 ≤ l
    next n l h = omega arith

-- where there is room for some, there is for fewer
pub room_for_fewer : (draft : Draft) (m n : ℕ) → m ≤ n → HasRoom draft n → HasRoom draft m
room_for_fewer draft m n le room = record {
  nodes = fewer (length draft.nodes.items) (vec_capacity draft.nodes) room.nodes;
  before = fewer (length draft.before.items) (vec_capacity draft.before) room.before;
}
  where
    fewer : (l c : ℕ) → l + n ≤ c → l + m ≤ c
    fewer l c h = omega arith

-- another draft of the same
pub same_draft : (d : Dims) (ss : List State) (id : ℕ) (old new : Draft) → IsDraft d ss id old → new.first ≡ old.first → new.nodes.items ≡ old.nodes.items → new.before.items ≡ old.before.items → new.count ≡ old.count → IsDraft d ss id new
same_draft d ss id old new is first nodes before count = record {
  begun = subst (λ n. n ≤ id) (sym first) is.begun;
  nodes = nodes ∙ is.nodes ∙ ap (λ f. map (mesh_bits d ss) (range_with_len f (id - f))) (sym first);
  before = before ∙ is.before ∙ ap (λ f. map (nodes_before d ss) (range_with_len f (id - f))) (sym first);
  count = count ∙ is.count;
}
