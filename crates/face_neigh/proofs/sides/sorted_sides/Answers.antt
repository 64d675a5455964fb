use Rattle.std.proofs.Common.{rules, List, subst}
use Rattle.std.specs.Prelude.{IsPermutation}
use Rattle.std.proofs.lemmas.List.Sorted.{All-permutation, IsNonDecreasingBy-from_sort_by_key, IsPermutation-trans}
use Rattle.face_neigh.specs.declared.side.Side.{Side}
use Rattle.face_neigh.specs.Sides.{IsSmall, key_of}
use Rattle.face_neigh.proofs.sides.sorted_sides.Goals as goal

pub returns-clause-permutation : goal.returns-clause-permutation
returns-clause-permutation c =
    subst (λ (l : List Side). IsPermutation l c.sort_unstable_by_key.new.self.items) c.in_ok-sides.ensures.sides
    (IsPermutation-trans _ _ _ c.in_ok-gather.ensures c.sort_unstable_by_key.ensures.permutation)

pub returns-clause-small : goal.returns-clause-small
returns-clause-small c = All-permutation IsSmall _ _ (IsPermutation-trans _ _ _ c.in_ok-gather.ensures c.sort_unstable_by_key.ensures.permutation) c.in_ok-sides.ensures.small

pub returns-clause-sorted : goal.returns-clause-sorted
returns-clause-sorted c = IsNonDecreasingBy-from_sort_by_key key_of _ c.sort_unstable_by_key.ensures.sorted (λ a r f h. (search rules, search rules))
