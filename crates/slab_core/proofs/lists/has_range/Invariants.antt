use Rattle.std.proofs.Common.{◌≡◌, ◌-◌, ◌≤◌}
use Rattle.std.specs.List.{range_with_len}
use Rattle.list_words.specs.Words.{has_all}
use Rattle.slab_core.proofs.lists.has_range.Given as goal

abbrev pub invariant-loop-value : goal.invariant-loop-value
invariant-loop-value l = (l.value ≤ l.to) × (has_all (range_with_len l.value (l.to - l.value)) l.list ≡ has_all (range_with_len l.from (l.to - l.from)) l.list)
