use Rattle.std.proofs.Common.{◌≡◌, drop}
use Rattle.list_words.specs.Words.{has_all}
use Rattle.slab_core.proofs.lists.has_each.Given as goal

abbrev pub invariant-loop-value : goal.invariant-loop-value
invariant-loop-value l = has_all (drop l.value-index l.values) l.list ≡ has_all l.values l.list
