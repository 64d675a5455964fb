-- Pairs of byte vectors, as pairs of lists.
use Rattle.std.specs.Prelude.{ℕ, List}
use Rattle.mha_read.specs.declared.pairs.Pair.{Pair}

abbrev pub shown_pair : Pair → List ℕ × List ℕ
shown_pair pair = (pair.name.items, pair.value.items)
