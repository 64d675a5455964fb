use Rattle.std.proofs.Common.{◌≡◌, length}
use Rattle.std.specs.List.{list_all}
use Rattle.formats.specs.Decimals.{is_between}
use Rattle.formats.specs.Heads.{words_of}
use Rattle.mha_read.proofs.numbers.are_between.Given as goal

abbrev pub invariant-loop-word : goal.invariant-loop-word
invariant-loop-word l = list_all (is_between l.low l.high) (words_of l.value) ≡ list_all (is_between l.low l.high) (words_of l.rest)

abbrev pub decreases-loop-word : goal.decreases-loop-word
decreases-loop-word l = length l.rest
