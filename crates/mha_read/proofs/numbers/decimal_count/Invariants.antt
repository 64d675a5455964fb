use Rattle.std.proofs.Common.{◌≡◌, ◌+◌, ◌≤◌, length}
use Rattle.formats.specs.Heads.{words_of}
use Rattle.mha_read.proofs.AxisWords.{decimal_tally}
use Rattle.mha_read.proofs.numbers.decimal_count.Given as goal

abbrev pub invariant-loop-word : goal.invariant-loop-word
invariant-loop-word l = record {
  same : decimal_tally 0 (words_of l.value) ≡ decimal_tally l.decimals (words_of l.rest);
  within : l.decimals + length l.rest ≤ length l.value;
}

abbrev pub decreases-loop-word : goal.decreases-loop-word
decreases-loop-word l = length l.rest
