use Rattle.std.proofs.Common.{◌≡◌, ◌+◌, ◌≤◌, length}
use Rattle.formats.specs.Heads.{words_of}
use Rattle.mha_read.proofs.ValueWords.{tally}
use Rattle.mha_read.proofs.counts.size_count.Given as goal

abbrev pub invariant-loop-word : goal.invariant-loop-word
invariant-loop-word l = record {
  same : tally 0 (words_of l.value) ≡ tally l.sizes (words_of l.rest);
  within : l.sizes + length l.rest ≤ length l.value;
}

abbrev pub decreases-loop-word : goal.decreases-loop-word
decreases-loop-word l = length l.rest
