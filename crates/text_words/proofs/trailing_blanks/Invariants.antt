use Rattle.std.proofs.Common.{◌≡◌, ◌+◌, ◌≤◌, length, take}
use Rattle.std.specs.List.{suffix_len}
use Rattle.formats.specs.Counts.{is_blank}
use Rattle.text_words.proofs.trailing_blanks.Given as goal

abbrev pub invariant-loop-rest : goal.invariant-loop-rest
invariant-loop-rest l = record {
  within : l.rest ≤ length l.text;
  blanks : l.rest + suffix_len is_blank l.text ≡ length l.text + suffix_len is_blank (take l.rest l.text);
}

abbrev pub decreases-loop-rest : goal.decreases-loop-rest
decreases-loop-rest l = l.rest
