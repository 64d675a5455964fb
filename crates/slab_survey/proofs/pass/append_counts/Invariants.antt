use Rattle.std.proofs.Common.{◌≡◌, ◌+◌, ◌-◌, ◌≤◌, ◌++◌, length, vec_capacity}
use Rattle.std.specs.List.{range_with_len}
use Rattle.slab_survey.specs.Layers.{counts_of_layers}
use Rattle.slab_survey.proofs.pass.append_counts.Given as goal

abbrev pub invariant-loop-h : goal.invariant-loop-h
invariant-loop-h l = record {
  from_here : l.initial.h ≤ l.h;
  to_end : l.h ≤ l.to;
  same : l.seat ≡ l.initial.seat;
  counts : l.counts.items ≡ l.initial.counts.items ++ counts_of_layers l.cells.subject (range_with_len l.initial.h (l.h - l.initial.h));
  long : length l.counts.items ≡ length l.initial.counts.items + (l.h - l.initial.h);
  room : vec_capacity l.counts ≡ vec_capacity l.initial.counts;
}
