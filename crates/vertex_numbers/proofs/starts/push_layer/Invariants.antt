use Rattle.std.proofs.Common.{◌≡◌}
use Rattle.vertex_numbers.specs.Counts.{row_start}
use Rattle.vertex_numbers.specs.Numbering.{IsDraft}
use Rattle.vertex_numbers.proofs.starts.push_layer.Given as goal

abbrev pub invariant-loop-j : goal.invariant-loop-j
invariant-loop-j l = record {
  draft : IsDraft l.states.dims l.states.states (row_start l.states.dims l.fn.h l.j) l.draft;
  first : l.draft.first ≡ l.initial.draft.first;
}
