use Rattle.std.proofs.Common.{◌≡◌}
use Rattle.definitions.specs.Layout.{layer_start}
use Rattle.vertex_numbers.specs.Numbering.{IsDraft}
use Rattle.vertex_numbers.proofs.starts.drafted.Given as goal

abbrev pub invariant-loop-h : goal.invariant-loop-h
invariant-loop-h l = record {
  draft : IsDraft l.states.dims l.states.states (layer_start l.states.dims l.h) l.draft;
  first : l.draft.first ≡ layer_start l.states.dims l.fn.from;
}
