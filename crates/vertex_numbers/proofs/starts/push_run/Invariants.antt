use Rattle.std.proofs.Common.{◌≡◌, ◌+◌, ℕ}
use Rattle.vertex_numbers.specs.Numbering.{HasRoom, IsDraft}
use Rattle.vertex_numbers.proofs.starts.push_run.Given as goal

abbrev pub invariant-loop : goal.invariant-loop
invariant-loop l = record {
  draft : IsDraft l._states.dims l._states.states (l._id + l.counter) l.draft;
  first : l.draft.first ≡ l.initial.draft.first;
  room : (n : ℕ) → HasRoom l.initial.draft (l.counter + n) → HasRoom l.draft n;
}
