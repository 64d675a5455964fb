use Rattle.std.proofs.Common.{◌≡◌, ◌+◌, ◌-◌, ◌≤◌, ℕ, List, length}
use Rattle.std.specs.List.{range_with_len}
use Rattle.definitions.specs.Lattice.{layers}
use Rattle.slab_survey.specs.Layers.{vertices_in, MadeOnce, Surveys}
use Rattle.slab_survey.proofs.pass.know_layers.Given as goal

abbrev pub invariant-loop-h : goal.invariant-loop-h
invariant-loop-h g l = record {
  from_here : l.initial.h ≤ l.h;
  to_end : l.h ≤ l.to;
  survey : (grown : List ℕ) × Surveys (range_with_len l.initial.h (l.h - l.initial.h)) l.initial.seat l.seat grown × (g.L.Ledger.count l.ledger ≡ g.L.Ledger.count l.initial.ledger + vertices_in l.fn.field.dims grown);
  made : l.made ≡ length l.seat.made;
  once : MadeOnce (layers l.fn.field.dims) l.seat;
}
