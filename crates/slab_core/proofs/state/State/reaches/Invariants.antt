use Rattle.std.proofs.Common.{◌≡◌, drop}
use Rattle.std.specs.List.{list_any}
use Rattle.definitions.specs.Layout.{is_in_reach}
use Rattle.slab_core.specs.Steps.{reaches}
use Rattle.slab_core.proofs.state.State.reaches.Given as goal

abbrev pub invariant-loop-slab : goal.invariant-loop-slab
invariant-loop-slab l = (l.slab-items ≡ l.worker.drawn) × (list_any (λ j. is_in_reach l.self.dims l.self.slab j l.h) (drop l.slab-index l.worker.drawn) ≡ reaches l.self l.worker l.h)
