use Rattle.std.proofs.Common.{◌≡◌, replicate}
use Rattle.slab_core.specs.States.{new_worker}
use Rattle.slab_core.proofs.state.new_workers.Given as goal

abbrev pub invariant-loop : goal.invariant-loop
invariant-loop l = l.workers.items ≡ replicate l.counter new_worker
