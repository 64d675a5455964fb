use Rattle.std.proofs.Common.{◌≡◌}
use Rattle.slab_emit.proofs.crew.Crew.tools.Given as goal

abbrev pub invariant-loop : goal.invariant-loop
invariant-loop l = l.self-inside.workers ≡ l.initial.self-inside.workers
