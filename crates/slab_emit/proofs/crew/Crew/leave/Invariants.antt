use Rattle.std.proofs.Common.{◌≡◌}
use Rattle.slab_emit.proofs.crew.Crew.leave.Given as goal

abbrev pub invariant-loop : goal.invariant-loop
invariant-loop l = l.self ≡ l.initial.self
