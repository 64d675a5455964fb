use Rattle.std.proofs.Common.{◌≡◌}
use Rattle.slab_emit.proofs.crew.Crew.hand_back.Given as goal

abbrev pub invariant-loop-part : goal.invariant-loop-part
invariant-loop-part l = l.self ≡ l.initial.self

abbrev pub decreases-loop-part : goal.decreases-loop-part
decreases-loop-part l = goal.left-loop-part l
