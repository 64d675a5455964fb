use Rattle.std.proofs.Common.{◌≡◌, length}
use Rattle.desk_mem.specs.HeldUnder.{held_under}
use Rattle.desk_mem.proofs.held.copy_of.Given as goal

abbrev pub invariant-loop-rest : goal.invariant-loop-rest
invariant-loop-rest l = held_under l.rest l.name ≡ held_under l.inputs l.name

abbrev pub decreases-loop-rest : goal.decreases-loop-rest
decreases-loop-rest l = length l.rest
