use Rattle.std.proofs.Common.{◌≡◌, ◌+◌, take, drop}
use Rattle.slab_core.specs.Steps.{after_all, count_allowed}
use Rattle.slab_core.specs.Sound.{IsSound}
use Rattle.slab_core.proofs.machine.Core.run.Given as goal

-- the first i events have happened
abbrev pub invariant-loop-i : goal.invariant-loop-i
invariant-loop-i l = record {
  count : count_allowed l.events l.initial.self ≡ l.i + count_allowed (drop l.i l.events) l.self;
  left : l.self ≡ after_all (take l.i l.events) l.initial.self;
  sound : IsSound l.self;
}
