use Rattle.std.proofs.Common.{◌-◌, ◌≤◌}
use Rattle.slab_emit.specs.declared.Lines.TheVariants.{Angles}
use Rattle.mesh_rounds.specs.Rounds.{IsReached}
use Rattle.mesh_rounds.proofs.rounds.extremes.Given as goal

abbrev pub invariant-loop-reached : goal.invariant-loop-reached
invariant-loop-reached g l = record {
  reached : IsReached Angles l.source l.reached;
  crew : 1 ≤ l.crew;
}

abbrev pub decreases-loop-reached : goal.decreases-loop-reached
decreases-loop-reached g l = l.slabs - l.reached.first
