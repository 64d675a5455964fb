use Rattle.std.specs.Prelude.{IfSome}
use Rattle.definitions.specs.States.{is_nearer}
use Rattle.snap_laws.specs.Around.{near_here, value_on}
use Rattle.snap_rule.specs.Near.{IsNearCut}
use Rattle.snap_rule.proofs.NearEdges.{IsLeastTaken}
use Rattle.snap_rule.proofs.state.nearest.Given as goal

abbrev pub invariant-loop-left : goal.invariant-loop-left
invariant-loop-left l = IsLeastTaken is_nearer (λ edge. near_here l.fn.shares l.fn.own (value_on l.values edge) edge) l.left l.best × IfSome l.best IsNearCut

abbrev pub decreases-loop-left : goal.decreases-loop-left
decreases-loop-left l = l.left
