use Rattle.std.specs.Prelude.{◌+◌, is_some}
use Rattle.snap_laws.specs.Around.{near_here, value_on}
use Rattle.snap_rule.proofs.NearEdges.{TellsBelow}
use Rattle.snap_rule.proofs.state.near_edges.Given as goal

abbrev pub invariant-loop-n : goal.invariant-loop-n
invariant-loop-n l = TellsBelow (λ k. is_some (near_here l.fn.shares l.fn.own (value_on l.values (1 + k)) (1 + k))) l.near l.n
