use Rattle.std.proofs.Common.{sym, ◌∙◌}
use Rattle.snap_rule.proofs.Values.{read}
use Rattle.snap_laws.specs.Around.{state_here}
use Rattle.snap_laws.proofs.ByValues.{states_by_values}
use Rattle.snap_rule.proofs.vertex.state_at.Goals as goal

pub returns-clause-state : goal.returns-clause-state
returns-clause-state c =
    c.state_of_values.ensures.state
    ∙ (λ i. state_here c.args.shares (read c.values_at-own.result.0 c.values_at-own.ensures.own_small i) c.values_at-own.result.1)
    ∙ (λ i. state_here c.args.shares (c.values_at-own.ensures.own i) (c.values_at-own.ensures.around i))
    ∙ sym (states_by_values c.args.field.now c.args.shares c.args.v c.requires)
