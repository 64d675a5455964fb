use Rattle.std.proofs.Common.{sym, ◌∙◌, ap, w64, to_z}
use Rattle.std.specs.Prelude.{None}
use Rattle.definitions.specs.Lists.{least_by}
use Rattle.definitions.specs.States.{is_nearer, snapped}
use Rattle.definitions.specs.Values.{sign_of}
use Rattle.snap_laws.specs.Around.{nears_here}
use Rattle.snap_rule.proofs.Values.{read, state_nearest, state_zero}
use Rattle.snap_rule.proofs.state.state_of_values.Goals as goal

pub returns-then-own-eq0-clause-state : goal.returns-then-own-eq0-clause-state
returns-then-own-eq0-clause-state c =
    c.snapped.ensures.state
    ∙ (λ i. snapped (sign_of (read c.args.own c.requires.own i)) None)
    ∙ state_zero c.args.shares c.args.own c.args.values.now None (sym (read c.args.own c.requires.own) ∙ ap (to_z w64) c.if-own-eq0.true)

pub returns-else-own-eq0-clause-state : goal.returns-else-own-eq0-clause-state
returns-else-own-eq0-clause-state c =
    c.snapped-else-own-eq0.ensures.state
    ∙ (λ i. snapped (sign_of (read c.args.own c.requires.own i)) c.nearest.result)
    ∙ state_nearest c.args.shares c.args.own c.args.values.now c.nearest.result (c.nearest.ensures.least ∙ (λ i. least_by is_nearer (nears_here c.args.shares (read c.args.own c.requires.own i) c.args.values.now)))
