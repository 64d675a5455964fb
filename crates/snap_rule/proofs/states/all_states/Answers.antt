use Rattle.std.proofs.Common.{sym, ◌∙◌, ap, subst}
use Rattle.snap_rule.specs.Codes.{AreCodes}
use Rattle.snap_rule.proofs.Codes.{are_codes, states_decoded}
use Rattle.snap_rule.proofs.states.all_states.Goals as goal

pub of_codes-requires : goal.of_codes-requires
of_codes-requires g c =
    let is = c.dims-dims.ensures.field in
    subst (λ d. AreCodes d c.in_ok-codes.codes.items) (sym c.dims-dims.ensures.value) (are_codes c.args.field.now c.args.shares is.sizes c.in_ok-codes.codes.items c.in_ok-codes.ensures)

pub returns-clause-states : goal.returns-clause-states
returns-clause-states g c = ap (λ r. r.states) c.of_codes.ensures ∙ states_decoded c.args.field.now c.args.shares c.in_ok-codes.codes.items c.in_ok-codes.ensures
