use Rattle.std.proofs.Common.{◌≡◌, sym, subst}
use Rattle.std.proofs.lemmas.Result.{IfOk-weaker}
use Rattle.definitions.specs.Mesh.{ArePadded}
use Rattle.definitions.specs.States.{states}
use Rattle.node_laws.proofs.Padding.{states_are_padded}
use Rattle.mesh_lists.proofs.Results.{if_ok_both}
use Rattle.mesh_lists.proofs.build.states_of.Goals as goal

pub returns-clause-padded : goal.returns-clause-padded
returns-clause-padded c =
    let f = c.args.field.now in
    IfOk-weaker c.all_states.result (λ s. (s.dims ≡ f.dims) × (s.states ≡ states f c.args.shares)) (λ s. ArePadded s.dims s.states)
    (λ s h. subst (λ ss. ArePadded s.dims ss) (sym h.1) (subst (λ d. ArePadded d (states f c.args.shares)) (sym h.0) (states_are_padded f c.args.shares)))
    (if_ok_both c.all_states.result _ _ c.all_states.ensures.dims c.all_states.ensures.states)
