use Rattle.std.proofs.Common.{◌≡◌, List, ℕ, subst}
use Rattle.std.specs.Prelude.{IfOk}
use Rattle.slab_work.proofs.Surveys.{padded, tets_are}
use Rattle.slab_work.proofs.list.list_tets.Goals as goal

pub of_all-requires : goal.of_all-requires
of_all-requires c =
    let of = c.args.survey.now.subject in
    let s = c.states-states in
    padded of.field of.shares s.result.now.dims s.result.now.states s.ensures.dims s.ensures.states

pub tets_of-requires-clause-padded : goal.tets_of-requires-clause-padded
tets_of-requires-clause-padded c =
    let of = c.args.survey.now.subject in
    let s = c.states-states in
    padded of.field of.shares s.result.now.dims s.result.now.states s.ensures.dims s.ensures.states

pub returns : goal.returns
returns c =
    let of = c.args.survey.now.subject in
    let s = c.states-states in
    subst (λ (tets : List (List ℕ)). IfOk c.tets_of.result (λ ts. ts.items ≡ tets)) (tets_are of.field of.shares s.result.now.dims s.result.now.states s.ensures.dims s.ensures.states) c.tets_of.ensures
