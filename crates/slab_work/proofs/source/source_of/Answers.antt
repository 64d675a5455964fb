use Rattle.std.proofs.Common.{subst}
use Rattle.definitions.specs.States.{IsShares}
use Rattle.slab_work.proofs.Surveys.{fits}
use Rattle.slab_work.proofs.source.source_of.Goals as goal

pub new-requires : goal.new-requires
new-requires c =
    fits c.args.survey.now.subject.field c.args.survey.now.subject.shares c.field.result.now c.states.result.now.states c.states.result.now.dims c.offsets.result.now c.layout.result.now
    (subst IsShares c.shares.ensures c.within_limits.ensures) c.field.ensures c.states.ensures.states c.states.ensures.dims c.offsets.ensures c.layout.ensures.sizes c.layout.ensures.layout
