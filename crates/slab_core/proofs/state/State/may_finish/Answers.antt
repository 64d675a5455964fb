use Rattle.std.proofs.Common.{sym, ◌∙◌}
use Rattle.slab_core.proofs.Needs.{drawn_slab}
use Rattle.slab_core.proofs.state.State.may_finish.Goals as goal

pub saw_reach-requires-clause-slab : goal.saw_reach-requires-clause-slab
saw_reach-requires-clause-slab c =
    let l = c.in-Some.ensures in
    drawn_slab c.args.self.now c.args.w c.in-Some.worker.now c.args.slab c.requires l.0 l.1 (sym c.has_drawn.ensures ∙ c.if-not-has_drawn.false)
