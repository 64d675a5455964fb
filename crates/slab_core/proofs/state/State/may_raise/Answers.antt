use Rattle.std.proofs.Common.{sym, ◌∙◌}
use Rattle.slab_core.proofs.Needs.{drawn_slabs}
use Rattle.slab_core.proofs.Keeps.{reached_layer}
use Rattle.slab_core.proofs.state.State.may_raise.Goals as goal

pub reaches-requires-clause-slabs : goal.reaches-requires-clause-slabs
reaches-requires-clause-slabs c = let l = c.in-Some.ensures in drawn_slabs c.args.self.now c.args.w c.in-Some.worker.now c.requires l.0 l.1

pub has_put_layer-requires-clause-layer : goal.has_put_layer-requires-clause-layer
has_put_layer-requires-clause-layer c = reached_layer c.args.self.now c.args.h c.in-Some.worker.now.drawn (sym c.reaches.ensures ∙ c.if-not-reaches.false)
