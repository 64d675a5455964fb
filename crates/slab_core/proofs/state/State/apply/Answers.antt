use Rattle.slab_core.proofs.Needs.{raised_flag, finished_slab}
use Rattle.slab_core.proofs.state.State.apply.Goals as goal

pub raise-requires-clause-layer : goal.raise-requires-clause-layer
raise-requires-clause-layer c = raised_flag c.args.self.now c.args.event c.in-Raise.w c.in-Raise.h c.requires.sound c.in-Raise.is c.requires.allowed

pub finish-requires-clause-slab : goal.finish-requires-clause-slab
finish-requires-clause-slab c = finished_slab c.args.self.now c.args.event c.in-Finish.w c.in-Finish.slab c.requires.sound c.in-Finish.is c.requires.allowed
