use Rattle.std.proofs.Common.{◌≡◌, drop}
use Rattle.list_words.specs.Words.{has_all}
use Rattle.slab_core.specs.Steps.{slabs_done}
use Rattle.slab_core.proofs.worker.Worker.is_done_with_all.Given as goal

abbrev pub invariant-loop-slab : goal.invariant-loop-slab
invariant-loop-slab l = has_all (drop l.slab-index l.self.drawn) (slabs_done l.self) ≡ has_all l.self.drawn (slabs_done l.self)
