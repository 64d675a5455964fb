use Rattle.std.proofs.Common.{subst}
use Rattle.slab_emit.specs.Sources.{AreMeasured}
use Rattle.slab_emit.proofs.source.Source.layout.Goals as goal

pub returns-clause-measured : goal.returns-clause-measured
returns-clause-measured c = subst AreMeasured c.self.view_is c.self.invariant.measured
