use Rattle.std.proofs.KnownBytes.{Keeps-refl}
use Rattle.desk_std.proofs.Retries.{read_failed, read_settled}
use Rattle.desk_std.proofs.calls.read_some.Goals as goal

pub loop-init : goal.loop-init
loop-init g c = Keeps-refl _

pub returns-in-Some-clause-bytes : goal.returns-in-Some-clause-bytes
returns-in-Some-clause-bytes g c = read_settled _ _ _ c.read.result _ _ c.loop.invariant c.read.ensures.bytes c.in-Some.ensures

pub loop-preserved : goal.loop-preserved
loop-preserved g c = read_failed _ _ _ c.read.result _ c.loop.invariant c.read.ensures.bytes c.in_default.ensures
