use Rattle.std.proofs.KnownBytes.{Keeps-refl}
use Rattle.desk_std.proofs.Retries.{write_failed, write_taken, write_settled}
use Rattle.desk_std.proofs.calls.write_some.Goals as goal

pub loop-init : goal.loop-init
loop-init g c = Keeps-refl _

pub returns-in-Some-clause-bytes : goal.returns-in-Some-clause-bytes
returns-in-Some-clause-bytes g c = write_taken _ _ c.in-Some.done _ _ (write_settled _ _ _ c.write.result _ _ c.loop.invariant c.write.ensures.bytes c.in-Some.ensures) c.some_taken.ensures.taken

pub loop-preserved : goal.loop-preserved
loop-preserved g c = write_failed _ _ _ c.write.result _ c.loop.invariant c.write.ensures.bytes c.in_default.ensures
