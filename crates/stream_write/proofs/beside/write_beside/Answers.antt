use Rattle.std.proofs.Common.{rules}
use Rattle.stream_write.proofs.Pending.{then_no_memory}
use Rattle.stream_write.proofs.beside.write_beside.Goals as goal

pub returns-in-Err-made-clause-puts : goal.returns-in-Err-made-clause-puts
returns-in-Err-made-clause-puts g c = then_no_memory _ _ _ _ _ _ _ c.in-Ok.is (search rules)
