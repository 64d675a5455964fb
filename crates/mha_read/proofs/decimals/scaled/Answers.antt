use Rattle.std.proofs.Common.{arith}
use Rattle.mha_read.proofs.Small.{scaled_fits}
use Rattle.mha_read.proofs.decimals.scaled.Goals as goal

pub overflow_mul-result : goal.overflow_mul-result
overflow_mul-result c = rw c.pow.ensures (omega (arith, scaled_fits c.args.number c.args.decimals c.requires.small c.requires.few))

pub returns-clause-bound : goal.returns-clause-bound
returns-clause-bound c = rw c.pow.ensures (scaled_fits c.args.number c.args.decimals c.requires.small c.requires.few)
