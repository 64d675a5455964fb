use Rattle.std.proofs.Common.{arith}
use Rattle.st_base.proofs.Places.{count_within}
use Rattle.mha_read.proofs.volumes.sample_count.Goals as goal

pub overflow_mul-result : goal.overflow_mul-result
overflow_mul-result c = omega (arith, count_within c.args.sizes c.requires)
