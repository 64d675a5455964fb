use Rattle.std.proofs.Common.{◌*◌, ◌^◌, ◌<◌, length, arith}
use Rattle.mesh_files.proofs.GridUnits.{product_below}
use Rattle.mesh_read.proofs.decimals.thirteen_digits.Goals as goal

pub overflow_mul-result : goal.overflow_mul-result
overflow_mul-result c =
    let below : c.short_value-value.result * c.pow.result < 10 ^ 13 = product_below c.short_value-value.result (length c.args.front.now) c.pow.result c.requires.few c.short_value-value.ensures.bound c.pow.ensures in
    omega arith

pub returns-clause-bound : goal.returns-clause-bound
returns-clause-bound c = product_below c.short_value-value.result (length c.args.front.now) c.pow.result c.requires.few c.short_value-value.ensures.bound c.pow.ensures
