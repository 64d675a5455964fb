use Rattle.std.proofs.Common.{arith}
use Rattle.node_ele_write.proofs.Decimals.{fraction_bytes, fraction_length}
use Rattle.node_ele_write.proofs.fractions.Fraction.new.Goals as goal

pub write_digits-start-requires : goal.write_digits-start-requires
write_digits-start-requires c = (fraction_length c.args.parts c.requires, omega arith)

pub invariant_of-result : goal.invariant_of-result
invariant_of-result c = record {
  text = fraction_bytes _ c.args.parts _ _ c.requires c.write_digits-start.ensures.start c.write_digits-start.ensures.written;
  part = c.requires;
}
