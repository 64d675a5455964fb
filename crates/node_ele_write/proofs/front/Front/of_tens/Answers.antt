use Rattle.std.proofs.Common.{◌-◌, arith, drop, rules}
use Rattle.std.proofs.lemmas.List.{take-take}
use Rattle.node_ele_write.proofs.Decimals.{any_length}
use Rattle.node_ele_write.proofs.TetLines.{front_made}
use Rattle.node_ele_write.proofs.front.Front.of_tens.Goals as goal

pub write_digits-start-requires : goal.write_digits-start-requires
write_digits-start-requires c = (any_length c.args.tens (omega arith), omega arith)

pub invariant_of-result : goal.invariant_of-result
invariant_of-result c =
    let start = c.write_digits-start.result in
    front_made start c.args.tens _ _ _ c.requires.some c.requires.small c.write_digits-start.ensures.start (search rules) c.write_digits-start.ensures.written
    (take-take 32 (52 - start) (drop start c.write_digits-start.new.buf) (omega arith))
