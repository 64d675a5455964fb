use Rattle.std.proofs.Common.{decimal, length, drop, ap, arith, length-append, length-drop}
use Rattle.node_ele_write.proofs.Decimals.{any_length, small_length}
use Rattle.node_ele_write.proofs.line.Line.number.Goals as goal

pub write_digits-self-inside-requires : goal.write_digits-self-inside-requires
write_digits-self-inside-requires c =
    let line = c.self.inside in
    (omega (arith, any_length c.args.number (omega arith), length-drop line.start line.bytes, ap length c.self.view_is), omega arith)

pub returns-clause-any : goal.returns-clause-any
returns-clause-any c =
    rw c.write_digits-self-inside.ensures.written (omega (arith, length-append (decimal c.args.number) (drop c.self.inside.start c.self.inside.bytes), ap length c.self.view_is, any_length c.args.number (omega arith)))

pub returns-clause-small : goal.returns-clause-small
returns-clause-small c = λ small.
    rw c.write_digits-self-inside.ensures.written (omega (arith, length-append (decimal c.args.number) (drop c.self.inside.start c.self.inside.bytes), ap length c.self.view_is, small_length c.args.number small))
