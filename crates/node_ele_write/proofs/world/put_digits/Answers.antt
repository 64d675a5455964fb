use Rattle.std.proofs.Common.{◌+◌, decimal, arith, length-append}
use Rattle.std.proofs.lemmas.Fmt.{decimal_nonempty}
use Rattle.node_ele_write.proofs.WorldDecimals.{digits_put, digits_length}
use Rattle.node_ele_write.proofs.world.put_digits.Goals as goal

pub returns-clause-text : goal.returns-clause-text
returns-clause-text c = λ k some e. digits_put k c.args.one c.args.number c.args.line.now c.number.new.self c.drop_first.new.self some e c.requires.below c.requires.one c.number.ensures.text c.drop_first.ensures

pub returns-clause-length : goal.returns-clause-length
returns-clause-length c = λ k some e. digits_length k c.args.one c.args.number c.args.line.now c.drop_first.new.self some e c.requires.below c.requires.one (digits_put k c.args.one c.args.number c.args.line.now c.number.new.self c.drop_first.new.self some e c.requires.below c.requires.one c.number.ensures.text c.drop_first.ensures)

pub drop_first-requires : goal.drop_first-requires
drop_first-requires c = rw c.number.ensures.text (omega (arith, length-append (decimal (c.args.one + c.args.number)) c.args.line.now, decimal_nonempty (c.args.one + c.args.number) (omega (arith, c.requires.one, c.requires.below))))
