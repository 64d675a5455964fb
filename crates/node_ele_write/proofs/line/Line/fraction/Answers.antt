use Rattle.std.proofs.Common.{◌*◌, ◌^◌, arith, length-append}
use Rattle.mesh_texts.specs.Coordinates.{padded_decimal}
use Rattle.node_ele_write.proofs.Decimals.{one_before_decimals, length_decimals}
use Rattle.node_ele_write.proofs.line.Line.fraction.Goals as goal

pub replace_first-requires : goal.replace_first-requires
replace_first-requires c =
    rw (c.number.ensures.text, one_before_decimals c.args.parts c.requires.part) (omega arith)

pub returns-clause-text : goal.returns-clause-text
returns-clause-text c =
    rw (c.replace_first.ensures, c.number.ensures.text, one_before_decimals c.args.parts c.requires.part)

pub returns-clause-length : goal.returns-clause-length
returns-clause-length c =
    rw (c.replace_first.ensures, c.number.ensures.text, one_before_decimals c.args.parts c.requires.part) (omega (arith, length-append (padded_decimal 13 (c.args.parts * 5 ^ 13)) c.args.self.now, length_decimals c.args.parts c.requires.part))
