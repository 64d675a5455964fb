use Rattle.std.proofs.Common.{◌++◌, codes, decimal}
use Rattle.stuff.proofs.Growing.{two_parts}
use Rattle.stuff.proofs.trouble.add_truncated.Goals as goal

pub returns-clause-text : goal.returns-clause-text
returns-clause-text c =
    let wanted = two_parts c.add-2.new.line.items c.add_number-2.new.line.items c.add-3.new.line.items (decimal c.args.wanted) (codes " bytes") c.add_number-2.ensures.text c.add-3.ensures in
    let of = two_parts c.add_number.new.line.items c.add-2.new.line.items c.add-3.new.line.items (codes " of ") (decimal c.args.wanted ++ codes " bytes") c.add-2.ensures wanted in
    let got = two_parts c.add.new.line.items c.add_number.new.line.items c.add-3.new.line.items (decimal c.args.got) (codes " of " ++ (decimal c.args.wanted ++ codes " bytes")) c.add_number.ensures.text of in
    two_parts c.args.line.now.items c.add.new.line.items c.add-3.new.line.items (codes "truncated: ") (decimal c.args.got ++ (codes " of " ++ (decimal c.args.wanted ++ codes " bytes"))) c.add.ensures got
