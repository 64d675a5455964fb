use Rattle.std.proofs.Common.{◌≡◌, length, arith, rules}
use Rattle.std.proofs.lemmas.List.{drop_all}
use Rattle.node_ele_write.proofs.line.Line.clear.Goals as goal

pub returns : goal.returns
returns c =
    let len : length c.self.inside.bytes ≡ 160 = search rules in
    drop_all 160 c.self.inside.bytes (omega arith)
