use Rattle.std.proofs.Common.{◌≡◌, ◌++◌, decimal, rules}
use Rattle.node_ele_write.proofs.Lines.{node_line_made}
use Rattle.node_ele_write.proofs.node.put_node.Goals as goal

pub returns : goal.returns
returns c =
    let front : c.number.new.self ≡ decimal c.args.number ++ c.put_place.new.line = search rules in
    node_line_made c.args.frame.now c.args.number c.args.place c.args.level _ _ _ c.put_marker.ensures.text c.put_place.ensures.text front
