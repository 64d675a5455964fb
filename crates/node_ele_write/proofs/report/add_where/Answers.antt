use Rattle.node_ele_write.proofs.Lines.{place_of_angle_made}
use Rattle.node_ele_write.proofs.report.add_where.Goals as goal

pub returns : goal.returns
returns c =
    place_of_angle_made c.args.first c.args.angle _ _ _ _ _ _ _ c.from.ensures c.from-2.ensures c.in_ok-add_number.ensures c.in_ok-add_number-2.ensures c.in_ok-add_number-3.ensures c.in_ok-push.ensures.items
