use Rattle.node_ele_write.proofs.Lines.{angle_line_made}
use Rattle.node_ele_write.proofs.report.add_angle.Goals as goal

pub returns : goal.returns
returns c =
    angle_line_made c.args.first c.args.word.now c.args.angle _ _ _ _ _ _ c.in_ok-extend_from_slice.ensures.items c.in_ok-push.ensures.items c.in_ok-add_cosine.ensures c.in_ok-push-2.ensures.items c.in_ok-add_where.ensures
