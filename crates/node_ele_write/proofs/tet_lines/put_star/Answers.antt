use Rattle.std.proofs.Common.{◌≡◌, length, rules}
use Rattle.node_ele_write.proofs.TetLines.{star_made}
use Rattle.node_ele_write.proofs.tet_lines.put_star.Goals as goal

pub returns-clause-text : goal.returns-clause-text
returns-clause-text c =
    let seven : length c.args.others.now ≡ 7 = search rules in
    star_made c.args.number _ _ _ _ _ _ c.args.own.now.number c.args.others.now c.index-others-0.result c.index-others-1.result c.index-others-2.result c.index-others-3.result c.index-others-4.result c.index-others-5.result c.index-others-6.result _ _ _ _ _ _ seven
    c.begin-digit.ensures.number c.next-digit.ensures.number c.next-digit-2.ensures.number c.next-digit-3.ensures.number c.next-digit-4.ensures.number c.next-digit-5.ensures.number
    c.put_texts-end.ensures.text c.put_texts-end-2.ensures.text c.put_texts-end-3.ensures.text c.put_texts-end-4.ensures.text c.put_texts-end-5.ensures.text c.put_texts.ensures.text
