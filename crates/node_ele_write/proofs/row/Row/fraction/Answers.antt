use Rattle.std.proofs.Common.{◌≡◌, ◌∙◌, ap, arith, length, rules, take}
use Rattle.node_ele_write.proofs.Rows.{text_behind}
use Rattle.node_ele_write.proofs.row.Row.fraction.Goals as goal

pub returns-clause-text : goal.returns-clause-text
returns-clause-text c =
    let row = c.self.inside in
    let bytes : length row.bytes ≡ 156 = search rules in
    let new : length c.copy_from_slice.new.self ≡ 16 = search rules in
    let within = c.self.invariant in
    let is = c.bytes.ensures.text in
    text_behind row.end _ 14 row.bytes c.copy_from_slice.new.self _ _ (omega arith) (omega arith) (ap (λ r. r.text) c.self.view_is)
    (ap (take 14) (c.copy_from_slice.ensures.after ∙ c.bytes.ensures.bytes) ∙ is.text)
