use Rattle.std.proofs.Common.{◌≡◌, ◌∙◌, ap, arith, length, rules, take}
use Rattle.node_ele_write.proofs.Rows.{text_behind}
use Rattle.node_ele_write.proofs.row.Row.world.Goals as goal

pub returns-clause-text : goal.returns-clause-text
returns-clause-text c =
    let row = c.self.inside in
    let bytes : length row.bytes ≡ 156 = search rules in
    let new : length c.copy_from_slice.new.self ≡ 48 = search rules in
    let within = c.self.invariant in
    let is = c.len.ensures.text in
    text_behind row.end _ c.len.result row.bytes c.copy_from_slice.new.self _ _ (omega arith) (let few = is.few in let l = c.len.ensures.len in omega arith) (ap (λ r. r.text) c.self.view_is)
    ((λ i. take (c.len.ensures.len i) ((c.copy_from_slice.ensures.after ∙ c.bytes.ensures) i)) ∙ is.text)
