use Rattle.std.proofs.Common.{◌≡◌, ◌∙◌, ap, arith, length, take}
use Rattle.node_ele_write.specs.Texts.{last_word, spaced}
use Rattle.node_ele_write.proofs.Rows.{lanes_behind}
use Rattle.node_ele_write.proofs.texts.Text.put.Goals as goal

pub returns-clause-text : goal.returns-clause-text
returns-clause-text c =
    let text = c.self.inside in
    let is = c.self.invariant in
    let len : text.len ≡ length (spaced (last_word text.bytes)) = is.length_is ∙ is.text.count in
    let few = is.text.few in
    let number : last_word text.bytes ≡ c.args.self.now.number = ap (λ t. t.number) c.self.view_is in
    lanes_behind c.args.end 16 text.len c.args.bytes.now text.bytes _ c.requires is.wide (omega arith) ((λ i. take (len i) text.bytes) ∙ is.text.text ∙ ap spaced number)
