use Rattle.std.proofs.Common.{◌≡◌, ◌+◌, ◌*◌, ◌∙◌, ap, arith, decimal, sym}
use Rattle.node_ele_write.proofs.Rows.{lanes_and_byte}
use Rattle.node_ele_write.proofs.front.Front.put_digit.Goals as goal

pub returns-clause-text : goal.returns-clause-text
returns-clause-text c =
    let front = c.self.inside in
    let is = c.self.invariant in
    let few = is.few in
    let tens : front.tens ≡ c.args.self.now.tens = ap (λ f. f.tens) c.self.view_is in
    let small = c.requires.small in
    lanes_and_byte c.args.end 32 front.len (48 + c.args.digit) c.args.bytes.now front.bytes _ c.requires.room is.wide (omega arith)
    (sym (is.text c.args.digit c.requires.digit (omega arith)) ∙ ap (λ n. decimal (10 * n + c.args.digit)) tens)
