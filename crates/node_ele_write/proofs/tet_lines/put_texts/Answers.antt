use Rattle.std.proofs.Common.{◌≡◌, ◌+◌, ◌*◌, ◌<◌, arith, decimal, length, rules}
use Rattle.std.proofs.lemmas.List.{take_more_set}
use Rattle.node_ele_write.proofs.Lines.{fields_behind}
use Rattle.node_ele_write.proofs.tet_lines.put_texts.Goals as goal

pub returns-clause-text : goal.returns-clause-text
returns-clause-text c =
    let last : length c.put-end-4.new.bytes ≡ 512 = search rules in
    let within : c.put-end-4.result < length c.put-end-4.new.bytes = (let u = c.put_digit-end.ensures.end in let v = c.put-end.ensures.end in let w = c.put-end-2.ensures.end in let x = c.put-end-3.ensures.end in let y = c.put-end-4.ensures.end in let z = c.requires.room in omega arith) in
    fields_behind _ (decimal (10 * c.args.front.now.tens + c.args.digit)) (decimal c.args.a.now.number) (decimal c.args.b.now.number) (decimal c.args.c.now.number) (decimal c.args.d.now.number) _ _ _ _ _ _
    c.put_digit-end.ensures.text c.put-end.ensures.text c.put-end-2.ensures.text c.put-end-3.ensures.text c.put-end-4.ensures.text
    (take_more_set c.put-end-4.new.bytes c.put-end-4.result 10 within)
