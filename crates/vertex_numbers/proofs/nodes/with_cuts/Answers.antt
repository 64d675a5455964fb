use Rattle.std.proofs.Common.{◌≡◌, ◌+◌, ◌*◌, ◌∷◌, length, map, None, ◌∙◌, sym, ap, rules, get_or, ℕ}
use mir.Val.{bool_byte}
use Rattle.vertex_numbers.specs.Around.{crosses}
use Rattle.vertex_numbers.specs.Bits.{bits}
use Rattle.vertex_numbers.proofs.Seven.{seven_of, eight_bits}
use Rattle.vertex_numbers.proofs.nodes.with_cuts.Goals as goal

pub returns : goal.returns
returns c =
    let up = c.args.around.now.up in
    let len : length up ≡ 7 = search rules in
    let cut = λ (n : ℕ). crosses c.args.around.now.own (get_or up n None) in
    (λ i. c.from-5.ensures i
    + 2 * (c.from-6.ensures ∙ ap bool_byte c.crosses-5.ensures) i
    + 4 * (c.from-7.ensures ∙ ap bool_byte c.crosses-6.ensures) i
    + 8 * (c.from-8.ensures ∙ ap bool_byte c.crosses-7.ensures) i
    + 16 * ((c.from.ensures ∙ ap bool_byte c.crosses.ensures) i
    + 2 * (c.from-2.ensures ∙ ap bool_byte c.crosses-2.ensures) i
    + 4 * (c.from-3.ensures ∙ ap bool_byte c.crosses-3.ensures) i
    + 8 * (c.from-4.ensures ∙ ap bool_byte c.crosses-4.ensures) i))
    ∙ eight_bits c.args.is_node (cut 0) (cut 1) (cut 2) (cut 3) (cut 4) (cut 5) (cut 6)
    ∙ ap (λ xs. bits (c.args.is_node ∷ map (crosses c.args.around.now.own) xs)) (sym (seven_of None up len))
