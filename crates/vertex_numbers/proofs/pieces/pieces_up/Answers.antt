use Rattle.std.proofs.Common.{◌≡◌, length, rules, sym, ◌∙◌}
use Rattle.vertex_numbers.proofs.NoPlus.{no_pieces}
use Rattle.vertex_numbers.proofs.pieces.pieces_up.Goals as goal

pub returns-then-lacks_plus-clause-count : goal.returns-then-lacks_plus-clause-count
returns-then-lacks_plus-clause-count c =
    let len : length c.args.around.now.up ≡ 7 = search rules in
    sym (no_pieces c.args.around.now.own c.args.around.now.up len (sym c.lacks_plus.ensures ∙ c.if-lacks_plus.true))
