use Rattle.std.proofs.Common.{sym, ◌∙◌}
use Rattle.vertex_numbers.proofs.NoPlus.{no_nodes}
use Rattle.vertex_numbers.proofs.nodes.nodes_around.Goals as goal

pub returns-in-Minus-clause-nodes : goal.returns-in-Minus-clause-nodes
returns-in-Minus-clause-nodes g c =
    sym (no_nodes c.args.dims (g.S.StateSource.told c.args.from.now) c.args.v c.args.around.now.own c.args.around.now.up c.requires.own c.requires.up c.in-Minus.is
    (sym c.lacks_plus.ensures ∙ c.if-lacks_plus.true))
