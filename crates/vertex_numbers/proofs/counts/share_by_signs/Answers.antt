use Rattle.std.proofs.Common.{ap, ◌∙◌, refl}
use Rattle.std.specs.Prelude.{count_ones}
use Rattle.vertex_numbers.specs.Around.{nodes_of}
use Rattle.vertex_numbers.specs.Bits.{bits}
use Rattle.vertex_numbers.specs.Counts.{vertex_nodes}
use Rattle.vertex_numbers.proofs.EightBits.{ones_of_bits}
use Rattle.vertex_numbers.proofs.counts.share_by_signs.Goals as goal

pub returns-clause-nodes : goal.returns-clause-nodes
unfolding vertex_nodes
returns-clause-nodes g c =
    let d = c.args.dims in
    let t = g.S.StateSource.told c.args.from.now in
    let told = g.met.S.StateSource.same_told c.args.from.now c.signs_around-around.new.from c.signs_around-around.ensures.same in
    ap count_ones c.nodes_around-nodes.ensures.nodes
    ∙ ap (λ f. count_ones (bits (nodes_of d f c.args.v))) told
    ∙ ones_of_bits (nodes_of d t c.args.v) refl
