use Rattle.std.proofs.Common.{ap, ◌∙◌}
use Rattle.vertex_numbers.specs.Around.{nodes_of}
use Rattle.vertex_numbers.specs.Bits.{bits}
use Rattle.vertex_numbers.proofs.NodesTold.{nodes_occur}
use Rattle.vertex_numbers.proofs.nodes.nodes_at.Goals as goal

pub returns-clause-nodes : goal.returns-clause-nodes
returns-clause-nodes g c = λ ss padded agrees.
    let d = c.args.dims in
    let told = g.met.S.StateSource.same_told c.args.from.now c.signs_around-around.new.from c.signs_around-around.ensures.same in
    c.nodes_around.ensures.nodes
    ∙ ap (λ t. bits (nodes_of d t c.args.v)) told
    ∙ ap bits (nodes_occur d (g.S.StateSource.knows c.args.from.now) (g.S.StateSource.told c.args.from.now) ss agrees c.args.v c.requires.domain c.requires.known padded)
