use Rattle.std.proofs.Common.{◌≡◌, ◌+◌, ◌*◌, ◌%◌, ap, ◌∙◌, arith, subst, sym}
use Rattle.definitions.specs.Lattice.{id}
use Rattle.definitions.specs.Mesh.{all_pieces, occurs}
use Rattle.vertex_numbers.specs.Sources.{KnowsAround}
use Rattle.vertex_numbers.proofs.NodesTold.{node_occurs}
use Rattle.vertex_numbers.proofs.nodes.used.Goals as goal

pub returns-clause-value : goal.returns-clause-value
returns-clause-value g c = λ ss padded agrees.
    let d = c.args.dims in
    let v = c.in-Some.v in
    let known = subst (λ w. KnowsAround d (g.S.StateSource.knows c.args.from.now) w.h) (sym c.in-Some.ensures.vertex) c.requires.known in
    let key : 8 * id d v + c.args.key % 8 ≡ c.args.key = (let e = c.in-Some.ensures.id in omega arith) in
    c.is_used.ensures.node
    ∙ node_occurs d (g.S.StateSource.knows c.args.from.now) (g.S.StateSource.told c.args.from.now) ss agrees v c.in-Some.ensures.domain known padded (c.args.key % 8) (omega arith)
    ∙ ap (occurs (all_pieces d ss)) key
