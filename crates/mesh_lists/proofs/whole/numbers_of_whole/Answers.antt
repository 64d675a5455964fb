use Rattle.std.proofs.Common.{◌*◌, refl, ap, ◌∙◌}
use Rattle.vertex_numbers.specs.Numbering.{number_in}
use Rattle.mesh_lists.proofs.Layers.{own_held}
use Rattle.mesh_lists.proofs.WholeTetrahedra.{later_held, plus_nodes, whole_numbers}
use Rattle.mesh_lists.proofs.whole.numbers_of_whole.Goals as goal

pub vertex_number-own-requires-clause-low : goal.vertex_number-own-requires-clause-low
vertex_number-own-requires-clause-low c =
    (own_held c.args.states.now.dims c.args.states.now.states c.args.v c.args.starts.now c.args.id c.requires.numbers c.requires.domain c.requires.id).0

pub vertex_number-own-requires-clause-high : goal.vertex_number-own-requires-clause-high
vertex_number-own-requires-clause-high c =
    (own_held c.args.states.now.dims c.args.states.now.states c.args.v c.args.starts.now c.args.id c.requires.numbers c.requires.domain c.requires.id).1

pub numbers_at-later-requires-clause-low : goal.numbers_at-later-requires-clause-low
numbers_at-later-requires-clause-low c =
    (later_held c.args.states.now.dims c.args.states.now.states c.requires.padded c.args.starts.now c.args.v.h c.requires.numbers c.args.v c.args.ids.now c.requires.domain refl c.requires.whole.later).0

pub numbers_at-later-requires-clause-high : goal.numbers_at-later-requires-clause-high
numbers_at-later-requires-clause-high c =
    (later_held c.args.states.now.dims c.args.states.now.states c.requires.padded c.args.starts.now c.args.v.h c.requires.numbers c.args.v c.args.ids.now c.requires.domain refl c.requires.whole.later).1

pub returns-clause-plus : goal.returns-clause-plus
returns-clause-plus c =
    let n = c.args.starts.now in
    plus_nodes c.args.states.now.dims c.args.states.now.states c.requires.padded n c.args.v.h c.requires.numbers c.args.v c.args.ids.now c.requires.domain refl c.requires.whole c.numbers_at-later.result c.vertex_number-own.result
    (c.vertex_number-own.ensures ∙ ap (λ i. number_in n (8 * i)) c.requires.id) c.numbers_at-later.ensures

pub returns-clause-pieces : goal.returns-clause-pieces
returns-clause-pieces c = whole_numbers c.args.states.now.dims c.args.states.now.states c.args.v c.vertex_number-own.result c.numbers_at-later.result c.requires.domain (returns-clause-plus c)
