use Rattle.std.proofs.Common.{sym, ◌∙◌}
use Rattle.definitions.specs.States.{sign_of_state}
use Rattle.node_laws.specs.Used.{told}
use Rattle.std.specs.Prelude.{true}
use Rattle.vertex_numbers.specs.Around.{pieces_up, signs_towards}
use Rattle.vertex_numbers.proofs.PiecesTold.{pieces_counted}
use Rattle.mesh_probe.proofs.number.count_from.Goals as goal

pub returns-clause-count : goal.returns-clause-count
returns-clause-count c =
    let d = c.args.states.now.dims in
    let ss = c.args.states.now.states in
    let v = c.args.v in
    let around = c.signs_around.ensures in
    c.pieces_up.ensures.count
    ∙ (λ i. pieces_up (around.own i) (around.up i))
    ∙ (λ i. pieces_up (sign_of_state (told d ss v)) (signs_towards (c.dims.ensures.dims i) (told d ss) v true))
    ∙ sym (pieces_counted d ss v c.requires.domain)
