use Rattle.std.proofs.Common.{◌≡◌, length, ap, sym, subst, ◌∙◌}
use Rattle.std.proofs.lemmas.Result.{IfOk-weaker}
use Rattle.definitions.specs.Lattice.{layers, vertices}
use Rattle.definitions.specs.Layout.{layer_start}
use Rattle.definitions.specs.Mesh.{node_keys}
use Rattle.node_laws.proofs.Layers.{all_start}
use Rattle.vertex_numbers.specs.Numbering.{NumbersIds, NumbersMesh, nodes_before}
use Rattle.vertex_numbers.proofs.LayerStarts.{all_nodes, no_layers, no_nodes_below}
use Rattle.vertex_numbers.proofs.starts.Starts.of_all.Goals as goal

pub starts_from-requires-clause-count : goal.starts_from-requires-clause-count
starts_from-requires-clause-count c = sym (no_nodes_below c.args.states.now.dims c.args.states.now.states)

pub returns-clause-count : goal.returns-clause-count
returns-clause-count c =
    let d = c.args.states.now.dims in
    let ss = c.args.states.now.states in
    let all : c.layers.result ≡ layers d = c.layers.ensures.layers ∙ ap layers c.dims.ensures.dims in
    IfOk-weaker c.starts_from.result _ (λ n. n.count ≡ length (node_keys d ss))
    (λ n e. e ∙ ap (λ h. nodes_before d ss (layer_start d h)) all ∙ ap (nodes_before d ss) (all_start d) ∙ all_nodes d ss) c.starts_from.ensures.count

pub returns-clause-numbers : goal.returns-clause-numbers
returns-clause-numbers c =
    let d = c.args.states.now.dims in
    let ss = c.args.states.now.states in
    let all : layer_start d c.layers.result ≡ length (vertices d) = ap (layer_start d) (c.layers.ensures.layers ∙ ap layers c.dims.ensures.dims) ∙ all_start d in
    IfOk-weaker c.starts_from.result _ (λ n. NumbersMesh d ss n.starts)
    (λ n e. subst (λ b. NumbersIds d ss 0 b n.starts) all (subst (λ a. NumbersIds d ss a (layer_start d c.layers.result) n.starts) (no_layers d) e)) c.starts_from.ensures.numbers
