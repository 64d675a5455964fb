use Rattle.std.proofs.Common.{◌≡◌, ◌++◌, ℕ, List, false, ap, sym, subst, ◌∙◌, map}
use Rattle.std.specs.Prelude.{OnOk}
use Rattle.std.specs.List.{list_any}
use Rattle.std.proofs.lemmas.List.{append-nil}
use Rattle.definitions.specs.Lattice.{id}
use Rattle.definitions.specs.Mesh.{all_pieces, node_keys, number_of, occurs}
use Rattle.mesh_lists.specs.Parts.{keys_of_vertex}
use Rattle.mesh_lists.proofs.LowestNodes.{vertex_without}
use Rattle.mesh_lists.proofs.Layers.{layer_used, own_held}
use Rattle.mesh_lists.proofs.tetrahedra.push_tets_at.Goals as goal

pub has_nodes-requires-clause-high : goal.has_nodes-requires-clause-high
has_nodes-requires-clause-high c =
    (own_held c.args.states.now.dims c.args.states.now.states c.args.v c.args.starts.now c.args.id c.requires.numbers c.requires.domain c.requires.id).1

pub has_nodes-requires-clause-low : goal.has_nodes-requires-clause-low
has_nodes-requires-clause-low c =
    (own_held c.args.states.now.dims c.args.states.now.states c.args.v c.args.starts.now c.args.id c.requires.numbers c.requires.domain c.requires.id).0

pub returns-then-not-has_nodes : goal.returns-then-not-has_nodes
returns-then-not-has_nodes c =
    let d = c.args.states.now.dims in
    let ss = c.args.states.now.states in
    let none : list_any (occurs (all_pieces d ss)) (keys_of_vertex (id d c.args.v)) ≡ false =
    ap (λ n. list_any (occurs (all_pieces d ss)) (keys_of_vertex n)) (sym c.requires.id)
    ∙ sym (layer_used d ss c.args.v c.args.starts.now c.args.id c.requires.numbers c.requires.domain c.requires.id) ∙ sym c.has_nodes.ensures ∙ c.if-not-has_nodes.true
    in
    sym (ap (λ ps. c.args.tets.now.items ++ map (map (number_of (node_keys d ss))) ps) (vertex_without d ss c.args.v c.requires.domain none) ∙ append-nil c.args.tets.now.items)

pub returns-in-Some : goal.returns-in-Some
returns-in-Some c =
    subst (λ (ts : List (List ℕ)). OnOk c.push_six.result (c.push_six.new.tets.items ≡ c.args.tets.now.items ++ ts)) (sym c.in-Some.ensures.pieces) c.push_six.ensures
