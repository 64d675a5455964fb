use Rattle.std.proofs.Common.{◌≡◌, ap, subst, ◌∙◌, length, map}
use Rattle.bcc_lattice.proofs.NextVertex.{first_vertex}
use Rattle.definitions.specs.declared.Dims.{Dims}
use Rattle.definitions.specs.Lattice.{vertices}
use Rattle.definitions.specs.Mesh.{all_pieces, node_place}
use Rattle.mesh_lists.specs.Parts.{mesh_of, numbered}
use Rattle.mesh_lists.proofs.Meshes.{is_made, parts_are, mesh_by_states}
use Rattle.mesh_lists.proofs.NodePlaces.{keys_of_all}
use Rattle.mesh_lists.proofs.build.mesh_of.Goals as goal

pub places_of-requires-clause-first : goal.places_of-requires-clause-first
places_of-requires-clause-first c = λ lt. c.first_vertex.ensures.vertex ∙ first_vertex c.args.field.now.dims

pub new-requires : goal.new-requires
new-requires c =
    let f = c.args.field.now in
    let ss = c.args.states.now.states in
    let end = c.vertex_count-end.ensures.count ∙ ap (λ (d : Dims). length (vertices d)) (c.dims.ensures.dims ∙ c.requires.sizes) in
    is_made f c.args.shares ss c.in_ok-places.places.items c.in_ok-tets.tets.items c.requires.field c.requires.limits c.requires.states
    (c.in_ok-places.ensures ∙ ap (map (node_place f ss)) (keys_of_all f.dims ss c.vertex_count-end.result end))
    (subst (λ d. c.in_ok-tets.tets.items ≡ numbered d ss (all_pieces d ss)) c.requires.sizes c.in_ok-tets.ensures)

pub returns : goal.returns
returns c =
    let f = c.args.field.now in
    let ss = c.args.states.now.states in
    let end = c.vertex_count-end.ensures.count ∙ ap (λ (d : Dims). length (vertices d)) (c.dims.ensures.dims ∙ c.requires.sizes) in
    parts_are f ss c.new.result c.in_ok-places.places.items c.in_ok-tets.tets.items c.new.ensures
    (c.in_ok-places.ensures ∙ ap (map (node_place f ss)) (keys_of_all f.dims ss c.vertex_count-end.result end))
    (subst (λ d. c.in_ok-tets.tets.items ≡ numbered d ss (all_pieces d ss)) c.requires.sizes c.in_ok-tets.ensures)
    ∙ ap (mesh_of f) c.requires.states ∙ mesh_by_states f c.args.shares
