use Rattle.std.proofs.Common.{[], ◌≡◌, ◌+◌, ◌<◌, ◌≤◌, ◌++◌, ap, sym, subst, ◌∙◌, length, map}
use Rattle.std.specs.Prelude.{flat_map}
use Rattle.definitions.specs.Lattice.{InDomain, id, vertex, vertex_at, vertices}
use Rattle.definitions.specs.Mesh.{node_keys, number_of, tet_pieces}
use Rattle.definitions.specs.Tetrahedra.{tets_from}
use Rattle.bcc_lattice.proofs.NextVertex.{first_vertex, in_loop, next_has_id}
use Rattle.mesh_lists.proofs.Layers.{all_layers}
use Rattle.mesh_lists.proofs.Pieces.{pieces_by_vertex, tets_more}
use Rattle.mesh_lists.proofs.tetrahedra.tets_of.Goals as goal

pub loop-id-init : goal.loop-id-init
loop-id-init c = record { at = λ lt. c.first_vertex-v.ensures.vertex ∙ first_vertex c.args.states.now.dims; made = c.in-Ok.ensures.items }

pub push_tets_at-requires-clause-numbers : goal.push_tets_at-requires-clause-numbers
push_tets_at-requires-clause-numbers c = all_layers c.args.states.now.dims c.args.states.now.states c.loop-id.v.h c.args.starts.now c.requires.numbers

pub push_tets_at-requires-clause-domain : goal.push_tets_at-requires-clause-domain
push_tets_at-requires-clause-domain c =
    (in_loop c.args.states.now.dims c.dims-dims.result c.loop-id.v c.loop-id.id c.vertex_count-id-end.result c.dims-dims.ensures.dims c.vertex_count-id-end.ensures.count c.loop-id-test.true c.loop-id.invariant.at).domain

pub push_tets_at-requires-clause-id : goal.push_tets_at-requires-clause-id
push_tets_at-requires-clause-id c =
    (in_loop c.args.states.now.dims c.dims-dims.result c.loop-id.v c.loop-id.id c.vertex_count-id-end.result c.dims-dims.ensures.dims c.vertex_count-id-end.ensures.count c.loop-id-test.true c.loop-id.invariant.at).number

pub next_vertex-v-requires-clause-domain : goal.next_vertex-v-requires-clause-domain
next_vertex-v-requires-clause-domain c =
    let h = in_loop c.args.states.now.dims c.dims-dims.result c.loop-id.v c.loop-id.id c.vertex_count-id-end.result c.dims-dims.ensures.dims c.vertex_count-id-end.ensures.count c.loop-id-test.true c.loop-id.invariant.at in
    subst (λ d. InDomain d c.loop-id.v) (sym c.dims-dims.ensures.dims) h.domain

pub loop-id-preserved : goal.loop-id-preserved
loop-id-preserved c =
    let d = c.args.states.now.dims in
    let ss = c.args.states.now.states in
    let count : c.vertex_count-id-end.result ≡ length (vertices d) = c.vertex_count-id-end.ensures.count ∙ ap (λ e. length (vertices e)) c.dims-dims.ensures.dims in
    let lt : c.loop-id.id < length (vertices d) = subst (λ m. c.loop-id.id < m) count c.loop-id-test.true in
    record {
      at =
          next_has_id d c.loop-id.v c.next_vertex-v.result c.loop-id.id
          (in_loop d c.dims-dims.result c.loop-id.v c.loop-id.id c.vertex_count-id-end.result c.dims-dims.ensures.dims c.vertex_count-id-end.ensures.count c.loop-id-test.true c.loop-id.invariant.at)
          (subst (λ e. id e c.loop-id.v + 1 < length (vertices e) → c.next_vertex-v.result ≡ vertex_at e (id e c.loop-id.v + 1)) c.dims-dims.ensures.dims c.next_vertex-v.ensures);
      made =
          tets_more (map (number_of (node_keys d ss))) (λ v. flat_map (tet_pieces d ss) (tets_from d v)) (vertices d) c.loop-id.id (vertex 0 0 0) [] c.loop-id.tets.items c.push_tets_at.new.tets.items lt c.loop-id.invariant.made
          (c.in_ok-push_tets_at.ensures
          ∙ ap (λ v. c.loop-id.tets.items ++ map (map (number_of (node_keys d ss))) (flat_map (tet_pieces d ss) (tets_from d v))) (c.loop-id.invariant.at lt));
    }

pub returns : goal.returns
returns c =
    let d = c.args.states.now.dims in
    let ss = c.args.states.now.states in
    let count : c.vertex_count-id-end.result ≡ length (vertices d) = c.vertex_count-id-end.ensures.count ∙ ap (λ e. length (vertices e)) c.dims-dims.ensures.dims in
    let end : length (vertices d) ≤ c.loop-id.id = subst (λ m. m ≤ c.loop-id.id) count c.loop-id-test.false in
    c.loop-id.invariant.made ∙ ap (map (map (number_of (node_keys d ss)))) (pieces_by_vertex d ss c.loop-id.id end)
