use Rattle.std.proofs.Common.{◌≡◌, ◌+◌, ◌-◌, ◌<◌, arith, refl, ap, sym, subst, ◌∙◌, length, map, ◌++◌}
use Rattle.std.proofs.lemmas.List.{map-append}
use Rattle.definitions.specs.declared.Dims.{Dims}
use Rattle.definitions.specs.Lattice.{InDomain, id, vertex_at, vertices}
use Rattle.definitions.specs.Mesh.{node_place}
use Rattle.bcc_lattice.proofs.NextVertex.{next_has_id}
use Rattle.mesh_lists.specs.Parts.{keys_of_ids}
use Rattle.mesh_lists.proofs.NodePlaces.{keys_of_more, keys_of_none, keys_of_one, keys_past}
use Rattle.mesh_lists.proofs.Walks.{in_walk}
use Rattle.mesh_lists.proofs.places.places_of.Goals as goal

pub loop-at-init : goal.loop-at-init
loop-at-init c =
    let f = c.args.field.now in
    let ss = c.args.states.now.states in
    let n = c.requires.numbers in
    let first = n.first in
    let end = n.end in
    let high = c.from-at.ensures.high in
    record {
      here = subst (λ (d : Dims). c.from-at.result.id < length (vertices d) → c.from-at.result.v ≡ vertex_at d c.from-at.result.id) c.dims-dims.ensures.value c.from-at.ensures.at;
      low = c.from-at.ensures.low;
      high = high;
      made =
          c.in-Ok.ensures.items
          ∙ ap (map (node_place f ss)) (keys_of_none f.dims ss c.args.start ∙ keys_past f.dims ss c.args.starts.now n.used c.args.start c.args.start (omega arith) (omega arith) c.from-at.result.id c.from-at.ensures.low (omega arith) c.from-at.ensures.none);
    }

pub push_nodes-requires-clause-domain : goal.push_nodes-requires-clause-domain
push_nodes-requires-clause-domain c = (in_walk c.args.field.now.dims c.loop-at.at.v c.loop-at.at.id c.args.end c.loop-at-test.true c.requires.within c.loop-at.invariant.here).domain

pub push_nodes-requires-clause-id : goal.push_nodes-requires-clause-id
push_nodes-requires-clause-id c = (in_walk c.args.field.now.dims c.loop-at.at.v c.loop-at.at.id c.args.end c.loop-at-test.true c.requires.within c.loop-at.invariant.here).number

pub push_nodes-requires-clause-low : goal.push_nodes-requires-clause-low
push_nodes-requires-clause-low c = let first = c.requires.numbers.first in let low = c.loop-at.invariant.low in omega arith

pub next_vertex-requires-clause-domain : goal.next_vertex-requires-clause-domain
next_vertex-requires-clause-domain c =
    let h = in_walk c.args.field.now.dims c.loop-at.at.v c.loop-at.at.id c.args.end c.loop-at-test.true c.requires.within c.loop-at.invariant.here in
    subst (λ (d : Dims). InDomain d c.loop-at.at.v) (sym c.dims-dims.ensures.value) h.domain

pub from-at-requires-in-loop-at-clause-low : goal.from-at-requires-in-loop-at-clause-low
from-at-requires-in-loop-at-clause-low c = let first = c.requires.numbers.first in let low = c.loop-at.invariant.low in omega arith

pub from-at-requires-in-loop-at-clause-at : goal.from-at-requires-in-loop-at-clause-at
from-at-requires-in-loop-at-clause-at c =
    let f = c.args.field.now in
    let h = in_walk f.dims c.loop-at.at.v c.loop-at.at.id c.args.end c.loop-at-test.true c.requires.within c.loop-at.invariant.here in
    subst (λ (d : Dims). c.loop-at.at.id + 1 < length (vertices d) → c.next_vertex.result ≡ vertex_at d (c.loop-at.at.id + 1)) (sym c.dims-dims.ensures.value)
    (next_has_id f.dims c.loop-at.at.v c.next_vertex.result c.loop-at.at.id h
    (subst (λ (d : Dims). id d c.loop-at.at.v + 1 < length (vertices d) → c.next_vertex.result ≡ vertex_at d (id d c.loop-at.at.v + 1)) c.dims-dims.ensures.value c.next_vertex.ensures))

pub loop-at-preserved : goal.loop-at-preserved
loop-at-preserved c =
    let f = c.args.field.now in
    let ss = c.args.states.now.states in
    let n = c.requires.numbers in
    let first = n.first in
    let end = n.end in
    let k = c.loop-at.at.id in
    let next = c.from-at-in-loop-at.result in
    let from = c.from-at-in-loop-at.ensures in
    let low = c.loop-at.invariant.low in
    let low_next = from.low in
    let high_next = from.high in
    record {
      here = subst (λ (d : Dims). next.id < length (vertices d) → next.v ≡ vertex_at d next.id) c.dims-dims.ensures.value from.at;
      low = omega arith;
      high = high_next;
      made =
          c.in_ok-push_nodes.ensures ∙ ap (λ ks. c.loop-at.places.items ++ map (node_place f ss) ks) (keys_of_one f.dims ss k 8 refl) ∙ ap (λ xs. xs ++ map (node_place f ss) (keys_of_ids f.dims ss k 1)) c.loop-at.invariant.made
          ∙ sym (map-append (node_place f ss) (keys_of_ids f.dims ss c.args.start (k - c.args.start)) (keys_of_ids f.dims ss k 1))
          ∙ ap (map (node_place f ss)) (keys_of_more f.dims ss c.args.start k low ∙ keys_past f.dims ss c.args.starts.now n.used c.args.start (k + 1) (omega arith) (omega arith) next.id low_next (omega arith) from.none);
    }

pub returns : goal.returns
returns c =
    let f = c.args.field.now in
    let ss = c.args.states.now.states in
    let end : c.loop-at.at.id ≡ c.args.end = let t = c.loop-at-test.false in let a = c.loop-at.invariant.high in omega arith in
    c.loop-at.invariant.made ∙ ap (λ n. map (node_place f ss) (keys_of_ids f.dims ss c.args.start (n - c.args.start))) end
