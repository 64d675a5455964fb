use Rattle.std.proofs.Common.{◌≡◌, ℕ, ◌+◌, ◌-◌, ◌*◌, ◌<◌, ◌≤◌, ◌++◌, List, All, arith, ap, sym, subst, ◌∙◌, length}
use Rattle.std.specs.Prelude.{flat_map}
use Rattle.std.specs.List.{range_with_len}
use Rattle.definitions.specs.declared.Dims.{Dims}
use Rattle.definitions.specs.declared.Vertex.{Vertex}
use Rattle.definitions.specs.Lattice.{InDomain, IsDims, id, vertex_at, vertices}
use Rattle.mesh_lists.specs.Parts.{numbered, numbered_from}
use Rattle.bcc_lattice.proofs.NextVertex.{next_has_id}
use Rattle.mesh_lists.specs.Layers.{HoldLayers}
use Rattle.slab_texts.specs.Nodes.{pieces_at}
use Rattle.slab_texts.specs.Texts.{Adds, IsMeasured}
use Rattle.slab_texts.proofs.Measured.{at_id}
use Rattle.slab_texts.proofs.Pieces.{ids_more, more, no_ids, none}
use Rattle.slab_texts.proofs.Walked.{pieces_past}
use Rattle.mesh_lists.proofs.Walks.{in_walk, small_id}
use Rattle.slab_texts.proofs.tetrahedra.push_tets.Goals as goal

pub from-at-requires-clause-sizes : goal.from-at-requires-clause-sizes
from-at-requires-clause-sizes c = c.dims-dims.ensures.sizes

pub loop-at-init : goal.loop-at-init
loop-at-init c =
    let d = c.args.states.now.dims in
    let ss = c.args.states.now.states in
    let n = c.requires.nodes.numbers in
    let first = n.first in
    let end = n.end in
    let start = c.requires.low in
    let past = c.requires.high in
    let low = c.from-at.ensures.low in
    let high = c.from-at.ensures.high in
    let all = c.requires.within in
    record {
      here = subst (λ (e : Dims). c.from-at.result.id < length (vertices e) → c.from-at.result.v ≡ vertex_at e c.from-at.result.id) c.dims-dims.ensures.dims c.from-at.ensures.at;
      low = low;
      high = high;
      adds =
          subst (λ (ts : List (List ℕ)). Adds c.args.nodes.now c.args.out.now ts c.args.out.now)
          (no_ids d ss (pieces_at d ss) c.args.from
          ∙ pieces_past d ss c.args.nodes.now.starts n.used c.args.from c.args.from (omega arith) (omega arith) c.from-at.result.id low (omega arith) (omega arith) c.from-at.ensures.none)
          (none c.args.nodes.now c.args.out.now);
      few = omega arith;
    }

pub push_from-requires-clause-domain : goal.push_from-requires-clause-domain
push_from-requires-clause-domain c = (in_walk c.args.states.now.dims c.loop-at.at.v c.loop-at.at.id c.args.to c.loop-at-test.true c.requires.within c.loop-at.invariant.here).domain

pub push_from-requires-clause-hold : goal.push_from-requires-clause-hold
push_from-requires-clause-hold c =
    let d = c.args.states.now.dims in
    let n = c.loop-at.at.id in
    let lt : n < length (vertices d) = let t = c.loop-at-test.true in let w = c.requires.within in omega arith in
    subst (λ (v : Vertex). HoldLayers d v.h c.args.nodes.now.start c.args.nodes.now.end) (sym (c.loop-at.invariant.here lt)) (c.requires.hold n c.loop-at.invariant.low c.loop-at-test.true)

pub push_from-requires-clause-id : goal.push_from-requires-clause-id
push_from-requires-clause-id c = (in_walk c.args.states.now.dims c.loop-at.at.v c.loop-at.at.id c.args.to c.loop-at-test.true c.requires.within c.loop-at.invariant.here).number

pub push_from-requires-clause-small : goal.push_from-requires-clause-small
push_from-requires-clause-small c =
    let d = c.args.states.now.dims in
    small_id d c.loop-at.at.v c.loop-at.at.id (subst IsDims c.dims-dims.ensures.dims c.dims-dims.ensures.sizes) (in_walk d c.loop-at.at.v c.loop-at.at.id c.args.to c.loop-at-test.true c.requires.within c.loop-at.invariant.here)

pub push_from-requires-clause-low : goal.push_from-requires-clause-low
push_from-requires-clause-low c = let a = c.requires.low in let b = c.loop-at.invariant.low in omega arith

pub push_from-requires-clause-measured : goal.push_from-requires-clause-measured
push_from-requires-clause-measured c =
    let d = c.args.states.now.dims in
    let ss = c.args.states.now.states in
    let n = c.loop-at.at.id in
    let lt : n < length (vertices d) = let t = c.loop-at-test.true in let w = c.requires.within in omega arith in
    let h = c.requires.measured in
    record { all = h.all; row = h.row; measured = subst (λ (v : Vertex). All (IsMeasured h.all) (numbered_from d ss v)) (sym (c.loop-at.invariant.here lt)) (at_id (IsMeasured h.all) d ss (pieces_at d ss) c.args.from n c.args.to c.loop-at.invariant.low c.loop-at-test.true h.measured) }

pub next_vertex-requires-clause-domain : goal.next_vertex-requires-clause-domain
next_vertex-requires-clause-domain c =
    let h = in_walk c.args.states.now.dims c.loop-at.at.v c.loop-at.at.id c.args.to c.loop-at-test.true c.requires.within c.loop-at.invariant.here in
    subst (λ (d : Dims). InDomain d c.loop-at.at.v) (sym c.dims-dims.ensures.dims) h.domain

pub from-at-requires-in-loop-at-clause-low : goal.from-at-requires-in-loop-at-clause-low
from-at-requires-in-loop-at-clause-low c = let first = c.requires.nodes.numbers.first in let start = c.requires.low in let low = c.loop-at.invariant.low in omega arith

pub from-at-requires-in-loop-at-clause-at : goal.from-at-requires-in-loop-at-clause-at
from-at-requires-in-loop-at-clause-at c =
    let d = c.args.states.now.dims in
    let h = in_walk d c.loop-at.at.v c.loop-at.at.id c.args.to c.loop-at-test.true c.requires.within c.loop-at.invariant.here in
    subst (λ (e : Dims). c.loop-at.at.id + 1 < length (vertices e) → c.next_vertex.result ≡ vertex_at e (c.loop-at.at.id + 1)) (sym c.dims-dims.ensures.dims)
    (next_has_id d c.loop-at.at.v c.next_vertex.result c.loop-at.at.id h
    (subst (λ (e : Dims). id e c.loop-at.at.v + 1 < length (vertices e) → c.next_vertex.result ≡ vertex_at e (id e c.loop-at.at.v + 1)) c.dims-dims.ensures.dims c.next_vertex.ensures))

pub loop-at-preserved : goal.loop-at-preserved
loop-at-preserved c =
    let d = c.args.states.now.dims in
    let ss = c.args.states.now.states in
    let numbers = c.requires.nodes.numbers in
    let first = numbers.first in
    let end = numbers.end in
    let start = c.requires.low in
    let past = c.requires.high in
    let all = c.requires.within in
    let n = c.loop-at.at.id in
    let next = c.from-at-in-loop-at.result in
    let from = c.from-at-in-loop-at.ensures in
    let low = c.loop-at.invariant.low in
    let low_next = from.low in
    let high_next = from.high in
    let lt : n < length (vertices d) = let t = c.loop-at-test.true in omega arith in
    let xs = numbered d ss (flat_map (pieces_at d ss) (range_with_len c.args.from (n - c.args.from))) in
    record {
      here = subst (λ (e : Dims). next.id < length (vertices e) → next.v ≡ vertex_at e next.id) c.dims-dims.ensures.dims from.at;
      low = omega arith;
      high = high_next;
      adds =
          more c.args.nodes.now c.args.out.now c.loop-at.out c.push_from.new.out xs (numbered_from d ss c.loop-at.at.v) (numbered d ss (flat_map (pieces_at d ss) (range_with_len c.args.from (next.id - c.args.from))))
          (ap (λ (v : Vertex). xs ++ numbered_from d ss v) (c.loop-at.invariant.here lt)
          ∙ ids_more d ss (pieces_at d ss) c.args.from n low
          ∙ pieces_past d ss c.args.nodes.now.starts numbers.used c.args.from (n + 1) (omega arith) (omega arith) next.id low_next (omega arith) (omega arith) from.none)
          c.loop-at.invariant.adds c.in_ok-push_from.ensures.adds;
      few = further _ _ _ _ _ _ c.loop-at.invariant.few c.push_from.ensures.few low low_next;
    }
  where
    further : (a b x n m f : ℕ) → a ≤ x + 18 * (n - f) → b ≤ a + 18 → f ≤ n → n + 1 ≤ m → b ≤ x + 18 * (m - f)
    further a b x n m f p q r s = omega arith

pub returns : goal.returns
returns c =
    let d = c.args.states.now.dims in
    let ss = c.args.states.now.states in
    let end : c.loop-at.at.id ≡ c.args.to = let t = c.loop-at-test.false in let a = c.loop-at.invariant.high in omega arith in
    subst (λ n. Adds c.args.nodes.now c.args.out.now (numbered d ss (flat_map (pieces_at d ss) (range_with_len c.args.from (n - c.args.from)))) c.loop-at.out) end c.loop-at.invariant.adds
