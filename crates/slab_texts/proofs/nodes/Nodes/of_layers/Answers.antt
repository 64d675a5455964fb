use Rattle.std.proofs.Common.{◌≡◌, ℕ, ◌+◌, ◌^◌, ◌<◌, ◌≤◌, arith, ap, sym, subst, ◌∙◌, length, take}
use Rattle.std.specs.Prelude.{sum_by}
use Rattle.std.proofs.lemmas.List.{length-map}
use Rattle.definitions.specs.declared.Dims.{Dims}
use Rattle.definitions.specs.Lattice.{IsDims, layers, vertex_at}
use Rattle.definitions.specs.Layout.{layer_start}
use Rattle.definitions.specs.Mesh.{ArePadded, node_place}
use Rattle.vertex_numbers.specs.Numbering.{nodes_before}
use Rattle.vertex_numbers.proofs.LayerStarts.{counts_len, counts_to}
use Rattle.vertex_numbers.proofs.LayerIds.{first_of_layer}
use Rattle.mesh_lists.specs.Parts.{keys_of_ids}
use Rattle.slab_texts.proofs.Places.{few_nodes}
use Rattle.slab_texts.proofs.Walks.{numbers_of_sizes, span_within}
use Rattle.slab_texts.proofs.nodes.Nodes.of_layers.Goals as goal

below : (from to l : ℕ) → from < to → to ≤ l → from < l
below from to l a b = omega arith

pub places_of-requires-clause-first : goal.places_of-requires-clause-first
places_of-requires-clause-first c = λ lt.
    let d = c.args.field.now.dims in
    let sizes = c.dims-dims.ensures.dims ∙ c.requires.sizes in
    let start : c.ids_below-start.result ≡ layer_start d c.args.from = c.ids_below-start.ensures.start ∙ ap (λ (e : Dims). layer_start e c.args.from) sizes in
    let within : c.args.to ≤ layers d = subst (λ (e : Dims). c.args.to ≤ layers e) c.requires.sizes c.requires.within in
    c.first_vertex-v.ensures.vertex ∙ first_of_layer d c.args.from (subst IsDims sizes c.dims-dims.ensures.sizes) (below c.args.from c.args.to (layers d) c.requires.some within) ∙ ap (vertex_at d) (sym start)

pub count-count-requires-clause-within : goal.count-count-requires-clause-within
count-count-requires-clause-within c = subst (λ n. c.args.to ≤ n) (sym (ap length c.requires.offsets ∙ counts_len c.args.states.now.dims c.args.states.now.states)) c.requires.within

pub node_start-requires : goal.node_start-requires
node_start-requires c =
    let l = below c.args.from c.args.to (layers c.args.states.now.dims) c.requires.some c.requires.within in
    subst (λ n. c.args.from ≤ n) (sym (ap length c.requires.offsets ∙ counts_len c.args.states.now.dims c.args.states.now.states)) (let h : c.args.from ≤ layers c.args.states.now.dims = omega arith in h)

pub returns-clause-nodes : goal.returns-clause-nodes
returns-clause-nodes c =
    let d = c.args.field.now.dims in
    let s = c.args.states.now in
    let sizes = c.dims-dims.ensures.dims ∙ c.requires.sizes in
    let start : c.ids_below-start.result ≡ layer_start d c.args.from = c.ids_below-start.ensures.start ∙ ap (λ (e : Dims). layer_start e c.args.from) sizes in
    let end : c.ids_below-end.result ≡ layer_start d c.args.to = c.ids_below-end.ensures.start ∙ ap (λ (e : Dims). layer_start e c.args.to) (c.dims-dims.ensures.dims ∙ c.requires.sizes) in
    let h = c.in_ok-starts.ensures in
    let count = ap length c.in_ok-places.ensures ∙ length-map (keys_of_ids d s.states c.ids_below-start.result _) (node_place c.args.field.now s.states) in
    let first =
    c.node_start.ensures
    ∙ ap (λ counts. sum_by (λ c. c.nodes) (take c.args.from counts)) c.requires.offsets
    ∙ counts_to s.dims s.states c.args.from (let l = below c.args.from c.args.to (layers s.dims) c.requires.some c.requires.within in omega arith)
    ∙ ap (λ (e : Dims). nodes_before e s.states (layer_start e c.args.from)) c.requires.sizes
    ∙ ap (nodes_before d s.states) (sym start)
    in
    let r = span_within d c.args.from c.args.to c.ids_below-start.result c.ids_below-end.result c.requires.some (subst (λ (e : Dims). c.args.to ≤ layers e) c.requires.sizes c.requires.within) start end in
    record {
      padded = subst (λ (e : Dims). ArePadded e s.states) c.requires.sizes c.requires.padded;
      numbers = numbers_of_sizes s.dims d s.states c.args.from c.args.to c.ids_below-start.result c.ids_below-end.result c.in_ok-starts.starts c.requires.sizes start end h;
      count = count;
      first = first;
      few = sums _ _ _ _ first count (few_nodes d s.states c.ids_below-start.result c.ids_below-end.result (subst IsDims sizes c.dims-dims.ensures.sizes) r.0 r.1);
    }
  where
    sums : (a b x y : ℕ) → a ≡ x → b ≡ y → x + y < 2 ^ 31 → a + b < 2 ^ 31
    sums a b x y e f h = omega arith
