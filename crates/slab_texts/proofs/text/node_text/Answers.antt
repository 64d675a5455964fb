use Rattle.std.proofs.Common.{◌≡◌, ℕ, ◌+◌, ◌-◌, ◌*◌, ◌^◌, ◌<◌, ◌≤◌, arith, ap, sym, subst, ◌∙◌, List, ◌++◌, length, map, take}
use Rattle.std.specs.Prelude.{sum_by}
use Rattle.definitions.specs.declared.Dims.{Dims}
use Rattle.definitions.specs.declared.State.{State}
use Rattle.definitions.specs.Lattice.{IsDims, layers, vertex_at}
use Rattle.definitions.specs.Layout.{layer_start}
use Rattle.definitions.specs.Mesh.{ArePadded}
use Rattle.lattice_counts.proofs.Ranks.{all_small}
use Rattle.mesh_texts.specs.Lines.{node_lines}
use Rattle.mesh_texts.specs.Nodes.{node_of_key}
use Rattle.vertex_numbers.specs.declared.LayerCount.{LayerCount}
use Rattle.vertex_numbers.specs.Counts.{layer_counts}
use Rattle.vertex_numbers.specs.Numbering.{nodes_before}
use Rattle.vertex_numbers.proofs.LayerIds.{first_of_layer}
use Rattle.vertex_numbers.proofs.LayerStarts.{counts_len, counts_to}
use Rattle.mesh_lists.specs.Parts.{keys_of_ids}
use Rattle.slab_texts.specs.Spans.{span_node_lines}
use Rattle.slab_texts.proofs.NodeLines.{all_printable}
use Rattle.slab_texts.proofs.Places.{few_nodes}
use Rattle.slab_texts.proofs.Spans.{below_by_ids, keys_by_ids}
use Rattle.slab_texts.proofs.Walks.{numbers_of_sizes, span_within}
use Rattle.slab_texts.proofs.text.node_text.Goals as goal

below : (from to l : ℕ) → from < to → to ≤ l → from ≤ l
below from to l a b = omega arith

-- the number of the first node, by equal sizes
first_is : (e d : Dims) (ss : List State) (from : ℕ) (counts : List LayerCount) → e ≡ d → counts ≡ layer_counts e ss → from ≤ layers e → sum_by (λ c. c.nodes) (take from counts) ≡ nodes_before d ss (layer_start d from)
first_is e d ss from counts same is le =
    ap (λ counts. sum_by (λ c. c.nodes) (take from counts)) is ∙ counts_to e ss from le ∙ ap (λ (e : Dims). nodes_before e ss (layer_start e from)) same

pub begin_nodes-requires-clause-within : goal.begin_nodes-requires-clause-within
begin_nodes-requires-clause-within c = subst (λ n. c.args.to ≤ n) (sym (ap length c.requires.offsets ∙ counts_len c.args.states.now.dims c.args.states.now.states)) c.requires.within

pub begin_nodes-requires-clause-room : goal.begin_nodes-requires-clause-room
begin_nodes-requires-clause-room c =
    let d = c.args.field.now.dims in
    let s = c.args.states.now in
    let sizes = c.dims-dims.ensures.dims ∙ c.requires.sizes in
    let start : c.ids_below-start.result ≡ layer_start d c.args.from = c.ids_below-start.ensures.start ∙ ap (λ (e : Dims). layer_start e c.args.from) sizes in
    let end : c.ids_below-end.result ≡ layer_start d c.args.to = c.ids_below-end.ensures.start ∙ ap (λ (e : Dims). layer_start e c.args.to) sizes in
    let r = span_within d c.args.from c.args.to c.ids_below-start.result c.ids_below-end.result c.requires.some (subst (λ (e : Dims). c.args.to ≤ layers e) c.requires.sizes c.requires.within) start end in
    let first = first_is s.dims d s.states c.args.from c.args.offsets.now c.requires.sizes c.requires.offsets (below _ _ _ c.requires.some c.requires.within) ∙ ap (nodes_before d s.states) (sym start) in
    fits _ _ _ _ first (few_nodes d s.states c.ids_below-start.result c.ids_below-end.result (subst IsDims sizes c.dims-dims.ensures.sizes) r.0 r.1) c.requires.numbering
  where
    fits : (n x y k : ℕ) → x ≡ y → y + k < 2 ^ 31 → n ≤ 1 → n + x < 2 ^ 32
    fits n x y k e f g = omega arith

pub push_lines-requires-clause-numbers : goal.push_lines-requires-clause-numbers
push_lines-requires-clause-numbers c =
    let d = c.args.field.now.dims in
    let s = c.args.states.now in
    let sizes = c.dims-dims.ensures.dims ∙ c.requires.sizes in
    let start : c.ids_below-start.result ≡ layer_start d c.args.from = c.ids_below-start.ensures.start ∙ ap (λ (e : Dims). layer_start e c.args.from) sizes in
    let end : c.ids_below-end.result ≡ layer_start d c.args.to = c.ids_below-end.ensures.start ∙ ap (λ (e : Dims). layer_start e c.args.to) sizes in
    numbers_of_sizes s.dims d s.states c.args.from c.args.to c.ids_below-start.result c.ids_below-end.result c.in_ok-starts.starts c.requires.sizes start end c.in_ok-starts.ensures

pub push_lines-requires-clause-first : goal.push_lines-requires-clause-first
push_lines-requires-clause-first c = λ lt.
    let d = c.args.field.now.dims in
    let s = c.args.states.now in
    let sizes = c.dims-dims.ensures.dims ∙ c.requires.sizes in
    let start : c.ids_below-start.result ≡ layer_start d c.args.from = c.ids_below-start.ensures.start ∙ ap (λ (e : Dims). layer_start e c.args.from) sizes in
    let some : c.args.from < layers d = above _ _ _ c.requires.some (subst (λ (e : Dims). c.args.to ≤ layers e) c.requires.sizes c.requires.within) in
    c.first_vertex-v.ensures.vertex ∙ first_of_layer d c.args.from (subst IsDims sizes c.dims-dims.ensures.sizes) some ∙ ap (vertex_at d) (sym start)
  where
    above : (from to l : ℕ) → from < to → to ≤ l → from < l
    above from to l a b = omega arith

pub push_lines-requires-clause-some : goal.push_lines-requires-clause-some
push_lines-requires-clause-some c =
    let d = c.args.field.now.dims in
    let sizes = c.dims-dims.ensures.dims ∙ c.requires.sizes in
    let start : c.ids_below-start.result ≡ layer_start d c.args.from = c.ids_below-start.ensures.start ∙ ap (λ (e : Dims). layer_start e c.args.from) sizes in
    let end : c.ids_below-end.result ≡ layer_start d c.args.to = c.ids_below-end.ensures.start ∙ ap (λ (e : Dims). layer_start e c.args.to) sizes in
    (span_within d c.args.from c.args.to c.ids_below-start.result c.ids_below-end.result c.requires.some (subst (λ (e : Dims). c.args.to ≤ layers e) c.requires.sizes c.requires.within) start end).0

pub push_lines-requires-clause-within : goal.push_lines-requires-clause-within
push_lines-requires-clause-within c =
    let d = c.args.field.now.dims in
    let sizes = c.dims-dims.ensures.dims ∙ c.requires.sizes in
    let start : c.ids_below-start.result ≡ layer_start d c.args.from = c.ids_below-start.ensures.start ∙ ap (λ (e : Dims). layer_start e c.args.from) sizes in
    let end : c.ids_below-end.result ≡ layer_start d c.args.to = c.ids_below-end.ensures.start ∙ ap (λ (e : Dims). layer_start e c.args.to) sizes in
    (span_within d c.args.from c.args.to c.ids_below-start.result c.ids_below-end.result c.requires.some (subst (λ (e : Dims). c.args.to ≤ layers e) c.requires.sizes c.requires.within) start end).1

pub push_lines-requires-clause-printable : goal.push_lines-requires-clause-printable
push_lines-requires-clause-printable c =
    let s = c.args.states.now in
    all_printable c.args.frame.now c.args.field.now s.states (subst (λ (e : Dims). ArePadded e s.states) c.requires.sizes c.requires.padded) c.requires.printable

pub push_lines-requires-clause-room : goal.push_lines-requires-clause-room
push_lines-requires-clause-room c =
    let d = c.args.field.now.dims in
    let s = c.args.states.now in
    let sizes = c.dims-dims.ensures.dims ∙ c.requires.sizes in
    let start : c.ids_below-start.result ≡ layer_start d c.args.from = c.ids_below-start.ensures.start ∙ ap (λ (e : Dims). layer_start e c.args.from) sizes in
    let end : c.ids_below-end.result ≡ layer_start d c.args.to = c.ids_below-end.ensures.start ∙ ap (λ (e : Dims). layer_start e c.args.to) sizes in
    let r = span_within d c.args.from c.args.to c.ids_below-start.result c.ids_below-end.result c.requires.some (subst (λ (e : Dims). c.args.to ≤ layers e) c.requires.sizes c.requires.within) start end in
    let is = subst IsDims sizes c.dims-dims.ensures.sizes in
    let first = first_is s.dims d s.states c.args.from c.args.offsets.now c.requires.sizes c.requires.offsets (below _ _ _ c.requires.some c.requires.within) ∙ ap (nodes_before d s.states) (sym start) in
    fits _ _ _ _ _ _ _ _ c.in_ok-out.ensures.number first (few_nodes d s.states c.ids_below-start.result c.ids_below-end.result is r.0 r.1) c.requires.numbering r.1 (all_small d is)
  where
    fits : (o n x y k a b l : ℕ) → o ≡ n + x → x ≡ y → y + k < 2 ^ 31 → n ≤ 1 → b ≤ l → l ≤ 2 ^ 27 → o + 8 * (b - a) < 2 ^ 32
    fits o n x y k a b l e f g h p q = omega arith

pub returns : goal.returns
unfolding span_node_lines
returns c =
    let f = c.args.field.now in
    let d = c.args.field.now.dims in
    let s = c.args.states.now in
    let sizes = c.dims-dims.ensures.dims ∙ c.requires.sizes in
    let start : c.ids_below-start.result ≡ layer_start d c.args.from = c.ids_below-start.ensures.start ∙ ap (λ (e : Dims). layer_start e c.args.from) sizes in
    let end : c.ids_below-end.result ≡ layer_start d c.args.to = c.ids_below-end.ensures.start ∙ ap (λ (e : Dims). layer_start e c.args.to) sizes in
    let within : c.args.to ≤ layers d = subst (λ (e : Dims). c.args.to ≤ layers e) c.requires.sizes c.requires.within in
    let le : c.args.from ≤ layers d = below _ _ _ c.requires.some within in
    let first = first_is s.dims d s.states c.args.from c.args.offsets.now c.requires.sizes c.requires.offsets (below _ _ _ c.requires.some c.requires.within) ∙ sym (below_by_ids d s.states c.args.from le) in
    let number = c.in_ok-out.ensures.number ∙ ap (λ n. c.args.numbering + n) first in
    let low : c.args.from ≤ c.args.to = let a = c.requires.some in omega arith in
    let keys = (λ i. keys_of_ids d s.states (start i) (end i - start i)) ∙ sym (keys_by_ids d s.states c.args.from c.args.to low within) in
    let none = c.in_ok-out.ensures.text in
    c.in_ok-push_lines.ensures.text ∙ (λ i. none i ++ node_lines c.args.frame.now (number i) (map (node_of_key f s.states) (keys i)))
