use Rattle.std.proofs.Common.{◌≡◌, ℕ, ◌+◌, ◌-◌, ◌<◌, ◌≤◌, arith, ap, sym, subst, ◌∙◌, List, [], ◌++◌, All, length, map, take, min}
use Rattle.std.specs.Prelude.{flat_map, sum_by}
use Rattle.std.specs.List.{enumerate_from}
use Rattle.definitions.specs.declared.Dims.{Dims}
use Rattle.definitions.specs.declared.Place.{Place}
use Rattle.definitions.specs.declared.State.{State}
use Rattle.definitions.specs.Angles.{angles_of, extremes_of}
use Rattle.definitions.specs.Lattice.{IsDims, layers, vertex_at, vertices}
use Rattle.definitions.specs.Layout.{layer_start}
use Rattle.definitions.specs.Mesh.{node_place}
use Rattle.definitions.specs.Values.{Field}
use Rattle.mesh_lists.specs.Parts.{keys_of_ids, mesh_of, numbered}
use Rattle.vertex_numbers.specs.Numbering.{nodes_before}
use Rattle.vertex_numbers.proofs.LayerIds.{first_of_layer}
use Rattle.vertex_numbers.proofs.LayerStarts.{counts_len}
use Rattle.slab_texts.specs.Nodes.{AreInRow, HasNodes}
use Rattle.slab_texts.specs.Spans.{span_angles, span_tet_lines, span_tets, tets_below}
use Rattle.slab_texts.specs.Stars.{PlusOnLattice}
use Rattle.slab_texts.specs.Texts.{IsMeasured, lines_if}
use Rattle.slab_texts.proofs.Counts.{tets_few, tets_to}
use Rattle.slab_texts.proofs.Places.{places_in_row}
use Rattle.slab_texts.proofs.Stars.{plus_on_lattice}
use Rattle.slab_texts.proofs.SpanIds.{AreIds, end_within, extremes_of_none, holds, mid_after, mid_before, mid_within, pieces_are, room}
use Rattle.slab_texts.proofs.text.tets_of_layers.Goals as goal

below : (from to l : ℕ) → from < to → to ≤ l → from < l
below from to l a b = omega arith

-- the ids, from what the calls answer
ids : (d f e : Dims) (from to top start mid end : ℕ) → d ≡ f → e ≡ d → from < to → to ≤ layers d → top ≡ min (to + 2) (layers e) → start ≡ layer_start f from → mid ≡ layer_start e to → end ≡ layer_start f top → AreIds d from to top start mid end
ids d f e from to top start mid end same equal some within t s m u = record {
  some = some;
  within = within;
  top_is = t ∙ ap (λ (z : Dims). min (to + 2) (layers z)) equal;
  start_is = s ∙ ap (λ (z : Dims). layer_start z from) (sym same);
  mid_is = m ∙ ap (λ (z : Dims). layer_start z to) equal;
  end_is = u ∙ ap (λ (z : Dims). layer_start z top) (sym same);
}

pub begin-requires-clause-within : goal.begin-requires-clause-within
begin-requires-clause-within c = subst (λ n. c.args.to ≤ n) (sym (ap length c.requires.offsets ∙ counts_len c.args.states.now.dims c.args.states.now.states)) c.requires.within

-- they are in order, and within those of all vertices
span_range : (f : Field) (d : Dims) (from to top start mid end : ℕ) → d ≡ f.dims → AreIds d from to top start mid end → (start ≤ end) × (end ≤ length (vertices f.dims))
span_range f d from to top start mid end same i =
    let a = mid_after d from to top start mid end i in
    let b = mid_before d from to top start mid end i in
    (omega arith, subst (λ (e : Dims). end ≤ length (vertices e)) same (end_within d from to top start mid end i))

-- the places of their nodes and of those of the two layers above stand in a row
span_row : (f : Field) (d : Dims) (ss : List State) (from to top start mid end first : ℕ) (places : List Place) → d ≡ f.dims → AreIds d from to top start mid end → first ≡ nodes_before f.dims ss start → places ≡ map (node_place f ss) (keys_of_ids f.dims ss start (end - start)) → AreInRow (mesh_of f ss).places first places
span_row f d ss from to top start mid end first places same i at stand =
    let range = span_range f d from to top start mid end same i in
    places_in_row f ss start end first places range.0 range.1 at stand

pub push_tets-requires-clause-nodes : goal.push_tets-requires-clause-nodes
push_tets-requires-clause-nodes c = subst (λ (d : Dims). HasNodes d c.args.states.now.states c.in_ok-nodes.nodes) (sym c.requires.sizes) c.in_ok-nodes.ensures.nodes

pub push_tets-requires-clause-plus : goal.push_tets-requires-clause-plus
push_tets-requires-clause-plus c =
    let d = c.args.states.now.dims in
    let ss = c.args.states.now.states in
    let f = c.args.field.now in
    let n = c.in_ok-nodes.nodes in
    let i = ids d f.dims c.dims-dims.result c.args.from c.args.to _ _ _ _ c.requires.sizes c.dims-dims.ensures.dims c.requires.some c.requires.within (c.min-top.ensures ∙ ap (min (c.args.to + 2)) c.layers.ensures.layers) c.in_ok-nodes.ensures.start c.ids_below-end.ensures.start c.in_ok-nodes.ensures.end in
    let range = span_range f d c.args.from c.args.to c.min-top.result n.start c.ids_below-end.result n.end c.requires.sizes i in
    subst (λ (e : Dims). PlusOnLattice e ss n) (sym c.requires.sizes) (plus_on_lattice f ss n c.in_ok-nodes.ensures.nodes range.0 range.1 c.in_ok-nodes.ensures.places)

pub push_tets-requires-clause-first : goal.push_tets-requires-clause-first
push_tets-requires-clause-first c = λ lt.
    let d = c.args.states.now.dims in
    let start : c.in_ok-nodes.nodes.start ≡ layer_start d c.args.from = c.in_ok-nodes.ensures.start ∙ ap (λ (e : Dims). layer_start e c.args.from) (sym c.requires.sizes) in
    c.first_vertex-v.ensures.vertex ∙ first_of_layer d c.args.from (subst IsDims c.dims-dims.ensures.dims c.dims-dims.ensures.sizes) (below c.args.from c.args.to (layers d) c.requires.some c.requires.within) ∙ ap (vertex_at d) (sym start)

pub push_tets-requires-clause-some : goal.push_tets-requires-clause-some
push_tets-requires-clause-some c =
    mid_after c.args.states.now.dims c.args.from c.args.to c.min-top.result c.in_ok-nodes.nodes.start c.ids_below-end.result c.in_ok-nodes.nodes.end
    (ids c.args.states.now.dims c.args.field.now.dims c.dims-dims.result c.args.from c.args.to _ _ _ _ c.requires.sizes c.dims-dims.ensures.dims c.requires.some c.requires.within (c.min-top.ensures ∙ ap (min (c.args.to + 2)) c.layers.ensures.layers) c.in_ok-nodes.ensures.start c.ids_below-end.ensures.start c.in_ok-nodes.ensures.end)

pub push_tets-requires-clause-within : goal.push_tets-requires-clause-within
push_tets-requires-clause-within c =
    mid_within c.args.states.now.dims c.args.from c.args.to c.min-top.result c.in_ok-nodes.nodes.start c.ids_below-end.result c.in_ok-nodes.nodes.end
    (ids c.args.states.now.dims c.args.field.now.dims c.dims-dims.result c.args.from c.args.to _ _ _ _ c.requires.sizes c.dims-dims.ensures.dims c.requires.some c.requires.within (c.min-top.ensures ∙ ap (min (c.args.to + 2)) c.layers.ensures.layers) c.in_ok-nodes.ensures.start c.ids_below-end.ensures.start c.in_ok-nodes.ensures.end)

pub push_tets-requires-clause-hold : goal.push_tets-requires-clause-hold
push_tets-requires-clause-hold c =
    holds c.args.states.now.dims c.args.from c.args.to c.min-top.result c.in_ok-nodes.nodes.start c.ids_below-end.result c.in_ok-nodes.nodes.end
    (ids c.args.states.now.dims c.args.field.now.dims c.dims-dims.result c.args.from c.args.to _ _ _ _ c.requires.sizes c.dims-dims.ensures.dims c.requires.some c.requires.within (c.min-top.ensures ∙ ap (min (c.args.to + 2)) c.layers.ensures.layers) c.in_ok-nodes.ensures.start c.ids_below-end.ensures.start c.in_ok-nodes.ensures.end)

pub push_tets-requires-clause-high : goal.push_tets-requires-clause-high
push_tets-requires-clause-high c =
    mid_before c.args.states.now.dims c.args.from c.args.to c.min-top.result c.in_ok-nodes.nodes.start c.ids_below-end.result c.in_ok-nodes.nodes.end
    (ids c.args.states.now.dims c.args.field.now.dims c.dims-dims.result c.args.from c.args.to _ _ _ _ c.requires.sizes c.dims-dims.ensures.dims c.requires.some c.requires.within (c.min-top.ensures ∙ ap (min (c.args.to + 2)) c.layers.ensures.layers) c.in_ok-nodes.ensures.start c.ids_below-end.ensures.start c.in_ok-nodes.ensures.end)

pub push_tets-requires-clause-room : goal.push_tets-requires-clause-room
push_tets-requires-clause-room c =
    let d = c.args.states.now.dims in
    let ss = c.args.states.now.states in
    let is = subst IsDims c.dims-dims.ensures.dims c.dims-dims.ensures.sizes in
    let le : c.args.from ≤ layers d = let a = c.requires.some in let b = c.requires.within in omega arith in
    room d c.args.from c.args.to c.min-top.result c.in_ok-nodes.nodes.start c.ids_below-end.result c.in_ok-nodes.nodes.end
    (ids d c.args.field.now.dims c.dims-dims.result c.args.from c.args.to _ _ _ _ c.requires.sizes c.dims-dims.ensures.dims c.requires.some c.requires.within (c.min-top.ensures ∙ ap (min (c.args.to + 2)) c.layers.ensures.layers) c.in_ok-nodes.ensures.start c.ids_below-end.ensures.start c.in_ok-nodes.ensures.end)
    ss is c.in_ok-out.out.number (tets_below d ss c.args.from)
    (c.in_ok-out.ensures.number ∙ ap (λ counts. sum_by (λ c. c.tets) (take c.args.from counts)) c.requires.offsets ∙ tets_to d ss c.args.from le)
    (tets_few d ss is c.args.from le)

pub push_tets-requires-clause-measured : goal.push_tets-requires-clause-measured
push_tets-requires-clause-measured c =
    let d = c.args.states.now.dims in
    let ss = c.args.states.now.states in
    let f = c.args.field.now in
    let n = c.in_ok-nodes.nodes in
    let i = ids d f.dims c.dims-dims.result c.args.from c.args.to _ _ _ _ c.requires.sizes c.dims-dims.ensures.dims c.requires.some c.requires.within (c.min-top.ensures ∙ ap (min (c.args.to + 2)) c.layers.ensures.layers) c.in_ok-nodes.ensures.start c.ids_below-end.ensures.start c.in_ok-nodes.ensures.end in
    let pieces = pieces_are d c.args.from c.args.to c.min-top.result n.start c.ids_below-end.result n.end i ss (subst IsDims c.dims-dims.ensures.dims c.dims-dims.ensures.sizes) in
    record {
      all = (mesh_of f ss).places;
      row = span_row f d ss c.args.from c.args.to c.min-top.result n.start c.ids_below-end.result n.end n.first n.places.items c.requires.sizes i c.in_ok-nodes.ensures.nodes.first c.in_ok-nodes.ensures.places;
      measured = subst (λ (ps : List (List ℕ)). All (IsMeasured (mesh_of f ss).places) (numbered d ss ps)) (sym pieces) c.requires.measured;
    }

pub returns-clause-text : goal.returns-clause-text
unfolding span_tet_lines
returns-clause-text c =
    let d = c.args.states.now.dims in
    let ss = c.args.states.now.states in
    let f = c.args.field.now in
    let n = c.in_ok-nodes.nodes in
    let le : c.args.from ≤ layers d = let a = c.requires.some in let b = c.requires.within in omega arith in
    let i = ids d f.dims c.dims-dims.result c.args.from c.args.to _ _ _ _ c.requires.sizes c.dims-dims.ensures.dims c.requires.some c.requires.within (c.min-top.ensures ∙ ap (min (c.args.to + 2)) c.layers.ensures.layers) c.in_ok-nodes.ensures.start c.ids_below-end.ensures.start c.in_ok-nodes.ensures.end in
    let row = span_row f d ss c.args.from c.args.to c.min-top.result n.start c.ids_below-end.result n.end n.first n.places.items c.requires.sizes i c.in_ok-nodes.ensures.nodes.first c.in_ok-nodes.ensures.places in
    let begun = c.in_ok-out.ensures in
    let number = begun.number ∙ ap (λ counts. sum_by (λ c. c.tets) (take c.args.from counts)) c.requires.offsets ∙ tets_to d ss c.args.from le in
    let pieces = pieces_are d c.args.from c.args.to c.min-top.result n.start c.ids_below-end.result n.end i ss (subst IsDims c.dims-dims.ensures.dims c.dims-dims.ensures.sizes) in
    (c.in_ok-push_tets.ensures (mesh_of f ss).places row).text ∙ (λ t. begun.text t ++ lines_if (begun.writes t) (begun.numbering t) (number t) (numbered d ss (pieces t)))

pub returns-clause-extremes : goal.returns-clause-extremes
unfolding span_angles
returns-clause-extremes c =
    let d = c.args.states.now.dims in
    let ss = c.args.states.now.states in
    let f = c.args.field.now in
    let n = c.in_ok-nodes.nodes in
    let le : c.args.from ≤ layers d = let a = c.requires.some in let b = c.requires.within in omega arith in
    let i = ids d f.dims c.dims-dims.result c.args.from c.args.to _ _ _ _ c.requires.sizes c.dims-dims.ensures.dims c.requires.some c.requires.within (c.min-top.ensures ∙ ap (min (c.args.to + 2)) c.layers.ensures.layers) c.in_ok-nodes.ensures.start c.ids_below-end.ensures.start c.in_ok-nodes.ensures.end in
    let row = span_row f d ss c.args.from c.args.to c.min-top.result n.start c.ids_below-end.result n.end n.first n.places.items c.requires.sizes i c.in_ok-nodes.ensures.nodes.first c.in_ok-nodes.ensures.places in
    let begun = c.in_ok-out.ensures in
    let number = begun.number ∙ ap (λ counts. sum_by (λ c. c.tets) (take c.args.from counts)) c.requires.offsets ∙ tets_to d ss c.args.from le in
    let pieces = pieces_are d c.args.from c.args.to c.min-top.result n.start c.ids_below-end.result n.end i ss (subst IsDims c.dims-dims.ensures.dims c.dims-dims.ensures.sizes) in
    c.found.ensures.value
    ∙ (c.in_ok-push_tets.ensures (mesh_of f ss).places row).angles [] (begun.angles ∙ extremes_of_none)
    ∙ (λ t. extremes_of (flat_map (angles_of (mesh_of f ss).places) (enumerate_from (number t) (numbered d ss (pieces t)))))
    ∙ ap (λ (e : Dims). extremes_of (flat_map (angles_of (mesh_of f ss).places) (enumerate_from (tets_below e ss c.args.from) (span_tets e ss c.args.from c.args.to)))) c.requires.sizes
