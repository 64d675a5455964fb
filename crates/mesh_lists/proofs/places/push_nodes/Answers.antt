use Rattle.std.proofs.Common.{◌≡◌, ◌<◌, ◌++◌, ◌∷◌, [], List, append_assoc, append-nil, ap, length, map, subst, sym, ◌∙◌}
use Rattle.std.specs.Prelude.{OnOk, filter, if◌then◌else◌}
use Rattle.std.specs.List.{range_with_len}
use Rattle.definitions.specs.declared.Place.{Place}
use Rattle.definitions.specs.Lattice.{vertex_at, vertices}
use Rattle.definitions.specs.Mesh.{state_at}
use Rattle.definitions.specs.Places.{state_place}
use Rattle.lattice_laws.proofs.Vertices.{vertex_at-id}
use Rattle.vertex_numbers.specs.Bits.{has_bit}
use Rattle.mesh_lists.specs.Parts.{place_on_edge}
use Rattle.mesh_lists.proofs.NodePlaces.{no_cuts, places_by_bits}
use Rattle.mesh_lists.proofs.Numberings.{vertex_within}
use Rattle.mesh_lists.proofs.places.push_nodes.Goals as goal

pub push_vertex-requires : goal.push_vertex-requires
push_vertex-requires c = record { domain = subst (λ d. c.args.id < length (vertices d)) (sym c.requires.sizes) (vertex_within c.args.field.now.dims c.args.v c.args.id c.requires.domain c.requires.id) }

pub returns-then-bits-lt2 : goal.returns-then-bits-lt2
returns-then-bits-lt2 c =
    let f = c.args.field.now in
    let ss = c.args.states.now.states in
    let old = c.args.places.now.items in
    let bits = c.bits-bits.result in
    let own : List Place = if has_bit bits 0 then state_place c.args.v (state_at ss c.args.id) ∷ [] else [] in
    let at : vertex_at f.dims c.args.id ≡ c.args.v = ap (vertex_at f.dims) c.requires.id ∙ (vertex_at-id f.dims c.args.v c.requires.domain).1 in
    c.in_ok-push_vertex.ensures
    ∙ ap (λ l. old ++ l)
    (sym (append-nil own) ∙ ap (λ ds. own ++ map (place_on_edge f c.args.v) ds) (sym (no_cuts bits c.if-bits-lt2.true))
    ∙ places_by_bits f ss c.args.starts.now c.args.v c.args.id bits c.requires.used c.requires.low c.requires.high at c.bits-bits.ensures)

pub returns : goal.returns
returns c =
    let f = c.args.field.now in
    let ss = c.args.states.now.states in
    let old = c.args.places.now.items in
    let bits = c.bits-bits.result in
    let own : List Place = if has_bit bits 0 then state_place c.args.v (state_at ss c.args.id) ∷ [] else [] in
    let cuts : List Place = map (place_on_edge f c.args.v) (filter (has_bit bits) (range_with_len 1 7)) in
    let at : vertex_at f.dims c.args.id ≡ c.args.v = ap (vertex_at f.dims) c.requires.id ∙ (vertex_at-id f.dims c.args.v c.requires.domain).1 in
    subst (λ (xs : List Place). OnOk c.push_cuts.result (c.push_cuts.new.places.items ≡ xs))
    (ap (λ l. l ++ cuts) c.in_ok-push_vertex.ensures ∙ append_assoc old own cuts
    ∙ ap (λ l. old ++ l) (places_by_bits f ss c.args.starts.now c.args.v c.args.id bits c.requires.used c.requires.low c.requires.high at c.bits-bits.ensures))
    c.push_cuts.ensures
