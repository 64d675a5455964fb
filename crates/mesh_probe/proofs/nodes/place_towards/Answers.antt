use Rattle.std.proofs.Common.{◌≡◌, ℕ, ◌+◌, ◌*◌, ◌/◌, ◌%◌, ◌≤◌, arith, sym, ◌∙◌, ap}
use Rattle.definitions.specs.Lattice.{id}
use Rattle.definitions.specs.Mesh.{edge_cut, node_place}
use Rattle.definitions.specs.Places.{cut_place, state_place}
use Rattle.lattice_laws.proofs.Vertices.{vertex_at-id}
use Rattle.mesh_lists.proofs.NodePlaces.{edge_place, vertex_place, only_zero}
use Rattle.mesh_probe.proofs.nodes.place_towards.Goals as goal

key_is : (key n d : ℕ) → key / 8 ≡ n → key % 8 ≡ d → 8 * n + d ≡ key
key_is key n d e h = omega arith

pub returns-in-Some : goal.returns-in-Some
returns-in-Some c = λ ss told key e h.
    let f = c.args.field.now in
    let v = c.args.v in
    let is = c.in-Some.ensures in
    let same : c.in-Some.dir ≡ c.args.dir = is.1 in
    let low : 1 ≤ c.args.dir = is.0.low in
    c.cut_place.ensures.place ∙ ap (cut_place v c.in-Some.dir) c.edge_cut.ensures ∙ (λ i. cut_place v (same i) (edge_cut f v (same i)))
    ∙ sym (edge_place f ss v (id f.dims v) c.args.dir (vertex_at-id f.dims v c.requires.domain).1 low c.requires.dir)
    ∙ ap (node_place f ss) (key_is key (id f.dims v) c.args.dir e h)

pub returns-in-None : goal.returns-in-None
returns-in-None c = λ ss told key e h.
    let f = c.args.field.now in
    let v = c.args.v in
    c.place.ensures.place ∙ ap (state_place v) (sym told)
    ∙ sym (vertex_place f ss v (id f.dims v) c.args.dir (vertex_at-id f.dims v c.requires.domain).1 (only_zero c.args.dir c.requires.dir c.in-None.ensures))
    ∙ ap (node_place f ss) (key_is key (id f.dims v) c.args.dir e h)
