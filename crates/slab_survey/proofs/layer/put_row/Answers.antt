use Rattle.std.proofs.Common.{◌≡◌, ℕ, ◌+◌, ◌*◌, ◌%◌, ◌<◌, ◌≤◌, refl, sym, ap, ◌∙◌, subst, arith}
use Rattle.definitions.specs.declared.Dims.{Dims}
use Rattle.definitions.specs.declared.Vertex.{Vertex}
use Rattle.definitions.specs.Lattice.{IsDims, id, layers, vertex}
use Rattle.definitions.specs.Layout.{layer_start}
use Rattle.lattice_counts.specs.Counts.{row_len}
use Rattle.layer_cells.specs.Seats.{Subject}
use Rattle.vertex_numbers.proofs.LayerIds.{row_id}
use Rattle.slab_survey.proofs.Puts.{put_none, put_one, put_same}
use Rattle.slab_survey.proofs.layer.put_row.Goals as goal

-- the id of the first vertex of a row
first_id : (d e : Dims) → IsDims d → (h j n : ℕ) (v : Vertex) → h < layers d → j < row_len d.ny h → e ≡ d → v ≡ vertex h (j * 2 + h % 2) (0 * 2 + h % 2) → n ≡ id e v → n ≡ layer_start d h + j * row_len d.nx h
first_id d e is h j n v layer row same at is_id =
    let some : 0 < row_len d.nx h = omega arith in
    let none : layer_start d h + j * row_len d.nx h + 0 ≡ layer_start d h + j * row_len d.nx h = omega arith in
    is_id ∙ (λ i. id (same i) (at i)) ∙ row_id d is h layer j 0 row some ∙ none

pub put-requires-clause-id : goal.put-requires-clause-id
put-requires-clause-id g c =
    let d = c.args.field.now.dims in
    let v = vertex c.args.h (c.args.j * 2 + c.args.h % 2) (c.loop-i.i * 2 + c.args.h % 2) in
    let count = c.columns-i-end.ensures.columns ∙ ap (λ (e : Dims). row_len e.nx c.args.h) c.dims-dims.ensures.value in
    let here = ap (λ (u : Vertex). id c.args.cells.now.subject.field.dims u) c.vertex_in_row-v.ensures.vertex ∙ ap (λ (a : Subject). id a.field.dims v) c.requires.cells ∙ row_id d c.dims-dims.ensures.field.sizes c.args.h c.requires.layer c.args.j c.loop-i.i c.requires.row (subst (λ (n : ℕ). c.loop-i.i < n) count c.loop-i-test.true) in
    let start = first_id d c.dims-dims.result c.dims-dims.ensures.field.sizes c.args.h c.args.j c.id-start.result c.vertex_in_row.result c.requires.layer c.requires.row c.dims-dims.ensures.value c.vertex_in_row.ensures.vertex c.id-start.ensures.id in
    ap (λ (n : ℕ). n + c.loop-i.i) start ∙ sym here

pub loop-i-preserved : goal.loop-i-preserved
loop-i-preserved g c =
    let d = c.args.field.now.dims in
    let first = layer_start d c.args.h + c.args.j * row_len d.nx c.args.h in
    let start = first_id d c.dims-dims.result c.dims-dims.ensures.field.sizes c.args.h c.args.j c.id-start.result c.vertex_in_row.result c.requires.layer c.requires.row c.dims-dims.ensures.value c.vertex_in_row.ensures.vertex c.id-start.ensures.id in
    put_one first (first + c.loop-i.i) _ _ _ _ _ c.loop-i.invariant c.put.ensures (ap (λ (n : ℕ). n + c.loop-i.i) start) (omega arith)
