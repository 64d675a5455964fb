use Rattle.std.proofs.Common.{◌≡◌, ◌+◌, sym, ◌∙◌, ℕ}
use Rattle.lattice_counts.specs.Counts.{below_layer, before_in_layer}
use Rattle.lattice_counts.proofs.Places.{vertex_by_place}
use Rattle.definitions.specs.declared.Dims.{Dims}
use Rattle.definitions.specs.declared.Vertex.{Vertex}
use Rattle.bcc_lattice.proofs.vertices.vertex_of.Goals as goal

placed : (d : Dims) (v : Vertex) (h p n : ℕ) → v.h ≡ h → before_in_layer d v ≡ p → below_layer d h + p ≡ n → below_layer d v.h + before_in_layer d v ≡ n
placed d v h p n a b e = (λ i. below_layer d (a i) + b i) ∙ e

pub returns-clause-vertex : goal.returns-clause-vertex
returns-clause-vertex c =
    let v = c.vertex_in.ensures in
    let p = c.layer_place.ensures in
    sym (vertex_by_place c.args.dims c.vertex_in.result c.args.id v.domain (placed c.args.dims c.vertex_in.result c.layer_place.result.h c.layer_place.result.before c.args.id v.layer v.before p.sum)).0

pub returns-clause-id : goal.returns-clause-id
returns-clause-id c =
    let v = c.vertex_in.ensures in
    let p = c.layer_place.ensures in
    (vertex_by_place c.args.dims c.vertex_in.result c.args.id v.domain (placed c.args.dims c.vertex_in.result c.layer_place.result.h c.layer_place.result.before c.args.id v.layer v.before p.sum)).1
