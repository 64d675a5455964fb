use Rattle.std.proofs.Common.{◌≡◌, ◌≤◌, arith, All, ap, subst, sym, ◌∙◌}
use Rattle.definitions.specs.declared.Dims.{Dims}
use Rattle.definitions.specs.Lattice.{layers}
use Rattle.mesh_lists.specs.Parts.{mesh_of}
use Rattle.slab_texts.specs.Spans.{span_tets}
use Rattle.slab_texts.specs.Texts.{IsMeasured}
use Rattle.slab_texts.proofs.Joining.{tets_hold}
use Rattle.slab_emit.specs.Sources.{SourceValue}
use Rattle.slab_emit.proofs.source.Source.tet_text.Goals as goal

pub tet_text-requires-clause-measured : goal.tet_text-requires-clause-measured
tet_text-requires-clause-measured c =
    let f = c.self.inside.field.now in
    let ss = c.self.inside.states.now.states in
    let from = c.layers_of-from.result.0 in
    let to = c.layers_of-from.result.1 in
    let dims : c.layout.result.dims ≡ f.dims = c.layout.ensures.dims ∙ sym (ap (λ (s : SourceValue). s.field.dims) c.self.view_is) in
    let within : to ≤ layers f.dims = subst (λ (d : Dims). to ≤ layers d) dims c.layers_of-from.ensures.within in
    let some : from ≤ to = let s = c.layers_of-from.ensures.some in omega arith in
    subst (λ (d : Dims). All (IsMeasured (mesh_of f ss).places) (span_tets d ss from to)) (sym c.self.invariant.sizes) (tets_hold (IsMeasured (mesh_of f ss).places) f ss from to some within c.self.invariant.measured)
