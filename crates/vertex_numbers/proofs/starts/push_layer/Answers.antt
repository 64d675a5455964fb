use Rattle.std.proofs.Common.{◌+◌, ap, sym, subst, ◌∙◌}
use Rattle.definitions.specs.declared.Dims.{Dims}
use Rattle.definitions.specs.Layout.{layer_start}
use Rattle.lattice_counts.specs.Counts.{row_len}
use Rattle.node_laws.proofs.Layers.{next_start}
use Rattle.vertex_numbers.specs.Numbering.{IsDraft}
use Rattle.vertex_numbers.proofs.LayerIds.{all_rows}
use Rattle.vertex_numbers.proofs.starts.push_layer.Goals as goal

pub returns-clause-draft : goal.returns-clause-draft
returns-clause-draft c =
    let s = c.args.states.now in
    let h = c.args.h in
    let count = c.rows-j-end.ensures.rows ∙ ap (λ (e : Dims). row_len e.ny h) c.dims.ensures.dims in
    let rows = all_rows s.dims h c.loop-j.j c.rows-j-end.result count c.loop-j-test.false c.loop-j.auto.j-end in
    subst (λ n. IsDraft s.dims s.states n c.loop-j.draft) (ap (λ n. layer_start s.dims h + n) rows ∙ sym (next_start s.dims h c.requires.layer)) c.loop-j.invariant.draft
