use Rattle.std.proofs.Common.{ap, ◌∙◌, length}
use Rattle.std.specs.Prelude.{sum_by}
use Rattle.mesh_lists.specs.Parts.{mesh_of}
use Rattle.vertex_numbers.specs.declared.LayerCount.{LayerCount}
use Rattle.slab_emit.specs.Sources.{SourceValue}
use Rattle.slab_emit.proofs.Totals.{all_tets}
use Rattle.slab_emit.proofs.source.Source.tets.Goals as goal

pub returns : goal.returns
returns c =
    c.tets.ensures ∙ ap (sum_by (λ (c : LayerCount). c.tets)) c.self.invariant.offsets ∙ all_tets c.self.inside.field.now c.self.inside.states.now.states
    ∙ ap (λ (s : SourceValue). length (mesh_of s.field s.states).tets) c.self.view_is
