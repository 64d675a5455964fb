use Rattle.std.proofs.Common.{◌∙◌, ap, length}
use Rattle.std.specs.Prelude.{sum_by}
use Rattle.definitions.specs.Mesh.{Mesh}
use Rattle.definitions.specs.States.{states}
use Rattle.vertex_numbers.specs.declared.LayerCount.{LayerCount}
use Rattle.mesh_lists.proofs.Meshes.{mesh_by_states}
use Rattle.slab_emit.proofs.Totals.{all_tets}
use Rattle.stuff.proofs.surveyed.tet_count.Goals as goal

pub returns : goal.returns
returns c =
    let f = c.args.survey.now.subject.field in
    let s = c.args.survey.now.subject.shares in
    c.tets.ensures ∙ ap (sum_by (λ (l : LayerCount). l.tets)) c.offsets.ensures ∙ all_tets f (states f s) ∙ ap (λ (m : Mesh). length m.tets) (mesh_by_states f s)
