use Rattle.std.proofs.Common.{◌∙◌, ap, length}
use Rattle.std.specs.Prelude.{sum_by}
use Rattle.definitions.specs.Mesh.{Mesh}
use Rattle.definitions.specs.States.{states}
use Rattle.vertex_numbers.specs.declared.LayerCount.{LayerCount}
use Rattle.mesh_lists.proofs.Meshes.{mesh_by_states}
use Rattle.slab_emit.proofs.Totals.{all_nodes}
use Rattle.stuff.proofs.surveyed.node_count.Goals as goal

pub returns : goal.returns
returns c =
    let f = c.args.survey.now.subject.field in
    let s = c.args.survey.now.subject.shares in
    c.nodes.ensures ∙ ap (sum_by (λ (l : LayerCount). l.nodes)) c.offsets.ensures ∙ all_nodes f (states f s) ∙ ap (λ (m : Mesh). length m.places) (mesh_by_states f s)
