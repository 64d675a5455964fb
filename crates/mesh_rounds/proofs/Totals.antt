-- How many nodes and tetrahedra a mesh has, by the counts of its layers; and that its angles can be measured.
use Rattle.std.proofs.Common.{sym, subst, All}
use Rattle.definitions.specs.Mesh.{Mesh}
use Rattle.definitions.specs.States.{Shares, IsShares, states}
use Rattle.definitions.specs.Values.{Field}
use Rattle.near_laws.proofs.NearNodes.{nodes_are_near}
use Rattle.sound_laws.proofs.Positive.{tets_are_positive}
use Rattle.mesh_lists.specs.Parts.{mesh_of}
use Rattle.mesh_lists.proofs.Meshes.{mesh_by_states}
use Rattle.slab_texts.specs.Texts.{IsMeasured}
pub use Rattle.slab_emit.proofs.Totals.{all_nodes as nodes_in_all, all_tets as tets_in_all}

-- all tetrahedra of a mesh can be measured
pub mesh_measured : (f : Field) (s : Shares) → IsShares s → All (IsMeasured (mesh_of f (states f s)).places) (mesh_of f (states f s)).tets
mesh_measured f s ok =
    subst (λ (m : Mesh). All (IsMeasured m.places) m.tets) (sym (mesh_by_states f s))
    (λ k d lt. record { near = (nodes_are_near f s ok k d lt).near; positive = tets_are_positive f s ok k d lt })
