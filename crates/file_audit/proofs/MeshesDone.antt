-- The told files of the mesh of a field come to Done.
use Rattle.std.proofs.Common.{Some, Result, List, ℕ, ap, ◌∙◌}
use Rattle.definitions.specs.Mesh.{mesh}
use Rattle.formats.specs.declared.MeshFault.{MeshFault}
use Rattle.mesh_texts.specs.Files.{ele_text}
use Rattle.mesh_files.specs.Files.{Nodes}
use Rattle.audit_laws.specs.Laws.{nodes_back}
use Rattle.audit_laws.proofs.MeshBack.{mesh_is_read_back}
use Rattle.file_audit.specs.Laws.{MeshesAreDone}
use Rattle.file_audit.specs.Status.{verdict_status, tets_status, nodes_status}

pub meshes_are_done : MeshesAreDone
meshes_are_done f s step first shares fits low nodes_within tets_within =
    let back = mesh_is_read_back f s step first shares fits low nodes_within tets_within in
    ap (λ (w : Result Nodes MeshFault). nodes_status w (Some (ele_text first (mesh f s).tets))) back.nodes
    ∙ ap (λ (w : Result (List (List ℕ)) MeshFault). Some (tets_status (nodes_back step first f s) w)) back.tets
    ∙ ap (λ v. Some (verdict_status v)) back.sound
