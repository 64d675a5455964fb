-- What is proved of the files of meshes.
use Rattle.std.specs.Prelude.{◌≡◌, ◌≤◌, ℕ, Some, length}
use Rattle.definitions.specs.Values.{Field}
use Rattle.definitions.specs.States.{Shares, IsShares}
use Rattle.definitions.specs.Mesh.{mesh}
use Rattle.formats.specs.declared.Status.TheVariants.{Done}
use Rattle.mesh_texts.specs.Nodes.{mesh_nodes}
use Rattle.mesh_texts.specs.Files.{node_text, ele_text}
use Rattle.mesh_files.specs.Lines.{text_limit}
use Rattle.audit_laws.specs.Laws.{index_frame, FitsFiles}
use Rattle.file_audit.specs.Status.{audit_status}

-- The told files of the mesh of any field in index units, numbered from 0 or from 1, come to Done, where they are no longer than texts may be.
abbrev pub MeshesAreDone : Type 0
MeshesAreDone =
    (f : Field) (s : Shares) (step first : ℕ) → IsShares s → FitsFiles step f.dims → first ≤ 1
    → length (node_text (index_frame step) first (mesh_nodes f s)) ≤ text_limit → length (ele_text first (mesh f s).tets) ≤ text_limit
    → audit_status (Some (node_text (index_frame step) first (mesh_nodes f s))) (Some (ele_text first (mesh f s).tets)) ≡ Some Done
