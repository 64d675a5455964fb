use Rattle.audit_laws.proofs.MeshBack as law
use Rattle.audit_laws.proofs.mesh_is_read_back.Goals as goal

pub returns : goal.returns
returns c = law.mesh_is_read_back
