use Rattle.face_laws.proofs.NumberedBoundary as law
use Rattle.face_laws.proofs.mesh_boundary_is_level.Goals as goal

pub returns : goal.returns
returns c = law.mesh_boundary_is_level
