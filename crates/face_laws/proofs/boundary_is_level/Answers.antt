use Rattle.face_laws.proofs.LevelBoundary as law
use Rattle.face_laws.proofs.boundary_is_level.Goals as goal

pub returns : goal.returns
returns c = law.boundary_is_level
