use Rattle.face_laws.proofs.NumberedBoundary as law
use Rattle.face_laws.proofs.boundaries_are_numbered.Goals as goal

pub returns : goal.returns
returns c = law.boundaries_are_numbered
