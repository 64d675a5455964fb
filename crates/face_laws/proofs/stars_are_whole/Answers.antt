use Rattle.face_laws.proofs.Stars as law
use Rattle.face_laws.proofs.stars_are_whole.Goals as goal

pub returns : goal.returns
returns c = law.stars_are_whole
