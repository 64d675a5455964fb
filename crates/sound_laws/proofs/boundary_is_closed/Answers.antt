use Rattle.sound_laws.proofs.Sound as law
use Rattle.sound_laws.proofs.boundary_is_closed.Goals as goal

pub returns : goal.returns
returns c = law.boundary_is_closed
