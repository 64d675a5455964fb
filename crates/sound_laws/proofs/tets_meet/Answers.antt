use Rattle.sound_laws.proofs.Meeting as law
use Rattle.sound_laws.proofs.tets_meet.Goals as goal

pub returns : goal.returns
returns c = law.tets_meet
