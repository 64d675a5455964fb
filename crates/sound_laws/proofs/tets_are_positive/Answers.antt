use Rattle.sound_laws.proofs.Positive as law
use Rattle.sound_laws.proofs.tets_are_positive.Goals as goal

pub returns : goal.returns
returns c = law.tets_are_positive
