use Rattle.sound_laws.proofs.Different as law
use Rattle.sound_laws.proofs.tets_differ.Goals as goal

pub returns : goal.returns
returns c = law.tets_differ
