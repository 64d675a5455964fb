use Rattle.audit_laws.proofs.SoundVerdict as law
use Rattle.audit_laws.proofs.conforming_are_sound.Goals as goal

pub returns : goal.returns
returns c = law.conforming_are_sound
