use Rattle.bcc_lattice.proofs.StateCodes as law
use Rattle.bcc_lattice.proofs.laws.codes_tell_states.Goals as goal

pub returns : goal.returns
returns c = law.codes_tell_states
