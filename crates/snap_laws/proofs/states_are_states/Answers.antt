use Rattle.snap_laws.proofs.StatesAre as law
use Rattle.snap_laws.proofs.states_are_states.Goals as goal

pub returns : goal.returns
returns c = law.states_are_states
