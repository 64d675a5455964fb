use Rattle.snap_laws.proofs.ByValues as law
use Rattle.snap_laws.proofs.states_by_values.Goals as goal

pub returns : goal.returns
returns c = law.states_by_values
