use Rattle.node_laws.proofs.Padding as law
use Rattle.node_laws.proofs.states_are_padded.Goals as goal

pub returns : goal.returns
returns c = law.states_are_padded
