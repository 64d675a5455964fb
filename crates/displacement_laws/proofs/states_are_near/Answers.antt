use Rattle.displacement_laws.proofs.Distances as law
use Rattle.displacement_laws.proofs.states_are_near.Goals as goal

pub returns : goal.returns
returns c = law.states_are_near
