use Rattle.displacement_laws.proofs.Displacements as law
use Rattle.displacement_laws.proofs.near_states_are_displaced.Goals as goal

pub returns : goal.returns
returns c = law.near_states_are_displaced
