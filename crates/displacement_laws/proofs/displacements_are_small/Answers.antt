use Rattle.displacement_laws.proofs.Displacements as law
use Rattle.displacement_laws.proofs.displacements_are_small.Goals as goal

pub returns : goal.returns
returns c = law.displacements_are_small
