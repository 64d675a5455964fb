use Rattle.parent_laws.proofs.Distances as law
use Rattle.parent_laws.proofs.displacements_are_limited.Goals as goal

pub returns : goal.returns
returns c = law.displacements_are_limited
