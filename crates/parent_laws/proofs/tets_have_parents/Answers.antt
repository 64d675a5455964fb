use Rattle.parent_laws.proofs.Parents as law
use Rattle.parent_laws.proofs.tets_have_parents.Goals as goal

pub returns : goal.returns
returns c = law.tets_have_parents
