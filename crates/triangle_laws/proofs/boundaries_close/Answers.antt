use Rattle.triangle_laws.proofs.Partners as law
use Rattle.triangle_laws.proofs.boundaries_close.Goals as goal

pub returns : goal.returns
returns c = law.boundaries_close
