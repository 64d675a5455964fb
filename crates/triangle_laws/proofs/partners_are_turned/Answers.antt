use Rattle.triangle_laws.proofs.Partners as law
use Rattle.triangle_laws.proofs.partners_are_turned.Goals as goal

pub returns : goal.returns
returns c = law.partners_are_turned
