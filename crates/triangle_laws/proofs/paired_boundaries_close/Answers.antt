use Rattle.triangle_laws.proofs.Closing as law
use Rattle.triangle_laws.proofs.paired_boundaries_close.Goals as goal

pub returns : goal.returns
returns c = law.paired_boundaries_close
