use Rattle.node_laws.proofs.Reach as law
use Rattle.node_laws.proofs.used_by_reach.Goals as goal

pub returns : goal.returns
returns c = law.used_by_reach
