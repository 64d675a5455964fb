use Rattle.node_laws.proofs.Standing as law
use Rattle.node_laws.proofs.nodes_stand_in_domain.Goals as goal

pub returns : goal.returns
returns c = law.nodes_stand_in_domain
