use Rattle.node_laws.proofs.UsedNodes as law
use Rattle.node_laws.proofs.used_nodes_occur.Goals as goal

pub returns : goal.returns
returns c = law.used_nodes_occur
