use Rattle.node_laws.proofs.NodesOfTheMesh as law
use Rattle.node_laws.proofs.nodes_have_reasons.Goals as goal

pub returns : goal.returns
returns c = law.nodes_have_reasons
