use Rattle.parent_laws.proofs.Nodes as law
use Rattle.parent_laws.proofs.nodes_stand_on_edges.Goals as goal

pub returns : goal.returns
returns c = law.nodes_stand_on_edges
