use Rattle.node_laws.proofs.PlusVertices as law
use Rattle.node_laws.proofs.minus_vertices_are_no_nodes.Goals as goal

pub returns : goal.returns
returns c = law.minus_vertices_are_no_nodes
