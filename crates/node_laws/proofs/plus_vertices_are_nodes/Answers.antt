use Rattle.node_laws.proofs.PlusVertices as law
use Rattle.node_laws.proofs.plus_vertices_are_nodes.Goals as goal

pub returns : goal.returns
returns c = law.plus_vertices_are_nodes
