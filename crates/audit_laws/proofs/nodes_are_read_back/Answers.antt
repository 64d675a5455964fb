use Rattle.audit_laws.proofs.NodesBack as law
use Rattle.audit_laws.proofs.nodes_are_read_back.Goals as goal

pub returns : goal.returns
returns c = law.nodes_are_read_back
