use Rattle.node_laws.proofs.Layers as law
use Rattle.node_laws.proofs.keys_join.Goals as goal

pub returns : goal.returns
returns c = law.keys_join
