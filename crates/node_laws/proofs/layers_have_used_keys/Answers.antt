use Rattle.node_laws.proofs.Reach as law
use Rattle.node_laws.proofs.layers_have_used_keys.Goals as goal

pub returns : goal.returns
returns c = law.layers_have_used_keys
