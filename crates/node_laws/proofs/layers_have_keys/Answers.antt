use Rattle.node_laws.proofs.Layers as law
use Rattle.node_laws.proofs.layers_have_keys.Goals as goal

pub returns : goal.returns
returns c = law.layers_have_keys
