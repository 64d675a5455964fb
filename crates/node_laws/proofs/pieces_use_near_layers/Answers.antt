use Rattle.node_laws.proofs.Reach as law
use Rattle.node_laws.proofs.pieces_use_near_layers.Goals as goal

pub returns : goal.returns
returns c = law.pieces_use_near_layers
