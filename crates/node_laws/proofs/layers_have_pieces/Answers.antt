use Rattle.node_laws.proofs.Reach as law
use Rattle.node_laws.proofs.layers_have_pieces.Goals as goal

pub returns : goal.returns
returns c = law.layers_have_pieces
