use Rattle.node_laws.proofs.Reach as law
use Rattle.node_laws.proofs.layers_count_pieces.Goals as goal

pub returns : goal.returns
returns c = law.layers_count_pieces
