use Rattle.node_laws.proofs.Pieces as law
use Rattle.node_laws.proofs.piece_counts_by_shape.Goals as goal

pub returns : goal.returns
returns c = law.piece_counts_by_shape
