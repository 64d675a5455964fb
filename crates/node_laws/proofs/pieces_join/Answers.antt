use Rattle.node_laws.proofs.Pieces as law
use Rattle.node_laws.proofs.pieces_join.Goals as goal

pub returns : goal.returns
returns c = law.pieces_join
