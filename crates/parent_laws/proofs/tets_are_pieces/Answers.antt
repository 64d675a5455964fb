use Rattle.parent_laws.proofs.Parents as law
use Rattle.parent_laws.proofs.tets_are_pieces.Goals as goal

pub returns : goal.returns
returns c = law.tets_are_pieces
