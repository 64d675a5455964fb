use Rattle.piece_laws.proofs.SignedVolumes as law
use Rattle.piece_laws.proofs.pieces_have_signed_volumes.Goals as goal

pub returns : goal.returns
returns c = law.pieces_have_signed_volumes
