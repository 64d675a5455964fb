use Rattle.piece_laws.proofs.PiecesMeet as law
use Rattle.piece_laws.proofs.moved_pieces_meet.Goals as goal

pub returns : goal.returns
returns c = law.moved_pieces_meet
