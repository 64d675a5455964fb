use Rattle.std.proofs.Common.{length}
use Rattle.piece_tests.proofs.pieces.pieces_by_signs.Given as goal

abbrev pub decreases-loop-rest : goal.decreases-loop-rest
decreases-loop-rest g l = length l.rest
