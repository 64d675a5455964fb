use Rattle.std.proofs.Common.{length}
use Rattle.piece_tests.proofs.rows.shapes_are_counted.Given as goal

abbrev pub decreases-loop-rest : goal.decreases-loop-rest
decreases-loop-rest g l = length l.rest
