use Rattle.std.proofs.Common.{length}
use Rattle.piece_tests.proofs.rows.has_nodes.Given as goal

abbrev pub decreases-loop-rest : goal.decreases-loop-rest
decreases-loop-rest l = length l.rest
