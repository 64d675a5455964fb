use Rattle.std.proofs.Common.{length}
use Rattle.stuff_tests.proofs.finished.points_are_probed.Given as goal

abbrev pub decreases-loop-rest : goal.decreases-loop-rest
decreases-loop-rest g l = length l.rest
