use Rattle.std.proofs.Common.{length}
use Rattle.stuff_tests.proofs.rows.words_as.Given as goal

abbrev pub decreases-loop-rest : goal.decreases-loop-rest
decreases-loop-rest l = length l.rest
