use Rattle.std.proofs.Common.{length}
use Rattle.stuff_tests.proofs.lines.tells_one_line.Given as goal

abbrev pub decreases-loop-rest : goal.decreases-loop-rest
decreases-loop-rest g l = length l.rest
