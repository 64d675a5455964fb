use Rattle.std.proofs.Common.{length}
use Rattle.stuff_tests.proofs.order.files_are_opened_late_and_written_round_by_round.Given as goal

abbrev pub decreases-loop-rest : goal.decreases-loop-rest
decreases-loop-rest g l = length l.rest
