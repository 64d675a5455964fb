use Rattle.std.proofs.Common.{length}
use Rattle.core_tests.proofs.scripts.scripts_run_up_to_what_is_not_allowed.Given as goal

abbrev pub decreases-loop-rest : goal.decreases-loop-rest
decreases-loop-rest g l = length l.rest
