use Rattle.std.proofs.Common.{length}
use Rattle.stuff_tests.proofs.workers.traces_tell_slabs_and_layers.Given as goal

abbrev pub decreases-loop-rest : goal.decreases-loop-rest
decreases-loop-rest g l = length l.rest
