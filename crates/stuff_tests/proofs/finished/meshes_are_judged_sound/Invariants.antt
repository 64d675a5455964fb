use Rattle.std.proofs.Common.{length}
use Rattle.stuff_tests.proofs.finished.meshes_are_judged_sound.Given as goal

abbrev pub decreases-loop-rest : goal.decreases-loop-rest
decreases-loop-rest g l = length l.rest
