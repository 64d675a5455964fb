use Rattle.std.proofs.Common.{length}
use Rattle.stuff_tests.proofs.meshes.writes_meshes.Given as goal

abbrev pub decreases-loop-rest : goal.decreases-loop-rest
decreases-loop-rest g l = length l.rest
