use Rattle.std.proofs.Common.{refl}
use Rattle.definitions.specs.Lattice.{vertices}
use Rattle.core_tests.proofs.scripts.start.Goals as goal

pub new-requires-clause-wanted : goal.new-requires-clause-wanted
unfolding vertices
new-requires-clause-wanted c = refl
