use Rattle.std.proofs.Common.{refl}
use Rattle.definitions.specs.Lattice.{vertex}
use Rattle.stencils.proofs.NumberedByTest.{numbered_by_test}
use Rattle.piece_tests.proofs.pieces.standing.Goals as goal

pub returns-clause-numbered : goal.returns-clause-numbered
returns-clause-numbered c = numbered_by_test (vertex 2 2 2) (vertex 3 1 1) (vertex 3 1 3) (vertex 4 2 2) 10 20 21 40 refl
