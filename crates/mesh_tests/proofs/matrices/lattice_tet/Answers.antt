use Rattle.std.proofs.Common.{refl}
use Rattle.definitions.specs.Lattice.{vertex}
use Rattle.stencils.proofs.NumberedByTest.{numbered_by_test}
use Rattle.mesh_tests.proofs.matrices.lattice_tet.Goals as goal

pub returns : goal.returns
returns c = numbered_by_test (vertex 2 2 2) (vertex 2 2 4) (vertex 3 1 3) (vertex 3 3 3) 10 11 20 21 refl
