use Rattle.std.proofs.Common.{refl}
use Rattle.face_tests.specs.declared.meshes.TheConstants.{TETS}
use Rattle.face_tests.proofs.KnownTetrahedra.{nodes_differ, by_two}
use Rattle.face_tests.proofs.meshes.boundary_of_one_sample.Goals as goal

pub faces-requires-clause-differ : goal.faces-requires-clause-differ
faces-requires-clause-differ g c = nodes_differ TETS refl

pub faces-requires-clause-by_two : goal.faces-requires-clause-by_two
faces-requires-clause-by_two g c = by_two TETS refl
