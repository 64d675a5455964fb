use Rattle.std.proofs.Common.{refl}
use Rattle.face_tests.specs.declared.meshes.TheConstants.{TETS}
use Rattle.face_tests.proofs.KnownTetrahedra.{nodes_differ, by_two}
use Rattle.face_tests.proofs.files.port_that_takes_three_bytes.Goals as goal

pub neighbours-requires-clause-differ : goal.neighbours-requires-clause-differ
neighbours-requires-clause-differ g c = nodes_differ TETS refl

pub neighbours-requires-clause-by_two : goal.neighbours-requires-clause-by_two
neighbours-requires-clause-by_two g c = by_two TETS refl
