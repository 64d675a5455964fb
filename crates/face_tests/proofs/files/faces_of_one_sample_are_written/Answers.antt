use Rattle.std.proofs.Common.{refl}
use Rattle.face_tests.specs.declared.meshes.TheConstants.{TETS}
use Rattle.face_tests.proofs.KnownTetrahedra.{nodes_differ, by_two}
use Rattle.face_tests.proofs.files.faces_of_one_sample_are_written.Goals as goal

pub neighbours-requires-clause-differ : goal.neighbours-requires-clause-differ
neighbours-requires-clause-differ g c = nodes_differ TETS refl

pub neighbours-requires-clause-by_two : goal.neighbours-requires-clause-by_two
neighbours-requires-clause-by_two g c = by_two TETS refl

pub faces_to-requires-clause-differ : goal.faces_to-requires-clause-differ
faces_to-requires-clause-differ g c = nodes_differ TETS refl

pub faces_to-requires-clause-by_two : goal.faces_to-requires-clause-by_two
faces_to-requires-clause-by_two g c = by_two TETS refl

pub faces_to-requires-2-clause-differ : goal.faces_to-requires-2-clause-differ
faces_to-requires-2-clause-differ g c = nodes_differ TETS refl

pub faces_to-requires-2-clause-by_two : goal.faces_to-requires-2-clause-by_two
faces_to-requires-2-clause-by_two g c = by_two TETS refl
