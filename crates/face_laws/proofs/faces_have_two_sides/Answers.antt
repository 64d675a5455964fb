use Rattle.face_laws.proofs.OtherSides as law
use Rattle.face_laws.proofs.faces_have_two_sides.Goals as goal

pub returns : goal.returns
returns c = law.faces_have_two_sides
