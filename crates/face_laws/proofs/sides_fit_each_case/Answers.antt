use Rattle.face_laws.proofs.SidesFit as law
use Rattle.face_laws.proofs.sides_fit_each_case.Goals as goal

pub returns : goal.returns
returns c = law.sides_fit_each_case
