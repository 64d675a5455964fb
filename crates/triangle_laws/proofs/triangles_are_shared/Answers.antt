use Rattle.triangle_laws.proofs.Partners as law
use Rattle.triangle_laws.proofs.triangles_are_shared.Goals as goal

pub returns : goal.returns
returns c = law.triangles_are_shared
