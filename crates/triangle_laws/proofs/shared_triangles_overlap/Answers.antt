use Rattle.triangle_laws.proofs.Overlaps as law
use Rattle.triangle_laws.proofs.shared_triangles_overlap.Goals as goal

pub returns : goal.returns
returns c = law.shared_triangles_overlap
