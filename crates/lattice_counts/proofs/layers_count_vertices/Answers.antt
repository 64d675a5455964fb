use Rattle.lattice_counts.proofs.Ranks as law
use Rattle.lattice_counts.proofs.layers_count_vertices.Goals as goal

pub returns : goal.returns
returns c = law.layers_count_vertices
