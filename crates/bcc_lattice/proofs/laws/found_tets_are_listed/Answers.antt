use Rattle.bcc_lattice.proofs.TetsInOrder as law
use Rattle.bcc_lattice.proofs.laws.found_tets_are_listed.Goals as goal

pub returns : goal.returns
returns c = law.found_tets_are_listed
