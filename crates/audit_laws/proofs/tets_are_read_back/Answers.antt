use Rattle.audit_laws.proofs.TetsBack as law
use Rattle.audit_laws.proofs.tets_are_read_back.Goals as goal

pub returns : goal.returns
returns c = law.tets_are_read_back
