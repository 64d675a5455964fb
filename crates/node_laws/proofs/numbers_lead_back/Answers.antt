use Rattle.node_laws.proofs.NumbersLeadBack as law
use Rattle.node_laws.proofs.numbers_lead_back.Goals as goal

pub returns : goal.returns
returns c = law.numbers_lead_back
