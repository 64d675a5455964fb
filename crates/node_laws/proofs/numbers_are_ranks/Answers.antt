use Rattle.node_laws.proofs.NumbersLeadBack as law
use Rattle.node_laws.proofs.numbers_are_ranks.Goals as goal

pub returns : goal.returns
returns c = law.numbers_are_ranks
