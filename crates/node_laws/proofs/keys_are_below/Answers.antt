use Rattle.node_laws.proofs.Standing as law
use Rattle.node_laws.proofs.keys_are_below.Goals as goal

pub returns : goal.returns
returns c = law.keys_are_below
