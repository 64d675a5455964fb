use Rattle.node_laws.proofs.Layers as law
use Rattle.node_laws.proofs.counts_below.Goals as goal

pub returns : goal.returns
returns c = law.counts_below
