use Rattle.snap_laws.proofs.CutsLeft as law
use Rattle.snap_laws.proofs.cuts_left_are_inner.Goals as goal

pub returns : goal.returns
returns c = law.cuts_left_are_inner
