use Rattle.slab_work.proofs.Few.{all_are_few}
use Rattle.slab_work.proofs.laws.tets_are_few.Goals as goal

pub returns : goal.returns
returns c = all_are_few
