use Rattle.slab_texts.proofs.Joining.{slabs_join}
use Rattle.slab_texts.proofs.laws.slabs_join.Goals as goal

pub returns : goal.returns
returns c = slabs_join
