use Rattle.slab_texts.proofs.Joining.{spans_join}
use Rattle.slab_texts.proofs.laws.spans_join.Goals as goal

pub returns : goal.returns
returns c = spans_join
