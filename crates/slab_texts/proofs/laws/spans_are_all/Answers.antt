use Rattle.slab_texts.proofs.Joining.{spans_are_all}
use Rattle.slab_texts.proofs.laws.spans_are_all.Goals as goal

pub returns : goal.returns
returns c = spans_are_all
