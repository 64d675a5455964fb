use Rattle.slab_texts.proofs.Joining.{angles_are_fractions}
use Rattle.slab_texts.proofs.laws.angles_are_fractions.Goals as goal

pub returns : goal.returns
returns c = angles_are_fractions
