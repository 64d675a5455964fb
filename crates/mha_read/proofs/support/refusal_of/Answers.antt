use Rattle.mha_read.proofs.Judged.{has_number}
use Rattle.mha_read.proofs.support.refusal_of.Goals as goal

pub supports-requires : goal.supports-requires
supports-requires c = has_number c.args.world c.args.pairs.now c.args.key c.in-Some.value.now c.requires c.in-Some.ensures
