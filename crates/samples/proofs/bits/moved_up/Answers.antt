use Rattle.samples.proofs.SetBits.{moved_up}
use Rattle.samples.proofs.bits.moved_up.Goals as goal

pub returns-clause-low : goal.returns-clause-low
returns-clause-low c b h = (moved_up c.args.word c.args.by 64 b h).0

pub returns-clause-bits : goal.returns-clause-bits
returns-clause-bits c b h = (moved_up c.args.word c.args.by 64 b h).1
