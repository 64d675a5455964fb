use Rattle.samples.proofs.SetBits.{in_both}
use Rattle.samples.proofs.bits.moved_within.Goals as goal

pub returns-clause-low : goal.returns-clause-low
returns-clause-low c b h = c.moved_up.ensures.low b (in_both c.moved_up.result c.ones_below.result b h).0

pub returns-clause-high : goal.returns-clause-high
returns-clause-high c b h = c.ones_below.ensures.below b (in_both c.moved_up.result c.ones_below.result b h).1

pub returns-clause-bits : goal.returns-clause-bits
returns-clause-bits c b h = c.moved_up.ensures.bits b (in_both c.moved_up.result c.ones_below.result b h).0
