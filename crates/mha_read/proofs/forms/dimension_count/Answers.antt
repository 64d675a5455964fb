use Rattle.mha_read.proofs.FirstFaults.{dims_is, dims_there}
use Rattle.mha_read.proofs.forms.dimension_count.Goals as goal

pub returns-in-Some : goal.returns-in-Some
returns-in-Some c = λ none. dims_is c.args.pairs.now c.in-Some.value.now c.positive_count.result c.in-Some.ensures c.positive_count.ensures.value none

pub returns-in-None : goal.returns-in-None
returns-in-None c = λ none. absurd (dims_there c.args.pairs.now c.in-None.ensures none)
