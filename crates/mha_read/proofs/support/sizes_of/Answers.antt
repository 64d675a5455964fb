use Rattle.std.proofs.Common.{◌∙◌}
use Rattle.mha_read.proofs.Judged.{sizes_are, sizes_there, some_sizes}
use Rattle.mha_read.proofs.LinesTaken.{some_same}
use Rattle.mha_read.proofs.support.sizes_of.Goals as goal

pub unreachable-requires : goal.unreachable-requires
unreachable-requires c = some_sizes c.args.world c.args.pairs.now c.in-Some.value.now c.requires.formed c.requires.supported c.in-Some.ensures c.in-None-raw_sizes.ensures.value

pub unreachable-requires-in-None : goal.unreachable-requires-in-None
unreachable-requires-in-None c = sizes_there c.args.world c.args.pairs.now c.requires.formed c.in-None.ensures

pub returns-clause-value : goal.returns-clause-value
returns-clause-value c = some_same _ _ (c.in-Some-raw_sizes.ensures.value ∙ sizes_are c.args.world c.args.pairs.now c.in-Some.value.now c.requires.formed c.requires.supported c.in-Some.ensures)
