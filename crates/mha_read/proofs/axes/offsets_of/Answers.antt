use Rattle.mha_read.proofs.AxisWords.{offset_words, some_numbers, numbers_list}
use Rattle.mha_read.proofs.axes.offsets_of.Goals as goal

pub unreachable-requires : goal.unreachable-requires
unreachable-requires c = some_numbers (offset_words c.args.pairs.now c.in-Some.value.now c.requires.formed c.requires.supported c.in-Some.ensures) c.in-None-three_between.ensures.value

pub returns-in-Some-three_between-clause-value : goal.returns-in-Some-three_between-clause-value
returns-in-Some-three_between-clause-value c =
    numbers_list _ (offset_words c.args.pairs.now c.in-Some.value.now c.requires.formed c.requires.supported c.in-Some.ensures) c.in-Some-three_between.ensures.value c.in-Some.ensures
