use Rattle.mha_read.proofs.AxisWords.{spacing_words, some_numbers, numbers_list}
use Rattle.mha_read.proofs.axes.spacings_of.Goals as goal

pub unreachable-requires : goal.unreachable-requires
unreachable-requires c = some_numbers (spacing_words c.args.pairs.now c.in-Some.value.now c.requires.formed c.requires.supported c.in-Some.ensures) c.in-None-three_between.ensures.value

pub returns-in-Some-three_between-clause-value : goal.returns-in-Some-three_between-clause-value
returns-in-Some-three_between-clause-value c =
    numbers_list _ (spacing_words c.args.pairs.now c.in-Some.value.now c.requires.formed c.requires.supported c.in-Some.ensures) c.in-Some-three_between.ensures.value c.in-Some.ensures
