use Rattle.samples.proofs.Stars.{four_kept, four_small, four_fit}
use Rattle.samples.proofs.runs.cubes_along_y.Goals as goal

pub overflow_add-result-6 : goal.overflow_add-result-6
overflow_add-result-6 c = four_fit c.args.b.middle c.args.beyond.high.low c.args.d.middle c.args.beyond.high.high c.requires.b.middle c.requires.beyond.high.low c.requires.d.middle c.requires.beyond.high.high

pub returns-clause-sums : goal.returns-clause-sums
returns-clause-sums c = λ t. record {
  low = four_kept c.args.beyond.low.low c.args.a.middle c.args.beyond.low.high c.args.c.middle c.requires.beyond.low.low c.requires.a.middle c.requires.beyond.low.high c.requires.c.middle t;
  high = four_kept c.args.b.middle c.args.beyond.high.low c.args.d.middle c.args.beyond.high.high c.requires.b.middle c.requires.beyond.high.low c.requires.d.middle c.requires.beyond.high.high t;
}

pub returns-clause-small : goal.returns-clause-small
returns-clause-small c = record {
  low = four_small c.args.beyond.low.low c.args.a.middle c.args.beyond.low.high c.args.c.middle c.requires.beyond.low.low c.requires.a.middle c.requires.beyond.low.high c.requires.c.middle;
  high = four_small c.args.b.middle c.args.beyond.high.low c.args.d.middle c.args.beyond.high.high c.requires.b.middle c.requires.beyond.high.low c.requires.d.middle c.requires.beyond.high.high;
}
