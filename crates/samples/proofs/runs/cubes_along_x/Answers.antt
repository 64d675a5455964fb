use Rattle.samples.proofs.Stars.{four_kept, four_small}
use Rattle.samples.proofs.runs.cubes_along_x.Goals as goal

pub returns-clause-sums : goal.returns-clause-sums
returns-clause-sums c = λ t. record {
  low = four_kept c.args.a.low c.args.b.low c.args.c.low c.args.d.low c.requires.a.low c.requires.b.low c.requires.c.low c.requires.d.low t;
  middle = four_kept c.args.a.middle c.args.b.middle c.args.c.middle c.args.d.middle c.requires.a.middle c.requires.b.middle c.requires.c.middle c.requires.d.middle t;
  high = four_kept c.args.a.high c.args.b.high c.args.c.high c.args.d.high c.requires.a.high c.requires.b.high c.requires.c.high c.requires.d.high t;
}

pub returns-clause-small : goal.returns-clause-small
returns-clause-small c = record {
  low = four_small c.args.a.low c.args.b.low c.args.c.low c.args.d.low c.requires.a.low c.requires.b.low c.requires.c.low c.requires.d.low;
  middle = four_small c.args.a.middle c.args.b.middle c.args.c.middle c.args.d.middle c.requires.a.middle c.requires.b.middle c.requires.c.middle c.requires.d.middle;
  high = four_small c.args.a.high c.args.b.high c.args.c.high c.args.d.high c.requires.a.high c.requires.b.high c.requires.c.high c.requires.d.high;
}
