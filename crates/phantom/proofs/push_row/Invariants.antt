use Rattle.std.proofs.Common.{◌≡◌, ◌++◌}
use Rattle.formats.specs.declared.Kind.TheVariants.{Uchar}
use Rattle.phantom.specs.Noise.{state as state_of}
use Rattle.phantom.specs.Rows.{row_samples}
use Rattle.phantom.proofs.push_row.Given as goal

abbrev pub invariant-loop-x : goal.invariant-loop-x
invariant-loop-x l = record {
  kind : l.samples.kind ≡ Uchar;
  numbers : l.samples.numbers ≡ l.initial.samples.numbers ++ row_samples l.n l.rest l.initial.state l.x;
  state : l.state ≡ state_of l.initial.state l.x;
}
