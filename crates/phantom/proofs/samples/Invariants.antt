use Rattle.std.proofs.Common.{◌≡◌, ◌*◌, map}
use Rattle.std.specs.List.{range_with_len}
use Rattle.formats.specs.declared.Kind.TheVariants.{Uchar}
use Rattle.phantom.specs.Noise.{state as state_of}
use Rattle.phantom.specs.Phantom.{phantom_sample}
use Rattle.phantom.proofs.samples.Given as goal

abbrev pub invariant-loop-row : goal.invariant-loop-row
invariant-loop-row l = record {
  kind : l.samples.kind ≡ Uchar;
  numbers : l.samples.numbers ≡ map (phantom_sample l.n l.seed) (range_with_len 0 (l.row * l.n));
  state : l.state ≡ state_of l.seed (l.row * l.n);
}
