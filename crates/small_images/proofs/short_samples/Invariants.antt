use Rattle.std.proofs.Common.{◌≡◌, take}
use Rattle.formats.specs.declared.Kind.TheVariants.{Short}
use Rattle.small_images.proofs.short_samples.Given as goal

abbrev pub invariant-loop-number : goal.invariant-loop-number
invariant-loop-number l = record {
  kind : l.samples.kind ≡ Short;
  numbers : l.samples.numbers ≡ take l.number-index l.numbers;
}
