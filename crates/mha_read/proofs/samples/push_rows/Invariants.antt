use Rattle.std.proofs.Common.{◌≡◌, ◌++◌}
use Rattle.std.specs.Prelude.{◌≤ℤ◌, All}
use Rattle.formats.specs.Volumes.{least_of, greatest_of}
use Rattle.mha_read.specs.Samples.{kept_rows}
use Rattle.mha_read.proofs.samples.push_rows.Given as goal

abbrev pub invariant-loop-i : goal.invariant-loop-i
invariant-loop-i l = record {
  kind : l.samples.kind ≡ l.initial.samples.kind;
  numbers : l.samples.numbers ≡ l.initial.samples.numbers ++ kept_rows l.grid l.bytes l.row l.i;
  low : All (λ z. least_of l.grid.kind ≤ℤ z) l.initial.samples.numbers → All (λ z. least_of l.grid.kind ≤ℤ z) l.samples.numbers;
  high : All (λ z. z ≤ℤ greatest_of l.grid.kind) l.initial.samples.numbers → All (λ z. z ≤ℤ greatest_of l.grid.kind) l.samples.numbers;
}
