use Rattle.std.proofs.Common.{◌≡◌, ◌++◌, ◌+◌, ◌*◌, map}
use Rattle.std.specs.Prelude.{◌≤ℤ◌, All}
use Rattle.std.specs.List.{range_with_len}
use Rattle.formats.specs.Samples.{sample_of_bytes}
use Rattle.formats.specs.Volumes.{least_of, greatest_of}
use Rattle.mha_read.proofs.samples.push_row.Given as goal

abbrev pub invariant-loop-i : goal.invariant-loop-i
invariant-loop-i l = record {
  kind : l.samples.kind ≡ l.initial.samples.kind;
  numbers : l.samples.numbers ≡ l.initial.samples.numbers ++ map (λ i. sample_of_bytes l.grid.kind l.grid.big l.bytes (l.first + i * l.grid.step)) (range_with_len 0 l.i);
  low : All (λ z. least_of l.grid.kind ≤ℤ z) l.initial.samples.numbers → All (λ z. least_of l.grid.kind ≤ℤ z) l.samples.numbers;
  high : All (λ z. z ≤ℤ greatest_of l.grid.kind) l.initial.samples.numbers → All (λ z. z ≤ℤ greatest_of l.grid.kind) l.samples.numbers;
}
