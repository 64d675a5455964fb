use Rattle.std.proofs.Common.{◌≡◌, ◌≤◌, true}
use Rattle.std.specs.Prelude.{◌≤ℤ◌, All}
use Rattle.st_base.specs.Frames.{OnlyInput}
use Rattle.formats.specs.Volumes.{least_of, greatest_of}
use Rattle.mha_read.specs.Samples.{TakesRows}
use Rattle.mha_read.proofs.samples.read_samples.Given as goal

abbrev pub invariant-loop : goal.invariant-loop
invariant-loop g l = record {
  is_open : (g.D.Desk.input l.desk).is_open ≡ true;
  faults : (g.D.Desk.input l.desk).faults ≡ (g.D.Desk.input l.initial.desk).faults;
  apart : OnlyInput g.D.Desk l.initial.desk l.desk;
  turns : l.counter ≤ l.row;
  within : l.row ≤ l.rows;
  kind : l.samples.kind ≡ l.grid.kind;
  takes : TakesRows l.grid (g.D.Desk.input l.initial.desk).left (g.D.Desk.input l.desk).left l.row l.samples.numbers;
  low : All (λ z. least_of l.grid.kind ≤ℤ z) l.samples.numbers;
  high : All (λ z. z ≤ℤ greatest_of l.grid.kind) l.samples.numbers;
}
