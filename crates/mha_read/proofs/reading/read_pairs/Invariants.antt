use Rattle.std.proofs.Common.{◌≡◌, ℕ, ◌≤◌, List, Some, true}
use Rattle.st_base.specs.Frames.{OnlyInput}
use Rattle.mha_read.proofs.HeadSearch.{HeadRead}
use Rattle.mha_read.proofs.reading.read_pairs.Given as goal

abbrev pub invariant-loop : goal.invariant-loop
invariant-loop g l = record {
  is_open : (g.D.Desk.input l.desk).is_open ≡ true;
  faults : (g.D.Desk.input l.desk).faults ≡ (g.D.Desk.input l.initial.desk).faults;
  apart : OnlyInput g.D.Desk l.initial.desk l.desk;
  turns : l.counter ≤ l.place;
  within : l.place ≤ 65536;
  read : (text : List ℕ) → (g.D.Desk.input l.initial.desk).left ≡ Some text → HeadRead text l.place l.pairs (g.D.Desk.input l.desk).left;
}
