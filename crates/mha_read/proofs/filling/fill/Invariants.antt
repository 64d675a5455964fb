use Rattle.std.proofs.Common.{◌≡◌, ◌≤◌, length, take, true}
use Rattle.std.specs.Io.KnownBytes.{Consumes}
use Rattle.st_base.specs.Frames.{OnlyInput}
use Rattle.mha_read.proofs.filling.fill.Given as goal

abbrev pub invariant-loop : goal.invariant-loop
invariant-loop g l = record {
  is_open : (g.D.Desk.input l.desk).is_open ≡ true;
  faults : (g.D.Desk.input l.desk).faults ≡ (g.D.Desk.input l.initial.desk).faults;
  apart : OnlyInput g.D.Desk l.initial.desk l.desk;
  turns : l.counter ≤ l.at;
  within : l.at ≤ length l.into;
  taken : Consumes (g.D.Desk.input l.initial.desk).left (g.D.Desk.input l.desk).left (take l.at l.into);
}
