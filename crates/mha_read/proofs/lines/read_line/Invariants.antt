use Rattle.std.proofs.Common.{◌≡◌, length, true}
use Rattle.std.specs.Io.KnownBytes.{Consumes}
use Rattle.st_base.specs.Frames.{OnlyInput}
use Rattle.mha_read.specs.Lines.{HasNoNewline}
use Rattle.mha_read.proofs.lines.read_line.Given as goal

abbrev pub invariant-loop : goal.invariant-loop
invariant-loop g l = record {
  is_open : (g.D.Desk.input l.desk).is_open ≡ true;
  faults : (g.D.Desk.input l.desk).faults ≡ (g.D.Desk.input l.initial.desk).faults;
  apart : OnlyInput g.D.Desk l.initial.desk l.desk;
  taken : Consumes (g.D.Desk.input l.initial.desk).left (g.D.Desk.input l.desk).left l.line.items;
  plain : HasNoNewline l.line.items;
  len : length l.line.items ≡ l.counter;
}
