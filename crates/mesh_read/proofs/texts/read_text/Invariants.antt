use Rattle.std.proofs.Common.{◌≡◌, ◌+◌, ◌^◌, ◌≤◌, length, true}
use Rattle.std.specs.Io.KnownBytes.{Consumes}
use Rattle.st_base.specs.Frames.{OnlyInput}
use Rattle.mesh_read.proofs.texts.read_text.Given as goal

abbrev pub invariant-loop : goal.invariant-loop
invariant-loop g l = record {
  is_open : (g.D.Desk.input l.desk).is_open ≡ true;
  faults : (g.D.Desk.input l.desk).faults ≡ (g.D.Desk.input l.initial.desk).faults;
  apart : OnlyInput g.D.Desk l.initial.desk l.desk;
  turns : l.counter ≤ length l.text.items;
  within : length l.text.items ≤ 2 ^ 30 + 1;
  taken : Consumes (g.D.Desk.input l.initial.desk).left (g.D.Desk.input l.desk).left l.text.items;
}
