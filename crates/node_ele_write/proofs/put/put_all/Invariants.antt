use Rattle.std.proofs.Common.{◌≡◌, ◌≤◌, length, take, true}
use Rattle.std.specs.Io.KnownBytes.{Appends}
use Rattle.st_base.specs.Frames.{OnlyPort}
use Rattle.node_ele_write.proofs.put.put_all.Given as goal

abbrev pub invariant-loop : goal.invariant-loop
invariant-loop g l = record {
  turns : l.counter ≤ l.from;
  within : l.from ≤ length l.bytes;
  text : Appends (g.D.Desk.ports l.initial.desk l.port).text (g.D.Desk.ports l.desk l.port).text (take l.from l.bytes);
  faults : (g.D.Desk.ports l.desk l.port).faults ≡ (g.D.Desk.ports l.initial.desk l.port).faults;
  is_open : (g.D.Desk.ports l.desk l.port).is_open ≡ true;
  name : (g.D.Desk.ports l.desk l.port).name ≡ (g.D.Desk.ports l.initial.desk l.port).name;
  apart : OnlyPort g.D.Desk l.port l.initial.desk l.desk;
}
