use Rattle.std.proofs.Common.{◌≡◌, ◌-◌, ◌≤◌, true}
use Rattle.definitions.specs.Layout.{slabs}
use Rattle.st_base.specs.Frames.{OnlyPort}
use Rattle.mesh_rounds.specs.Rounds.{IsReached}
use Rattle.stream_write.proofs.Pending.{IsPending}
use Rattle.stream_write.proofs.lines.stream_lines.Given as goal

abbrev pub invariant-loop-reached : goal.invariant-loop-reached
invariant-loop-reached g l = record {
  pending : IsPending l.lines l.source (g.D.Desk.ports l.initial.desk l.port).text (g.D.Desk.ports l.desk l.port).text l.parts.items l.reached;
  reached : IsReached l.lines l.source l.reached;
  crew : 1 ≤ l.crew;
  faults : (g.D.Desk.ports l.desk l.port).faults ≡ (g.D.Desk.ports l.initial.desk l.port).faults;
  is_open : (g.D.Desk.ports l.desk l.port).is_open ≡ true;
  name : (g.D.Desk.ports l.desk l.port).name ≡ (g.D.Desk.ports l.initial.desk l.port).name;
  apart : OnlyPort g.D.Desk l.port l.initial.desk l.desk;
}

abbrev pub decreases-loop-reached : goal.decreases-loop-reached
decreases-loop-reached g l = slabs l.source.field.dims l.source.slab - l.reached.first
