use Rattle.std.proofs.Common.{◌≡◌, ◌+◌, ◌<◌, ◌≤◌, length}
use Rattle.mesh_files.specs.Lines.{lines_from}
use Rattle.mesh_read.proofs.lines.next_line.Given as goal

abbrev pub invariant-loop-rest : goal.invariant-loop-rest
invariant-loop-rest l = record {
  same : lines_from l.before l.text ≡ lines_from l.place l.rest;
  from : l.before ≤ l.place;
  within : l.place + length l.rest ≤ l.before + length l.text + 1;
  more : 0 < length l.rest → l.place + length l.rest ≤ l.before + length l.text;
  shorter : length l.rest ≤ length l.text;
}

abbrev pub decreases-loop-rest : goal.decreases-loop-rest
decreases-loop-rest l = length l.rest
