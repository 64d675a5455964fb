use Rattle.std.proofs.Common.{◌≡◌, ◌+◌, ◌*◌, ◌^◌, ◌<◌, ◌≤◌, length}
use Rattle.std.specs.List.{All}
use Rattle.mesh_files.specs.Lines.{lines_from}
use Rattle.mesh_files.specs.Files.{IsSmallPlace, items_or_fault}
use Rattle.mesh_files.specs.Forms.{node_line}
use Rattle.mesh_files.proofs.LinesRead.{gone_on}
use Rattle.mesh_read.proofs.contents.node_lines.Given as goal

abbrev pub invariant-loop-line : goal.invariant-loop-line
invariant-loop-line l = record {
  same : items_or_fault (λ i. node_line l.head.extra (l.first + i)) l.head.count (lines_from l.before l.text) ≡ gone_on (λ i. node_line l.head.extra (l.first + i)) l.head.count (length l.places.items) l.places.items (lines_from l.place l.rest);
  few : 2 * length l.places.items + 2 ≤ l.place;
  within : l.place + length l.rest ≤ 2 ^ 30 + 1;
  more : 0 < length l.rest → l.place + length l.rest ≤ 2 ^ 30;
  small : All IsSmallPlace l.places.items;
}

abbrev pub decreases-loop-line : goal.decreases-loop-line
decreases-loop-line l = length l.rest
