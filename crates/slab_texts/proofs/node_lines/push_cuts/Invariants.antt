use Rattle.std.proofs.Common.{◌+◌, ◌-◌, ◌≤◌, map}
use Rattle.std.specs.Prelude.{filter}
use Rattle.std.specs.List.{range_with_len}
use Rattle.vertex_numbers.specs.Bits.{has_bit}
use Rattle.slab_texts.specs.NodeLines.{AddsNodes, edge_node}
use Rattle.slab_texts.proofs.node_lines.push_cuts.Given as goal

abbrev pub invariant-loop-dir : goal.invariant-loop-dir
invariant-loop-dir l = record {
  adds : AddsNodes l.frame l.initial.out (map (edge_node l.field l.v) (filter (has_bit l.bits) (range_with_len 1 (l.dir - 1)))) l.out;
  few : l.out.number ≤ l.initial.out.number + (l.dir - 1);
}
