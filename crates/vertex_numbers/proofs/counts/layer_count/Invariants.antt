use Rattle.std.proofs.Common.{◌≡◌, ◌*◌, ◌≤◌}
use Rattle.std.specs.List.{range_with_len, sum_by}
use Rattle.definitions.specs.Layout.{layer_start}
use Rattle.lattice_counts.specs.Counts.{row_len}
use Rattle.vertex_numbers.specs.Counts.{nodes_at_id, pieces_at_id}
use Rattle.vertex_numbers.proofs.counts.layer_count.Given as goal

abbrev pub invariant-loop-j : goal.invariant-loop-j
invariant-loop-j g l =
    let d = l.fn.dims in
    let start = layer_start d l.fn.h in
    let row = row_len d.nx l.fn.h in
    record {
      layer : l.count.h ≡ l.fn.h;
      nodes : l.count.nodes ≡ sum_by (nodes_at_id d (g.S.StateSource.told l.fn.from)) (range_with_len start (l.j * row));
      tets : l.count.tets ≡ sum_by (pieces_at_id d (g.S.StateSource.told l.fn.from)) (range_with_len start (l.j * row));
      few_nodes : l.count.nodes ≤ 8 * (l.j * row);
      few_tets : l.count.tets ≤ 18 * (l.j * row);
      same : g.S.StateSource.unchanged l.fn.from l.from;
    }
