use Rattle.std.proofs.Common.{◌≡◌, ◌*◌, ◌≤◌, ◌-◌}
use Rattle.std.specs.List.{range_with_len, sum_by}
use Rattle.lattice_counts.specs.Counts.{row_len}
use Rattle.vertex_numbers.specs.Counts.{nodes_at_id, pieces_at_id}
use Rattle.vertex_numbers.proofs.counts.share_of_row.Given as goal

abbrev pub invariant-loop-i : goal.invariant-loop-i
invariant-loop-i g l =
    let d = l.fn.dims in
    record {
      nodes : l.share.nodes ≡ sum_by (nodes_at_id d (g.S.StateSource.told l.fn.from)) (range_with_len l.row.start l.i);
      tets : l.share.tets ≡ sum_by (pieces_at_id d (g.S.StateSource.told l.fn.from)) (range_with_len l.row.start l.i);
      few_nodes : l.share.nodes ≤ 8 * l.i;
      few_tets : l.share.tets ≤ 18 * l.i;
      within : l.i ≤ row_len d.nx l.fn.h;
      row_h : l.row.h ≡ l.fn.h;
      same : g.S.StateSource.unchanged l.fn.from l.from;
    }

abbrev pub decreases-loop-i : goal.decreases-loop-i
decreases-loop-i g l = row_len l.fn.dims.nx l.fn.h - l.i
