use Rattle.std.proofs.Common.{◌≡◌, ◌+◌, ◌-◌, ◌≤◌}
use Rattle.lattice_counts.specs.Counts.{row_len}
use Rattle.vertex_numbers.specs.Numbering.{HasRoom, IsDraft}
use Rattle.vertex_numbers.proofs.starts.with_row.Given as goal

abbrev pub invariant-loop-i : goal.invariant-loop-i
invariant-loop-i l =
    let len = row_len l.states.dims.nx l.row.h in
    record {
      draft : IsDraft l.states.dims l.states.states (l.row.start + l.i) l.draft;
      first : l.draft.first ≡ l.fn.draft.first;
      room : HasRoom l.draft (len - l.i);
      within : l.i ≤ len;
    }

abbrev pub decreases-loop-i : goal.decreases-loop-i
decreases-loop-i l = row_len l.states.dims.nx l.row.h - l.i
