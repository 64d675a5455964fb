use Rattle.std.proofs.Common.{◌+◌, ◌*◌}
use Rattle.definitions.specs.Layout.{layer_start}
use Rattle.lattice_counts.specs.Counts.{row_len}
use Rattle.slab_survey.specs.Layers.{HasPut}
use Rattle.slab_survey.proofs.layer.put_row.Given as goal

abbrev pub invariant-loop-i : goal.invariant-loop-i
invariant-loop-i g l =
    let d = l.fn.field.dims in
    let start = layer_start d l.fn.h + l.fn.j * row_len d.nx l.fn.h in
    HasPut start (start + l.i) l.initial.seat l.seat
