use Rattle.std.proofs.Common.{◌≡◌, ◌+◌, ◌*◌}
use Rattle.definitions.specs.Layout.{layer_start}
use Rattle.lattice_counts.specs.Counts.{row_len}
use Rattle.slab_survey.specs.Layers.{HasPut}
use Rattle.slab_survey.proofs.layer.put_layer.Given as goal

abbrev pub invariant-loop-j : goal.invariant-loop-j
invariant-loop-j g l =
    let d = l.fn.field.dims in
    let row = row_len d.nx l.fn.h in
    HasPut (layer_start d l.fn.h) (layer_start d l.fn.h + l.j * row) l.initial.seat l.seat × (g.L.Ledger.count l.ledger ≡ g.L.Ledger.count l.initial.ledger + l.j * row)
