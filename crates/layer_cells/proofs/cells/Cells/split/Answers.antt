use Rattle.std.proofs.Common.{sym, ap, ◌∙◌, arith}
use Rattle.layer_cells.specs.Seats.{CellsValue, CellSeatValue}
use Rattle.layer_cells.proofs.Steps.{splits_as}
use Rattle.layer_cells.proofs.cells.Cells.split.Goals as goal

pub split_seat-given-requires : goal.split_seat-given-requires
split_seat-given-requires c =
    let of = ap (λ (s : CellSeatValue). s.of) c.seat.view_is ∙ c.requires ∙ sym c.self.view_is in
    let inv = c.self.invariant in
    (ap (λ (w : CellsValue). w.id) of, omega arith, splits_as _ _ c.seat.inside.seat.me.0 (ap (λ (w : CellsValue). w.subject) of))
