use Rattle.std.proofs.Common.{sym, ap, ◌∙◌, arith}
use Rattle.layer_cells.specs.Seats.{CellsValue, CellSeatValue}
use Rattle.layer_cells.proofs.Steps.{joins_as}
use Rattle.layer_cells.proofs.cells.Cells.join.Goals as goal

pub join_seat-requires : goal.join_seat-requires
join_seat-requires c =
    let of = ap (λ (s : CellSeatValue). s.of) c.seat.view_is ∙ c.requires.table ∙ sym c.self.view_is in
    let theirs = ap (λ (s : CellSeatValue). s.of) c.other.view_is ∙ c.requires.other ∙ sym c.self.view_is in
    let inv = c.self.invariant in
    (ap (λ (w : CellsValue). w.id) of, ap (λ (w : CellsValue). w.id) theirs, c.other.invariant.0, omega arith, joins_as _ _ _ c.seat.inside.seat.me.0 c.other.inside.seat.me.0 (ap (λ (w : CellsValue). w.subject) of))
