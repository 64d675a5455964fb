use Rattle.std.proofs.Common.{◌<◌, ◌+◌, sym, ap, ◌∙◌, subst, arith, length}
use Rattle.definitions.specs.Lattice.{layers, vertices}
use Rattle.layer_cells.specs.Seats.{Subject, CellsValue, CellSeatValue}
use Rattle.layer_cells.proofs.Steps.{looks_as}
use Rattle.layer_cells.proofs.cells.Cells.look.Goals as goal

pub load-found-requires : goal.load-found-requires
load-found-requires c =
    let of = ap (λ (s : CellSeatValue). s.of) c.seat.view_is ∙ c.requires.table ∙ sym c.self.view_is in
    let is = ap (λ (w : CellsValue). w.subject) c.self.view_is in
    let below : c.args.h < layers c.self.inside.table.shared.key.0.value.dims = subst (λ (a : Subject). c.args.h < layers a.field.dims) (sym is) c.requires.layer in
    let at = c.flag-word.ensures.flag ∙ ap (λ (a : Subject). length (vertices a.field.dims) + c.args.h) (sym is) in
    let within = c.flag-word.ensures.within in
    let words = ap (λ (w : CellsValue). w.id.words) c.self.view_is in
    (ap (λ (w : CellsValue). w.id) of, omega arith, looks_as _ _ _ _ c.args.h c.seat.inside.seat.me (ap (λ (w : CellsValue). w.subject) of) c.seat.invariant.0 below at)
