use Rattle.std.proofs.Common.{◌<◌, sym, ap, ◌∙◌, subst, arith, length}
use Rattle.definitions.specs.declared.Dims.{Dims}
use Rattle.definitions.specs.Lattice.{vertices}
use Rattle.layer_cells.specs.Seats.{Subject, CellsValue, CellSeatValue}
use Rattle.layer_cells.specs.Rule.{vertex_words, wanted}
use Rattle.layer_cells.proofs.Steps.{puts_as}
use Rattle.layer_cells.proofs.Vertices.{word_within, code_wanted}
use Rattle.layer_cells.proofs.cells.Cells.put.Goals as goal

pub compare_exchange-requires : goal.compare_exchange-requires
compare_exchange-requires c =
    let of = ap (λ (s : CellSeatValue). s.of) c.seat.view_is ∙ c.requires.table ∙ sym c.self.view_is in
    let is = ap (λ (w : CellsValue). w.subject) c.self.view_is in
    let a : Subject = c.args.self.now.subject in
    let inside : c.args.id < vertex_words a = word_within a c.args._v c.args.id c.requires.domain c.requires.id in
    let below = subst (λ (b : Subject). c.args.id < length (vertices b.field.dims)) (sym is) inside in
    let right = code_wanted a c.args._v c.args.id c.args.code c.requires.domain c.requires.id c.requires.code in
    let within : c.args.id < length (vertices c.self.inside.dims) = subst (λ (d : Dims). c.args.id < length (vertices d)) (ap (λ (b : Subject). b.field.dims) (sym is) ∙ c.self.invariant.0) inside in
    let words = c.self.invariant.2 in
    (ap (λ (w : CellsValue). w.id) of, omega arith, puts_as _ _ _ _ _ c.seat.inside.seat.me (ap (λ (w : CellsValue). w.subject) of) c.seat.invariant.0 below (right ∙ ap (λ (b : Subject). wanted b c.args.id) (sym is)))
