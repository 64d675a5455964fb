use Rattle.std.proofs.Common.{◌+◌, ◌++◌, ◌||◌, ℕ, List, ap, ◌∙◌, arith}
use Rattle.definitions.specs.Lattice.{layers}
use Rattle.slab_claims.specs.Seats.{SeatValue}
use Rattle.layer_cells.specs.Seats.{CellSeatValue}
use Rattle.layer_cells.specs.Answers.{seat_joined}
use Rattle.vertex_numbers.specs.declared.LayerCount.{LayerCount}
use Rattle.slab_survey.proofs.Numbers.{few_numbers}
use Rattle.survey_workers.specs.Tables.{with_counts}
use Rattle.survey_workers.proofs.Gathers.{counts_below, takes_in}
use Rattle.survey_workers.proofs.gathering.take_in.Goals as goal

pub overflow_add-all : goal.overflow_add-all
overflow_add-all g c =
    let m = c.into_parts-claim_seat.ensures.made in
    let f = few_numbers (layers c.args.cells.now.subject.field.dims) c.args.worker.cells.made c.requires.worker.once.once in
    let r = c.requires.room in
    omega arith

pub fill-requires : goal.fill-requires
fill-requires g c =
    let p = c.into_parts-claim_seat.ensures.parts in
    counts_below c.args.cells.now.subject c.args.cells.now.subject.field.dims c.args._layout.now.slab c.args.worker.claims.drawn c.args.all.now.table.items c.as_slice.result.now c.requires.gathered.room (c.as_slice.ensures.value ∙ p.3 ∙ c.requires.worker.counts)

pub returns-clause-gathered : goal.returns-clause-gathered
returns-clause-gathered g c =
    let p = c.into_parts-claim_seat.ensures.parts in
    takes_in c.args._layout.now.slab c.args.claims.now c.args.cells.now c.args.all.now _ c.args.worker c.requires.gathered c.requires.worker
    (c.join.ensures ∙ ap (λ (s : SeatValue). record c.args.all.now.claims { share = c.args.all.now.claims.share + s.share; drawn = c.args.all.now.claims.drawn ++ s.drawn; done = c.args.all.now.claims.done || s.done }) p.0)
    (c.join-2.ensures ∙ ap (λ (s : CellSeatValue). seat_joined c.args.all.now.cells s) p.1)
    (ap (λ (n : ℕ). c.args.all.now.made + n) c.into_parts-claim_seat.ensures.made)
    (c.fill.ensures ∙ ap (λ (l : List LayerCount). with_counts c.args.all.now.table.items l) (c.as_slice.ensures.value ∙ p.3))

pub returns-clause-few : goal.returns-clause-few
returns-clause-few g c =
    let m = c.into_parts-claim_seat.ensures.made in
    let f = few_numbers (layers c.args.cells.now.subject.field.dims) c.args.worker.cells.made c.requires.worker.once.once in
    omega arith
