use Rattle.std.proofs.Common.{rules, ◌≡◌, ◌<◌, ℕ, true, get_or, length, arith}
use Rattle.slab_survey.specs.Workers.{WorkerValue}
use Rattle.crews.proofs.Workers.{sums_same}
use Rattle.survey_workers.specs.Going.{IsGoing}
use Rattle.survey_workers.proofs.Going.{ends}
use Rattle.survey_workers.proofs.drive.run_to_end.Goals as goal

pub returns : goal.returns
returns g c =
    let count = g.L.Ledger.count in
    let d = c.args.field.now.dims in
    let t = c.args.layout.now.slab in
    let befores = c.args.workers.items in
    let afters = c.run_each.result.items in
    let long = c.run_each.ensures.len in
    let went : (i : ℕ) (w : WorkerValue g.row.L.Denot) → i < length befores → IsGoing count d t c.args.claims.now c.args.cells.now (get_or befores i w) (get_or afters i w) (get_or afters i w).claims.drawn = (λ i w lt. let h = c.run_each.ensures.changes i w lt in search rules) in
    let done : (i : ℕ) (w : WorkerValue g.row.L.Denot) → i < length befores → (get_or afters i w).claims.done ≡ true = (λ i w lt. let h = c.run_each.ensures.changes i w lt in search rules) in
    record {
      ended = λ k w lt. ends count d t c.args.claims.now c.args.cells.now (get_or befores k w) (get_or afters k w) (went k w (omega arith)) (done k w (omega arith));
      shares = sums_same (λ (w : WorkerValue g.row.L.Denot). w.claims.share) befores afters long (λ i w lt. (went i w lt).share);
      len = long;
      ledgers = λ i w lt. (went i w lt).ledger;
    }
