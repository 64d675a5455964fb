use Rattle.std.proofs.Common.{◌≡◌, ◌<◌, ◌+◌, ◌^◌, All, length, sym, ap, subst}
use Rattle.std.specs.List.{concat}
use Rattle.definitions.specs.declared.Dims.{Dims}
use Rattle.definitions.specs.Lattice.{vertices}
use Rattle.layer_cells.specs.Seats.{Subject}
use Rattle.slab_survey.specs.Workers.{WorkerValue}
use Rattle.std.proofs.lemmas.Result.{IfOk-weaker}
use Rattle.mesh_lists.proofs.Results.{if_ok_both}
use Rattle.survey_workers.specs.Going.{ledgers_back, made_back, IsEnded, IsReady}
use Rattle.survey.proofs.Rises.{rises, together}
use Rattle.survey.proofs.run.survey.Goals as goal

pub run_to_end-workers-requires-clause-ready : goal.run_to_end-workers-requires-clause-ready
run_to_end-workers-requires-clause-ready g c κs within =
    subst (λ (d : Dims). All (λ (w : WorkerValue g.row.L.Denot). IsReady d c.in_ok-claims.claims c.in_ok-cells.cells w × (g.L.Ledger.count w.ledger + length (vertices d) < 2 ^ 64)) c.in_ok-workers.workers.items)
    (ap (λ (a : Subject). a.field.dims) c.in_ok-cells.ensures.cells) c.in_ok-workers.ensures.ready

pub conclude-requires-clause-workers : goal.conclude-requires-clause-workers
conclude-requires-clause-workers g c =
    subst (λ (d : Dims). All (λ (w : WorkerValue g.row.L.Denot). IsEnded d c.args.plan.slab c.in_ok-claims.claims c.in_ok-cells.cells w) c.run_to_end-workers.result.items)
    (ap (λ (a : Subject). a.field.dims) (sym c.in_ok-cells.ensures.cells)) c.run_to_end-workers.ensures.ended

pub returns-clause-ledgers : goal.returns-clause-ledgers
returns-clause-ledgers g c =
    IfOk-weaker c.conclude.result (λ r. (r.0.made ≡ concat (made_back c.run_to_end-workers.result.items)) × (r.1.items ≡ ledgers_back c.run_to_end-workers.result.items)) _
    (λ r h. rises g.L.Ledger.count c.args.field.now.dims c.in_ok-workers.workers.items c.run_to_end-workers.result.items c.args.ledgers.items r.1.items r.0.made c.in_ok-workers.ensures.ledgers h.1 h.0 c.run_to_end-workers.ensures.len c.run_to_end-workers.ensures.ledgers)
    (if_ok_both c.conclude.result _ _ c.conclude.ensures.made c.conclude.ensures.ledgers)

pub returns-clause-together : goal.returns-clause-together
returns-clause-together g c =
    IfOk-weaker c.conclude.result (λ r. (r.0.made ≡ concat (made_back c.run_to_end-workers.result.items)) × (r.1.items ≡ ledgers_back c.run_to_end-workers.result.items)) _
    (λ r h. together g.L.Ledger.count c.args.field.now.dims c.args.ledgers.items r.1.items r.0.made
    (rises g.L.Ledger.count c.args.field.now.dims c.in_ok-workers.workers.items c.run_to_end-workers.result.items c.args.ledgers.items r.1.items r.0.made c.in_ok-workers.ensures.ledgers h.1 h.0 c.run_to_end-workers.ensures.len c.run_to_end-workers.ensures.ledgers))
    (if_ok_both c.conclude.result _ _ c.conclude.ensures.made c.conclude.ensures.ledgers)
