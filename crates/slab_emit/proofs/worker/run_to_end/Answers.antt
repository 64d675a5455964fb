use Rattle.std.proofs.Common.{rules, ◌≡◌, ◌<◌, ℕ, get_or, length}
use Rattle.crews.proofs.Workers.{sums_same}
use Rattle.slab_emit.specs.declared.worker.Worker.{Worker}
use Rattle.slab_emit.proofs.worker.run_to_end.Goals as goal

pub returns-clause-shares : goal.returns-clause-shares
returns-clause-shares g c =
    let same : (i : ℕ) (d : Worker) → i < length c.args.workers.items → (get_or c.run_each.result.items i d).seat.share ≡ (get_or c.args.workers.items i d).seat.share = search rules in
    sums_same (λ (w : Worker). w.seat.share) c.args.workers.items c.run_each.result.items c.run_each.ensures.len same
