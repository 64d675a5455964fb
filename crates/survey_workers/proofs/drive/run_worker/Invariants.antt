use Rattle.std.proofs.Common.{◌≡◌, ◌≤◌, ◌-◌, ◌<◌, true, false, length}
use Rattle.definitions.specs.Layout.{slab_from}
use Rattle.list_words.specs.Words.{has}
use Rattle.survey_workers.specs.Going.{IsGoing}
use Rattle.survey_workers.proofs.drive.run_worker.Given as goal

abbrev pub invariant-loop-slab : goal.invariant-loop-slab
invariant-loop-slab g l = record {
  going : IsGoing g.L.Ledger.count l.field.dims l.layout.slab l.claims l.cells l.initial.worker l.worker l.worker.claims.drawn;
  not_done : l.worker.claims.done ≡ false;
  below : l.next ≤ l.claims.slabs;
  last : 0 < l.next → has (l.next - 1) l.worker.claims.drawn ≡ true;
  short : length l.worker.counts ≤ slab_from l.layout.slab l.next;
}

abbrev pub decreases-loop-slab : goal.decreases-loop-slab
decreases-loop-slab g l = l.claims.slabs - l.next
