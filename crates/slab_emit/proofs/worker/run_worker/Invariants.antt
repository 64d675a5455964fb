use Rattle.std.proofs.Common.{◌≡◌, ◌≤◌, ◌-◌, ◌<◌, ◌++◌, ◌∷◌, [], ℕ, List, false, length, vec_capacity, All}
use Rattle.slab_emit.specs.Workers.{IsMade, numbers_of}
use Rattle.slab_emit.proofs.worker.run_worker.Given as goal

abbrev pub invariant-loop-at : goal.invariant-loop-at
invariant-loop-at g l = record {
  of : l.worker.seat.of ≡ l.claims;
  share : l.worker.seat.share ≡ l.initial.worker.seat.share;
  going : l.worker.seat.done ≡ false;
  drawn : numbers_of l.worker.made.items ≡ l.worker.seat.drawn;
  right : All (IsMade l.lines l.source l.first) l.worker.made.items;
  under : All (λ m. m.at < l.claims.slabs) l.worker.made.items;
  room : l.claims.slabs ≤ vec_capacity l.worker.made;
  few : length l.worker.made.items ≤ l.next;
  below : l.next ≤ l.claims.slabs;
  last : 0 < l.next → (xs : List ℕ) × (l.worker.seat.drawn ≡ xs ++ (l.next - 1) ∷ []);
}

abbrev pub decreases-loop-at : goal.decreases-loop-at
decreases-loop-at g l = l.claims.slabs - l.next
