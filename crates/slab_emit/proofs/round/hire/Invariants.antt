use Rattle.std.proofs.Common.{◌≡◌, ◌≤◌, ◌+◌, [], false, length, All, vec_capacity}
use Rattle.slab_emit.specs.Workers.{IsReady, shares_of}
use Rattle.slab_emit.proofs.round.hire.Given as goal

abbrev pub invariant-loop-number : goal.invariant-loop-number
invariant-loop-number l = record {
  of : l.seat.of ≡ l.claims;
  share : l.seat.share + l.number ≡ l.workers + 1;
  shares : shares_of l.hired.items + l.seat.share ≡ l.workers;
  going : l.seat.done ≡ false;
  none_drawn : l.seat.drawn ≡ [];
  ready : All (IsReady l.claims) l.hired.items;
  long : length l.hired.items + 1 ≡ l.number;
  crew : l.crew ≡ l.fn.crew;
  room : l.workers ≤ vec_capacity l.hired;
}
