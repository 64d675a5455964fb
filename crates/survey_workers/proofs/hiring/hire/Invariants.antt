use Rattle.std.proofs.Common.{◌≡◌, ◌≤◌, ◌<◌, ◌+◌, ◌^◌, ◌++◌, [], false, length, All, vec_capacity}
use Rattle.definitions.specs.Lattice.{vertices}
use Rattle.survey_workers.specs.Going.{ledgers_back, shares_of, IsReady}
use Rattle.survey_workers.proofs.hiring.hire.Given as goal

abbrev pub invariant-loop-claim_seat : goal.invariant-loop-claim_seat
invariant-loop-claim_seat g l = record {
  claim : l.claim_seat ≡ record { of = l.claims; share = length l.ledgers.items; drawn = []; done = false };
  cell : l.cell_seat ≡ record { of = l.cells; seen = []; down = []; put = []; made = [] };
  some : 0 < length l.ledgers.items;
  few : length l.ledgers.items ≤ 64;
  ledgers : All (λ x. g.L.Ledger.count x + length (vertices l.cells.subject.field.dims) < 2 ^ 64) l.ledgers.items;
  ready : All (λ w. IsReady l.cells.subject.field.dims l.claims l.cells w × (g.L.Ledger.count w.ledger + length (vertices l.cells.subject.field.dims) < 2 ^ 64)) l.workers.items;
  total : shares_of l.workers.items + length l.ledgers.items ≡ length l.initial.ledgers.items;
  long : length l.workers.items + length l.ledgers.items ≡ length l.initial.ledgers.items;
  order : l.ledgers.items ++ ledgers_back l.workers.items ≡ l.initial.ledgers.items;
  room : length l.initial.ledgers.items ≤ vec_capacity l.workers;
}

abbrev pub decreases-loop-claim_seat : goal.decreases-loop-claim_seat
decreases-loop-claim_seat g l = length l.ledgers.items
