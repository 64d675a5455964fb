use Rattle.std.proofs.Common.{◌≡◌, ◌≤◌, ◌+◌, ◌*◌, ◌++◌, ◌∷◌, length, All, vec_capacity}
use Rattle.std.specs.List.{concat}
use Rattle.survey_workers.specs.Going.{ledgers_back, made_back, shares_of, IsEnded}
use Rattle.survey_workers.specs.Tables.{IsGathered}
use Rattle.survey_workers.proofs.gathering.gather.Given as goal

abbrev pub invariant-loop-worker : goal.invariant-loop-worker
invariant-loop-worker g l = record {
  workers : All (λ w. IsEnded l.cells.subject.field.dims l.layout.slab l.claims l.cells w) l.workers.items;
  gathered : IsGathered l.layout.slab l.claims l.cells l.all;
  share : l.all.claims.share + shares_of l.workers.items ≡ shares_of l.initial.workers.items + l.fn.last.claims.share;
  ledgers : l.back.items ++ ledgers_back l.workers.items ≡ l.fn.last.ledger ∷ ledgers_back l.initial.workers.items;
  layers_made : l.all.cells.made ++ concat (made_back l.workers.items) ≡ concat (l.fn.last.cells.made ∷ made_back l.initial.workers.items);
  few : l.all.made + 33554432 * length l.workers.items ≤ 2147483648;
  room : length l.back.items + length l.workers.items ≤ vec_capacity l.back;
}

abbrev pub decreases-loop-worker : goal.decreases-loop-worker
decreases-loop-worker g l = length l.workers.items
