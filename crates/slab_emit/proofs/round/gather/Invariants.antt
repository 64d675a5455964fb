use Rattle.std.proofs.Common.{◌≡◌, ◌+◌, ℕ, true, length, All}
use Rattle.list_words.specs.Words.{has}
use Rattle.slab_emit.specs.declared.lines.Lines.{Lines}
use Rattle.slab_emit.specs.Sources.{SourceValue}
use Rattle.slab_emit.specs.Workers.{FitPlaces, HasMade, IsFilled, IsFinished, shares_of}
use Rattle.slab_emit.proofs.round.gather.Given as goal

abbrev pub invariant-loop-worker : goal.invariant-loop-worker
invariant-loop-worker l = record {
  of : l.seat.of ≡ l.claims;
  done : l.seat.done ≡ true;
  share : l.seat.share + shares_of l.workers.items ≡ shares_of l.fn.workers.items;
  finished : All (IsFinished l.claims) l.workers.items;
  len : length l.places ≡ length l.fn.places;
  filled : (x : ℕ) → has x l.seat.drawn ≡ true → IsFilled l.places x;
  rest : (lines : Lines) (s : SourceValue) (first : ℕ) → All (HasMade lines s first) l.fn.workers.items → All (HasMade lines s first) l.workers.items;
  fit : (lines : Lines) (s : SourceValue) (first : ℕ) → All (HasMade lines s first) l.fn.workers.items → FitPlaces lines s first l.fn.places → FitPlaces lines s first l.places;
  crew : l.crew ≡ l.fn.crew;
}

abbrev pub decreases-loop-worker : goal.decreases-loop-worker
decreases-loop-worker l = length l.workers.items
