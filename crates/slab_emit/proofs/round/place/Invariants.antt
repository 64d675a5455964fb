use Rattle.std.proofs.Common.{◌≡◌, ◌⊎◌, ◌<◌, ℕ, true, length, All}
use Rattle.list_words.specs.Words.{has}
use Rattle.slab_emit.specs.declared.lines.Lines.{Lines}
use Rattle.slab_emit.specs.Sources.{SourceValue}
use Rattle.slab_emit.specs.Workers.{FitPlaces, IsFilled, IsMade, numbers_of}
use Rattle.slab_emit.proofs.round.place.Given as goal

abbrev pub invariant-loop-one : goal.invariant-loop-one
invariant-loop-one l = record {
  len : length l.places ≡ length l.fn.places;
  under : All (λ m. m.at < length l.fn.places) l.made.items;
  filled : (x : ℕ) → has x (numbers_of l.fn.made.items) ≡ true → (has x (numbers_of l.made.items) ≡ true) ⊎ IsFilled l.places x;
  kept : (x : ℕ) → IsFilled l.fn.places x → IsFilled l.places x;
  rest : (lines : Lines) (s : SourceValue) (first : ℕ) → All (IsMade lines s first) l.fn.made.items → All (IsMade lines s first) l.made.items;
  fit : (lines : Lines) (s : SourceValue) (first : ℕ) → All (IsMade lines s first) l.fn.made.items → FitPlaces lines s first l.fn.places → FitPlaces lines s first l.places;
}

abbrev pub decreases-loop-one : goal.decreases-loop-one
decreases-loop-one l = length l.made.items
