use Rattle.std.proofs.Common.{◌≡◌, ◌+◌, ◌<◌, ◌≤◌, ℕ, length, vec_capacity, Option}
use Rattle.std.specs.Prelude.{IfOk, Result, slice_index_or}
use Rattle.std.specs.Option.{ForSome}
use Rattle.st_base.specs.declared.NoMemory.{NoMemory}
use Rattle.slab_emit.specs.declared.lines.Lines.{Lines}
use Rattle.slab_emit.specs.declared.part.Part.{Part}
use Rattle.slab_emit.specs.Parts.{AreParts, IsPart}
use Rattle.slab_emit.specs.Sources.{SourceValue}
use Rattle.slab_emit.specs.Workers.{FitPlaces, IsFilled}
use Rattle.slab_emit.proofs.round.collect.Given as goal

abbrev pub invariant-loop-n : goal.invariant-loop-n
invariant-loop-n l = record {
  len : length l.places ≡ length l.fn.places;
  long : length l.parts.items ≡ l.n;
  room : length l.fn.places ≤ vec_capacity l.parts;
  filled : (k : ℕ) → l.n ≤ k → IsFilled l.places k;
  rest : (lines : Lines) (s : SourceValue) (first : ℕ) → FitPlaces lines s first l.fn.places → (k : ℕ) (d : Option (Result Part NoMemory)) → l.n ≤ k → k < length l.places → ForSome (slice_index_or l.places k d) (λ made. IfOk made (IsPart lines s (first + k)));
  parts : (lines : Lines) (s : SourceValue) (first : ℕ) → FitPlaces lines s first l.fn.places → AreParts lines s first l.parts.items;
}
