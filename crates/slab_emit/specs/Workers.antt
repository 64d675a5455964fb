-- Workers that draw the slabs of a round and keep the part of each.
use Rattle.std.specs.Prelude.{◌≡◌, ◌≢◌, ℕ, ◌+◌, ◌<◌, ◌≤◌, List, [], map, sum_by, All, Option, None, Result, IfOk, true, false, length, vec_capacity, slice_index_or}
use Rattle.std.specs.Option.{ForSome}
use Rattle.st_base.specs.declared.NoMemory.{NoMemory}
use Rattle.slab_claims.specs.Seats.{ClaimsValue}
use Rattle.slab_emit.specs.declared.lines.Lines.{Lines}
use Rattle.slab_emit.specs.declared.part.Part.{Part}
use Rattle.slab_emit.specs.declared.worker.Made.{Made}
use Rattle.slab_emit.specs.declared.worker.Worker.{Worker}
use Rattle.slab_emit.specs.Parts.{IsPart}
use Rattle.slab_emit.specs.Sources.{SourceValue}

-- what was made of the number that was drawn is the part of that slab of the round, unless there was no memory
abbrev pub IsMade : Lines → SourceValue → ℕ → Made → Type 0
IsMade lines s first m = IfOk m.part (IsPart lines s (first + m.at))

abbrev pub numbers_of : List Made → List ℕ
numbers_of ms = map (λ m. m.at) ms

-- a worker before it begins: it has drawn nothing, and has room for something of each number
pub record IsReady (claims : ClaimsValue) (w : Worker) : Type 0 where
  pub of : w.seat.of ≡ claims
  pub going : w.seat.done ≡ false
  pub none_drawn : w.seat.drawn ≡ []
  pub none_made : w.made.items ≡ []
  pub room : claims.slabs ≤ vec_capacity w.made

-- a worker at its end: it is done, and has made something of each number that it drew
pub record IsFinished (claims : ClaimsValue) (w : Worker) : Type 0 where
  pub of : w.seat.of ≡ claims
  pub done : w.seat.done ≡ true
  pub drawn : numbers_of w.made.items ≡ w.seat.drawn
  pub below : All (λ m. m.at < claims.slabs) w.made.items

-- and what it has made is right
abbrev pub HasMade : Lines → SourceValue → ℕ → Worker → Type 0
HasMade lines s first w = All (IsMade lines s first) w.made.items

-- the shares of workers together
abbrev pub shares_of : List Worker → ℕ
shares_of ws = sum_by (λ w. w.seat.share) ws

-- places for the parts of a round, each with what was made of its number or still empty
abbrev pub FitPlaces : Lines → SourceValue → ℕ → List (Option (Result Part NoMemory)) → Type 0
FitPlaces lines s first places = (k : ℕ) (d : Option (Result Part NoMemory)) → k < length places → ForSome (slice_index_or places k d) (λ made. IfOk made (IsPart lines s (first + k)))

-- the place of a number is not empty
abbrev pub IsFilled : List (Option (Result Part NoMemory)) → ℕ → Type 0
IsFilled places k = (d : Option (Result Part NoMemory)) → k < length places → slice_index_or places k d ≢ None
