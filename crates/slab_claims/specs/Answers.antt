-- What a claim answers, and what it does to its seat.
use Rattle.std.specs.Prelude.{◌≡◌, ◌<◌, All, [], ◌∷◌, ◌++◌, true}
use Rattle.slab_claims.specs.declared.claims.Claim.{Claim}
use Rattle.slab_claims.specs.declared.claims.Claim.TheVariants.{Slab, NoMore}
use Rattle.slab_claims.specs.Seats.{SeatValue}

-- A slab is below their number, above all that the seat drew before, and joins its list. At the end the seat is done.
abbrev pub AnswersClaim : SeatValue → SeatValue → Claim → Type 0
AnswersClaim old new (Slab n) = (n < old.of.slabs) × All (λ x. x < n) old.drawn × (new ≡ record old { drawn = old.drawn ++ n ∷ [] })
AnswersClaim old new NoMore = new ≡ record old { done = true }
