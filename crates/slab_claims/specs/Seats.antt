-- What contracts see of claims, of a seat, and of the token of the end.
use Rattle.std.specs.Prelude.{ℕ, Bool, List}
use Rattle.atomic_table.specs.Seated.{TableId}

-- which counter it is, and how many slabs and seats it was made for
pub record ClaimsValue : Type 0 where
  pub id : TableId
  pub slabs : ℕ
  pub seats : ℕ

-- the claims that a seat is of, its share of the seats, the numbers that it drew, and whether it found that there are no more
pub record SeatValue : Type 0 where
  pub of : ClaimsValue
  pub share : ℕ
  pub drawn : List ℕ
  pub done : Bool

-- how many slabs there were, and the numbers in the order in which the seats' lists were joined
pub record DrawnValue : Type 0 where
  pub slabs : ℕ
  pub list : List ℕ
