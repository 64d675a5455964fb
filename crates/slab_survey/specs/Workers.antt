-- What contracts see of a worker.
use Rattle.std.specs.Prelude.{ℕ, List}
use Rattle.slab_claims.specs.Seats.{SeatValue}
use Rattle.layer_cells.specs.Seats.{CellSeatValue}
use Rattle.vertex_numbers.specs.declared.LayerCount.{LayerCount}

-- its number, its two seats, its ledger, the counts of the layers of the slabs that it surveyed, and for how many counts there is room
pub record WorkerValue (L : Type 0) : Type 0 where
  pub number : ℕ
  pub claims : SeatValue
  pub cells : CellSeatValue
  pub ledger : L
  pub counts : List LayerCount
  pub room : ℕ
