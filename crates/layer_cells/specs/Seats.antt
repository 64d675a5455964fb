-- What contracts see of cells, of a seat, and of the published states.
use Rattle.std.specs.Prelude.{ℕ, List}
use Rattle.atomic_table.specs.Seated.{TableId}
use Rattle.definitions.specs.Values.{Field}
use Rattle.definitions.specs.States.{Shares}

-- whose states they are
pub record Subject : Type 0 where
  pub field : Field
  pub shares : Shares

-- which cells they are, and of what
pub record CellsValue : Type 0 where
  pub id : TableId
  pub subject : Subject

-- the cells that a seat is of; the layers that it knows raised, those whose flag its last look found down, the ids that it put, and the layers that it made
pub record CellSeatValue : Type 0 where
  pub of : CellsValue
  pub seen : List ℕ
  pub down : List ℕ
  pub put : List ℕ
  pub made : List ℕ

-- whose states they are, and the layers that the seats made, in the order in which their lists were joined
pub record PublishedValue : Type 0 where
  pub subject : Subject
  pub made : List ℕ
