-- What the calls leave of a seat.
use Rattle.std.specs.Prelude.{ℕ, ◌++◌, ◌∷◌, [], Bool, true, false}
use Rattle.list_words.specs.Words.{joined, without}
use Rattle.layer_cells.specs.Seats.{CellSeatValue}

-- a look at layer h, which found its flag up or down
abbrev pub seat_looked : CellSeatValue → ℕ → Bool → CellSeatValue
seat_looked s h true = record s { seen = joined h s.seen; down = without h s.down }
seat_looked s h false = record s { down = joined h s.down }

abbrev pub seat_put : CellSeatValue → ℕ → CellSeatValue
seat_put s id = record s { put = joined id s.put }

abbrev pub seat_raised : CellSeatValue → ℕ → CellSeatValue
seat_raised s h = record s { seen = joined h s.seen; down = without h s.down; made = s.made ++ h ∷ [] }

abbrev pub seat_given : CellSeatValue → CellSeatValue
seat_given s = record s { down = []; put = []; made = [] }

abbrev pub seat_joined : CellSeatValue → CellSeatValue → CellSeatValue
seat_joined s t = record s { seen = s.seen ++ t.seen; made = s.made ++ t.made }
