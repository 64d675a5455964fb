-- What a call may have changed of a desk, whose meanings `desk` has. All else is as it was.
use Rattle.formats.specs.declared.Port.{Port}
use Rattle.st_base.specs.Desk.{KeepsAllButInput, KeepsAllButOpening, KeepsAllButOpeningInput, KeepsAllButPort}
use Rattle.st_base.specs.declared.desk.Desk.{Ghosts}

-- one port
abbrev pub OnlyPort : {S : Type 0} → Ghosts S → Port → S → S → Type 0
OnlyPort desk port old new = KeepsAllButPort desk.input desk.ports desk.tried desk.held port old new

-- the input
abbrev pub OnlyInput : {S : Type 0} → Ghosts S → S → S → Type 0
OnlyInput desk old new = KeepsAllButInput desk.ports desk.tried desk.held old new

-- one port, and the names that were opened
abbrev pub OnlyOpening : {S : Type 0} → Ghosts S → Port → S → S → Type 0
OnlyOpening desk port old new = KeepsAllButOpening desk.input desk.ports desk.held port old new

-- the input, and the names that were opened
abbrev pub OnlyOpeningInput : {S : Type 0} → Ghosts S → S → S → Type 0
OnlyOpeningInput desk old new = KeepsAllButOpeningInput desk.ports desk.held old new
