-- What a desk over files tells: what is open, and how many calls failed.
use Rattle.std.specs.Prelude.{ℕ, Bool, None}
use Rattle.st_base.specs.Desk.{InputState, PortState}
use Rattle.st_base.specs.declared.Port.{Port}
use Rattle.st_base.specs.declared.Port.TheVariants.{Node, Ele, Report, Trouble, Face, Neigh}

-- an input of which the bytes are not told
abbrev pub untold_input : Bool → ℕ → InputState
untold_input is_open faults = record { is_open = is_open; left = None; faults = faults }

-- a port of which the text and the name are not told
abbrev pub untold_port : Bool → ℕ → PortState
untold_port is_open faults = record { is_open = is_open; text = None; name = None; faults = faults }

-- a state for each port
abbrev pub by_port : PortState → PortState → PortState → PortState → PortState → PortState → Port → PortState
by_port node ele report trouble face neigh Node = node
by_port node ele report trouble face neigh Ele = ele
by_port node ele report trouble face neigh Report = report
by_port node ele report trouble face neigh Trouble = trouble
by_port node ele report trouble face neigh Face = face
by_port node ele report trouble face neigh Neigh = neigh
