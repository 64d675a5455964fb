-- What the parts of a desk in memory mean.
use Rattle.std.specs.Prelude.{ℕ, List, drop, map, Some, Vec}
use Rattle.std.specs.Option.{option_map}
use Rattle.std.specs.declared.alloc.Global.{Global}
use Rattle.st_base.specs.Desk.{InputState, PortState}
use Rattle.desk_mem.specs.declared.input.MemInput.{MemInput}
use Rattle.desk_mem.specs.declared.port.MemPort.{MemPort}

-- the names in a list
abbrev pub names_of : List (Vec ℕ Global) → List (List ℕ)
names_of names = map (λ name. name.items) names

-- the bytes from the next one on are left
abbrev pub input_state : MemInput → InputState
input_state input = record { is_open = input.is_open; left = Some (drop input.at input.bytes.items); faults = input.faults }

-- the text and the name are told
abbrev pub port_state : MemPort → PortState
port_state port = record { is_open = port.is_open; text = Some port.text.items; name = option_map (λ name. name.items) port.name; faults = port.faults }
