-- What a desk that never fails means.
use Rattle.std.specs.Prelude.{ℕ, List, drop, Option, Some, None}
use Rattle.st_base.specs.Desk.{InputState, PortState}
use Rattle.st_base.specs.declared.Port.{Port}
use Rattle.st_base.specs.declared.Port.TheVariants.{Node, Ele, Report, Trouble, Face, Neigh}
use Rattle.desk_mem.specs.declared.steady.Length.{Length}
use Rattle.desk_mem.specs.declared.steady.SteadyDesk.{SteadyDesk}

-- the open input: its bytes are told, and it has no fault
abbrev pub steady_input : SteadyDesk → InputState
steady_input desk = record { is_open = desk.is_open; left = Some (drop desk.at desk.bytes.items); faults = 0 }

-- the part of a desk that is a port
abbrev pub length_part : SteadyDesk → Port → Length
length_part desk Node = desk.node
length_part desk Ele = desk.ele
length_part desk Report = desk.report
length_part desk Trouble = desk.trouble
length_part desk Face = desk.face
length_part desk Neigh = desk.neigh

-- the ports: their texts and names are not told, and they have no fault
abbrev pub steady_ports : SteadyDesk → Port → PortState
steady_ports desk port = record { is_open = (length_part desk port).is_open; text = None; name = None; faults = 0 }

-- the same bytes are held under every name
abbrev pub steady_held : SteadyDesk → List ℕ → Option (List ℕ)
steady_held desk name = Some desk.bytes.items

-- how many bytes were written to a port since it was opened
abbrev pub written_to : SteadyDesk → Port → ℕ
written_to desk port = (length_part desk port).written
