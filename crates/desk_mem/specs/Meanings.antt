-- What a desk in memory means, and where it is to fail.
use Rattle.std.specs.Prelude.{◌≡◌, ℕ, List, Bool, Option, Some}
use Rattle.st_base.specs.Desk.{InputState, PortState}
use Rattle.st_base.specs.declared.Port.{Port}
use Rattle.st_base.specs.declared.Port.TheVariants.{Node, Ele, Report, Trouble, Face, Neigh}
use Rattle.desk_mem.specs.HeldUnder.{held_under}
use Rattle.desk_mem.specs.Parts.{input_state, port_state, names_of}
use Rattle.desk_mem.specs.declared.mem.MemDesk.{MemDesk}
use Rattle.desk_mem.specs.declared.port.MemPort.{MemPort}

-- all but what is held: the open input, the ports, and the names with which files were opened
pub record MemState : Type 0 where
  pub input : InputState
  pub node : PortState
  pub ele : PortState
  pub report : PortState
  pub trouble : PortState
  pub face : PortState
  pub neigh : PortState
  pub tried : List (List ℕ)

abbrev pub mem_state : MemDesk → MemState
mem_state desk = record {
  input = input_state desk.input;
  node = port_state desk.node;
  ele = port_state desk.ele;
  report = port_state desk.report;
  trouble = port_state desk.trouble;
  face = port_state desk.face;
  neigh = port_state desk.neigh;
  tried = names_of desk.tried.items;
}

-- the open input
abbrev pub mem_input : MemDesk → InputState
mem_input desk = (mem_state desk).input

-- the ports
abbrev pub mem_ports : MemDesk → Port → PortState
mem_ports desk Node = (mem_state desk).node
mem_ports desk Ele = (mem_state desk).ele
mem_ports desk Report = (mem_state desk).report
mem_ports desk Trouble = (mem_state desk).trouble
mem_ports desk Face = (mem_state desk).face
mem_ports desk Neigh = (mem_state desk).neigh

-- the names with which files were opened, which are told
abbrev pub mem_tried : MemDesk → Option (List (List ℕ))
mem_tried desk = Some (mem_state desk).tried

-- the bytes that are held under a name
abbrev pub mem_held : MemDesk → List ℕ → Option (List ℕ)
mem_held desk name = held_under desk.inputs.items name

-- the part of a desk that is a port
abbrev pub port_part : MemDesk → Port → MemPort
port_part desk Node = desk.node
port_part desk Ele = desk.ele
port_part desk Report = desk.report
port_part desk Trouble = desk.trouble
port_part desk Face = desk.face
port_part desk Neigh = desk.neigh

-- the number of bytes of an input after which reads fail
abbrev pub input_limit : MemDesk → Option ℕ
input_limit desk = desk.input.limit

-- the number of bytes in a port's text after which writes fail
abbrev pub output_limit : MemDesk → Port → Option ℕ
output_limit desk port = (port_part desk port).limit

-- openings of the input fail
abbrev pub refuses_input : MemDesk → Bool
refuses_input desk = desk.input.refuse_open

-- openings of a port fail
abbrev pub refuses_open : MemDesk → Port → Bool
refuses_open desk port = (port_part desk port).refuse_open

-- finishing a port fails
abbrev pub refuses_finish : MemDesk → Port → Bool
refuses_finish desk port = (port_part desk port).refuse_finish

-- how many bytes one read or write moves at most
abbrev pub most_at_once : MemDesk → ℕ
most_at_once desk = desk.most

-- what is to fail stays
pub record SameSwitches (old new : MemDesk) : Type 0 where
  pub input_limit_is : input_limit new ≡ input_limit old
  pub output_limits : (port : Port) → output_limit new port ≡ output_limit old port
  pub input_refused : refuses_input new ≡ refuses_input old
  pub openings_refused : (port : Port) → refuses_open new port ≡ refuses_open old port
  pub finishings_refused : (port : Port) → refuses_finish new port ≡ refuses_finish old port
  pub most : most_at_once new ≡ most_at_once old
