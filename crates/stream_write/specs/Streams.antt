-- What is written to a port.
use Rattle.std.specs.Prelude.{ℕ, ⊤}
use Rattle.formats.specs.declared.Frame.{Frame}
use Rattle.formats.specs.declared.Port.{Port}
use Rattle.formats.specs.declared.Port.TheVariants.{Node, Ele}
use Rattle.slab_emit.specs.declared.Lines.{Lines}
use Rattle.slab_emit.specs.declared.Lines.TheVariants.{Nodes, Tets}

-- lines of nodes to Node, and of tetrahedra to Ele
abbrev pub lines_at : Frame → ℕ → Port → Lines
lines_at frame first Node = Nodes frame first
lines_at frame first port = Tets first

-- the ports of the nodes and of the tetrahedra
abbrev pub IsMeshFile : Port → Type 0
IsMeshFile Node = ⊤
IsMeshFile Ele = ⊤
IsMeshFile port = ⊥
