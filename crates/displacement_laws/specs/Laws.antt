-- What is proved of states and their displacements.
use Rattle.std.specs.Prelude.{◌≤◌}
use Rattle.definitions.specs.declared.Vertex.{Vertex}
use Rattle.definitions.specs.declared.State.{State}
use Rattle.definitions.specs.Lattice.{InDomain}
use Rattle.definitions.specs.Values.{Field}
use Rattle.definitions.specs.States.{Shares, IsShares, state_of}
use Rattle.lattice_laws.specs.Vectors.{Vector, norm}
use Rattle.displacement_laws.specs.Displacements.{IsNear, displacement, IsDisplacement}

-- The states of all vertices are within the limits.
abbrev pub StatesAreNear : Type 0
StatesAreNear = (f : Field) (s : Shares) → IsShares s → (v : Vertex) → InDomain f.dims v → IsNear (state_of f s v)

-- A state within the limits stands some parts in one of fourteen directions from its vertex.
abbrev pub NearStatesAreDisplaced : Type 0
NearStatesAreDisplaced = (v : Vertex) (s : State) → IsNear s → IsDisplacement (displacement v s)

-- A displacement is at most 2047 parts on each axis.
abbrev pub DisplacementsAreSmall : Type 0
DisplacementsAreSmall = (p : Vector) → IsDisplacement p → norm p ≤ 2047
