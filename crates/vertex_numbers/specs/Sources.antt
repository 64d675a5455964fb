-- What a source of states knows, and states of all vertices that agree with it.
use Rattle.std.specs.Prelude.{◌≡◌, ℕ, ◌+◌, ◌<◌, ◌≤◌, List}
use Rattle.definitions.specs.declared.Dims.{Dims}
use Rattle.definitions.specs.declared.Vertex.{Vertex}
use Rattle.definitions.specs.declared.State.{State}
use Rattle.definitions.specs.Lattice.{InDomain, id, layers}
use Rattle.definitions.specs.Mesh.{state_at}

-- the layers at most two away from layer h are known, where they exist
abbrev pub KnowsAround : Dims → (ℕ → Type 0) → ℕ → Type 0
KnowsAround d knows h = (g : ℕ) → g < layers d → g ≤ h + 2 → h ≤ g + 2 → knows g

-- the states of all vertices are those told, where these are known
abbrev pub Agrees : Dims → (ℕ → Type 0) → (Vertex → State) → List State → Type 0
Agrees d knows told ss = (v : Vertex) → InDomain d v → knows v.h → state_at ss (id d v) ≡ told v
