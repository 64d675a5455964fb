-- Rows of vertices, and those in a row that have one sign with their neighbours upwards.
use Rattle.std.specs.Prelude.{◌≡◌, ℕ, ◌+◌, ◌*◌, ◌%◌, ◌<◌, ◌≤◌, Bool, if◌then◌else◌}
use Rattle.definitions.specs.declared.Dims.{Dims}
use Rattle.definitions.specs.declared.Sign.{Sign}
use Rattle.definitions.specs.declared.Sign.TheVariants.{Minus, Plus}
use Rattle.definitions.specs.declared.State.{State}
use Rattle.definitions.specs.declared.Vertex.{Vertex}
use Rattle.definitions.specs.Lattice.{layers, vertex}
use Rattle.lattice_counts.specs.Counts.{row_len}
use Rattle.vertex_numbers.specs.Alike.{AreAlike, HasNext}
use Rattle.vertex_numbers.specs.Counts.{row_start}
use Rattle.vertex_numbers.specs.Steps.{AreSteps}
use Rattle.vertex_numbers.specs.declared.runs.Row.{Row}

-- the vertex at place i of row j of layer h
abbrev pub row_vertex : ℕ → ℕ → ℕ → Vertex
row_vertex h j i = vertex h (j * 2 + h % 2) (i * 2 + h % 2)

-- the row is one of the lattice, and what stands with it is true of it
pub record IsRow (d : Dims) (r : Row) : Type 0 where
  pub layer : r.h < layers d
  pub row : r.j < row_len d.ny r.h
  pub start : r.start ≡ row_start d r.h r.j
  pub steps : AreSteps d r.h (r.j * 2 + r.h % 2) r.steps
  pub next : (i : ℕ) → i < r.followed → HasNext d (row_vertex r.h r.j i)
  pub short : r.followed < row_len d.nx r.h

-- the vertices of a row from place a on and before place b have a sign, and so have their neighbours upwards
abbrev pub AreAlikeWithin : Dims → (Vertex → State) → Row → ℕ → ℕ → Sign → Type 0
AreAlikeWithin d told r a b s = (k : ℕ) → a ≤ k → k < b → AreAlike d told (row_vertex r.h r.j k) s

abbrev pub sign_if_plus : Bool → Sign
sign_if_plus is_plus = if is_plus then Plus else Minus
