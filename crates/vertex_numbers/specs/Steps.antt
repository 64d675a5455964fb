-- How far the ids of the neighbours upwards stand behind that of a vertex: as far for each vertex of a row.
use Rattle.std.specs.Prelude.{◌≡◌, ℕ, ◌+◌, ◌-◌, true, Some}
use Rattle.definitions.specs.declared.Dims.{Dims}
use Rattle.definitions.specs.declared.Vertex.{Vertex}
use Rattle.definitions.specs.Lattice.{InDomain, id, neighbour, vertex}
use Rattle.vertex_numbers.specs.declared.steps.ColumnIds.{ColumnIds}
use Rattle.vertex_numbers.specs.declared.steps.Steps.{Steps}

-- the id of the neighbour upwards in a direction stands n behind that of each vertex of the row at y in layer h
abbrev pub LeadsBy : Dims → ℕ → ℕ → ℕ → ℕ → Type 0
LeadsBy d h y dir n = (v w : Vertex) → InDomain d v → v.h ≡ h → v.y ≡ y → neighbour d v dir true ≡ Some w → id d w ≡ id d v + n

pub record AreSteps (d : Dims) (h y : ℕ) (s : Steps) : Type 0 where
  pub second : LeadsBy d h y 2 s.second
  pub third : LeadsBy d h y 3 s.third
  pub fifth : LeadsBy d h y 5 s.fifth
  pub seventh : LeadsBy d h y 7 s.seventh

-- the ids of the neighbours upwards that are no further along x
pub record AreColumnIds (d : Dims) (v : Vertex) (ids : ColumnIds) : Type 0 where
  pub second : ids.second ≡ id d (vertex v.h (v.y + 2) v.x)
  pub third : ids.third ≡ id d (vertex (v.h + 1) (v.y - 1) (v.x - 1))
  pub fifth : ids.fifth ≡ id d (vertex (v.h + 1) (v.y + 1) (v.x - 1))
  pub seventh : ids.seventh ≡ id d (vertex (v.h + 2) v.y v.x)
