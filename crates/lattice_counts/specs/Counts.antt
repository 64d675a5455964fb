-- Closed formulas for the numbers of vertices in rows, layers and below a layer, and for the id of a vertex.
use Rattle.std.specs.Prelude.{◌≡◌, ℕ, ◌+◌, ◌-◌, ◌*◌, ◌/◌, ◌%◌, ◌^◌, ◌<◌, ◌≤◌, length}
use Rattle.definitions.specs.declared.Dims.{Dims}
use Rattle.definitions.specs.declared.Vertex.{Vertex}
use Rattle.definitions.specs.Lattice.{IsDims, InDomain, id, layers, vertex, vertices}
use Rattle.definitions.specs.Layout.{layer_len, layer_start}

-- how many numbers an axis of n samples has in layer h
abbrev pub row_len : ℕ → ℕ → ℕ
row_len n h = n + 2 - h % 2

-- how many vertices there are in an even layer, and in an odd one
abbrev pub even_len : Dims → ℕ
even_len d = (d.nx + 2) * (d.ny + 2)

abbrev pub odd_len : Dims → ℕ
odd_len d = (d.nx + 1) * (d.ny + 1)

-- how many vertices stand below layer h: two layers together are a constant number
abbrev pub below_layer : Dims → ℕ → ℕ
below_layer d h = h / 2 * (even_len d + odd_len d) + h % 2 * even_len d

-- how many vertices stand before v in its layer, and before it in all
abbrev pub before_in_layer : Dims → Vertex → ℕ
before_in_layer d v = v.y / 2 * row_len d.nx v.h + v.x / 2

-- the vertex in layer h before which p vertices of the layer stand
abbrev pub vertex_in_layer : Dims → ℕ → ℕ → Vertex
vertex_in_layer d h p = vertex h (p / row_len d.nx h * 2 + h % 2) (p % row_len d.nx h * 2 + h % 2)

-- it is in the domain, and so many vertices stand before it
pub record PlaceInLayer (d : Dims) (h p : ℕ) : Type 0 where
  pub domain : InDomain d (vertex_in_layer d h p)
  pub place : before_in_layer d (vertex_in_layer d h p) ≡ p

-- the vertex of id n stands in layer h, where p vertices stand before it
pub record StandsInLayer (d : Dims) (n h p : ℕ) : Type 0 where
  pub layer : h < layers d
  pub place : p < row_len d.ny h * row_len d.nx h
  pub sum : below_layer d h + p ≡ n

-- the sizes are small numbers, and so are the numbers of vertices
pub record AreSmall (d : Dims) : Type 0 where
  pub nx : d.nx < 2 ^ 23
  pub ny : d.ny < 2 ^ 23
  pub nz : d.nz < 2 ^ 23
  pub even : even_len d < 2 ^ 25
  pub all : length (vertices d) ≤ 2 ^ 27

-- the formulas
pub record LayersCount (d : Dims) : Type 0 where
  pub len : (h : ℕ) → layer_len d h ≡ row_len d.ny h * row_len d.nx h
  pub start : (h : ℕ) → h ≤ layers d → layer_start d h ≡ below_layer d h
  pub all : length (vertices d) ≡ below_layer d (layers d)
  pub rank : (v : Vertex) → InDomain d v → id d v ≡ below_layer d v.h + before_in_layer d v
  pub within : (v : Vertex) → InDomain d v → id d v < length (vertices d)
  pub small : IsDims d → AreSmall d

abbrev pub LayersCountVertices : Type 0
LayersCountVertices = (d : Dims) → LayersCount d
