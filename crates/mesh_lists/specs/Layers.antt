-- Numberings of the nodes of a layer and of the two above it: those of the tetrahedra whose lowest vertices the layer has.
use Rattle.std.specs.Prelude.{ℕ, ◌+◌, ◌≤◌, List, min}
use Rattle.definitions.specs.declared.Dims.{Dims}
use Rattle.definitions.specs.declared.State.{State}
use Rattle.definitions.specs.Lattice.{layers}
use Rattle.definitions.specs.Layout.{layer_start}
use Rattle.vertex_numbers.specs.declared.Later.{Later}
use Rattle.vertex_numbers.specs.Numbering.{Numbering, TellsNumbers, TellsUsed}

-- the ids from a on and before b hold layer h and the two above it, where they exist
pub record HoldLayers (d : Dims) (h a b : ℕ) : Type 0 where
  pub low : a ≤ layer_start d h
  pub high : layer_start d (min (h + 3) (layers d)) ≤ b

-- a numbering of their nodes
pub record NumbersLayers (d : Dims) (ss : List State) (h : ℕ) (n : Numbering) : Type 0 where
  pub hold : HoldLayers d h n.first (n.first + n.len)
  pub used : TellsUsed d ss n
  pub number : TellsNumbers d ss n

-- the ids are n or greater
pub record AreFrom (n : ℕ) (l : Later) : Type 0 where
  pub first : n ≤ l.first
  pub second : n ≤ l.second
  pub third : n ≤ l.third
  pub fourth : n ≤ l.fourth
  pub fifth : n ≤ l.fifth
  pub sixth : n ≤ l.sixth
  pub seventh : n ≤ l.seventh
