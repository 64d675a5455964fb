-- The sizes of an image with a slab size of 1 to 64.
use Rattle.std.specs.Prelude.{ℕ, ◌≤◌}
use Rattle.definitions.specs.declared.Dims.{Dims}
use Rattle.definitions.specs.Lattice.{IsDims}

pub record IsLayout (dims : Dims) (slab : ℕ) : Type 0 where
  pub sizes : IsDims dims
  pub low : 1 ≤ slab
  pub high : slab ≤ 64
