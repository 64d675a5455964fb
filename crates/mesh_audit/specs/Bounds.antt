-- Bounds of vectors.
use Rattle.std.specs.Prelude.{ℕ, ◌≤◌, unsigned_abs}
use Rattle.definitions.specs.declared.Place.{Place}

-- no coordinate is greater than n in size
pub record IsWithin (n : ℕ) (p : Place) : Type 0 where
  pub x : unsigned_abs p.x ≤ n
  pub y : unsigned_abs p.y ≤ n
  pub z : unsigned_abs p.z ≤ n
