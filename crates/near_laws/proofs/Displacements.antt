-- A vertex that was moved stands at most 2,047 from where it was, on each axis.
use Rattle.std.proofs.Common.{◌≤◌, arith, ℤ, pos, ◌+ℤ◌, neg_ℤ}
use Rattle.std.specs.Prelude.{◌≤ℤ◌}
use Rattle.std.proofs.Math.IntN.{nat_abs}
use Rattle.std.proofs.lemmas.Int.{ints}
use Rattle.definitions.specs.declared.Vertex.{Vertex}
use Rattle.definitions.specs.declared.Place.{Place}
use Rattle.definitions.specs.Lattice.{InDomain}
use Rattle.definitions.specs.Places.{lattice_place, state_place}
use Rattle.definitions.specs.States.{Shares, IsShares, state_of}
use Rattle.definitions.specs.Values.{Field}
use Rattle.lattice_laws.specs.Vectors.{norm}
use Rattle.displacement_laws.specs.Displacements.{displacement}
use Rattle.displacement_laws.proofs.Displacements.{displacements_are_small, near_states_are_displaced}
use Rattle.displacement_laws.proofs.Distances.{states_are_near}

-- at most 2,047 apart
pub record AreAbout (a b : ℤ) : Type 0 where
  pub low : b ≤ℤ (a +ℤ pos 2047)
  pub high : a ≤ℤ (b +ℤ pos 2047)

pub record StandAbout (p q : Place) : Type 0 where
  pub x : AreAbout p.x q.x
  pub y : AreAbout p.y q.y
  pub z : AreAbout p.z q.z

about : (a b : ℤ) → nat_abs (a +ℤ neg_ℤ b) ≤ 2047 → AreAbout a b
about a b h = record { low = omega (arith, ints); high = omega (arith, ints) }

module _ (f : Field) (s : Shares) (small : IsShares s) (v : Vertex) (inside : InDomain f.dims v) where
  within : norm (displacement v (state_of f s v)) ≤ 2047
  within = displacements_are_small (displacement v (state_of f s v)) (near_states_are_displaced v (state_of f s v) (states_are_near f s small v inside))

  pub state_about : StandAbout (state_place v (state_of f s v)) (lattice_place v)
  state_about = record {
    x = about (state_place v (state_of f s v)).x (lattice_place v).x (omega (arith, within));
    y = about (state_place v (state_of f s v)).y (lattice_place v).y (omega (arith, within));
    z = about (state_place v (state_of f s v)).z (lattice_place v).z (omega (arith, within));
  }
