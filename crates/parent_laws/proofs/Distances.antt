-- Each vector is displaced within the limit of its direction.
use Rattle.definitions.specs.Values.{Field}
use Rattle.definitions.specs.States.{Shares, IsShares, state_of}
use Rattle.lattice_laws.specs.Vectors.{Vector, origin}
use Rattle.moved_lattice.specs.WeightedSums.{AreSmall}
use Rattle.displacement_laws.specs.Displacements.{displacement, IsDisplacement}
use Rattle.displacement_laws.proofs.Displacements.{displacements_are_small, near_states_are_displaced, still}
use Rattle.displacement_laws.proofs.Distances.{states_are_near}
use Rattle.parent_laws.specs.Everywhere.{displacement_on}
use Rattle.parent_laws.specs.Laws.{DisplacementsAreLimited}
use Rattle.parent_laws.proofs.Everywhere.{everywhere}

pub displacements : (f : Field) (s : Shares) → IsShares s → (u : Vector) → IsDisplacement (displacement_on f s u)
displacements f s ok u = everywhere IsDisplacement f.dims origin (λ v. displacement v (state_of f s v)) still (λ v inside. near_states_are_displaced v (state_of f s v) (states_are_near f s ok v inside)) u

pub displacements_small : (f : Field) (s : Shares) → IsShares s → AreSmall (displacement_on f s)
displacements_small f s ok u = displacements_are_small (displacement_on f s u) (displacements f s ok u)

pub displacements_are_limited : DisplacementsAreLimited
displacements_are_limited f s ok = (displacements f s ok, displacements_small f s ok)
