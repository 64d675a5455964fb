-- States within the limits of snapping, and how far a state is from its vertex.
use Rattle.std.specs.Prelude.{◌≡◌, ◌⊎◌, ⊤, ◌≤◌, ℕ, if◌then◌else◌}
use Rattle.std.proofs.Math.IntN.{pos}
use Rattle.definitions.specs.declared.Vertex.{Vertex}
use Rattle.definitions.specs.declared.State.{State}
use Rattle.definitions.specs.declared.State.TheVariants as state
use Rattle.definitions.specs.Cuts.{scale}
use Rattle.definitions.specs.Lattice.{is_long}
use Rattle.definitions.specs.States.{direction_of}
use Rattle.definitions.specs.Places.{lattice_place, state_place}
use Rattle.lattice_laws.specs.Vectors.{Vector, ◌-ᵥ◌, ◌*ᵥ◌}
use Rattle.lattice_laws.specs.Kinds.{Direction, step_vector}
use Rattle.moved_lattice.specs.Duals.{limit}
use Rattle.snap_laws.specs.Around.{distance_of_cut}

-- A vertex that is not moved, or that is moved onto a cut of one of its fourteen edges within the limit: 1023 parts of a long edge, 2047 of a short one.
abbrev pub IsNear : State → Type 0
IsNear state.Minus = ⊤
IsNear state.Plus = ⊤
IsNear (state.Zero edge k) = ((edge ≡ 0) × (k ≡ 0)) ⊎ ((1 ≤ edge) × (edge ≤ 14) × (k ≤ scale) × (distance_of_cut edge k ≤ (if is_long (direction_of edge) then 1023 else 2047)))

-- how far a state is from its vertex
abbrev pub displacement : Vertex → State → Vector
displacement v state = state_place v state -ᵥ lattice_place v

-- a displacement by t parts in one of the fourteen directions, within its limit
pub data IsDisplacement (p : Vector) : Type 0 where
  displaced_by : (δ : Direction) (t : ℕ) → t ≤ limit δ → p ≡ pos t *ᵥ step_vector δ → IsDisplacement p
