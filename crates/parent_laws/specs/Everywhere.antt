-- What a field says at all vectors of the infinite lattice: signs, displacements and cuts. Outside the domain all is Minus and unmoved.
use Rattle.std.specs.Prelude.{ℕ, max, min, if◌then◌else◌, unwrap_or}
use Rattle.std.proofs.Math.IntN.{ℤ, pos}
use Rattle.definitions.specs.declared.Dims.{Dims}
use Rattle.definitions.specs.declared.Vertex.{Vertex}
use Rattle.definitions.specs.declared.Sign.{Sign}
use Rattle.definitions.specs.declared.Sign.TheVariants.{Minus}
use Rattle.definitions.specs.Lattice.{in_domain, vertex}
use Rattle.definitions.specs.Values.{Field, value}
use Rattle.definitions.specs.Cuts.{cut_number}
use Rattle.definitions.specs.States.{Shares, state_of, sign_of_state}
use Rattle.lattice_laws.specs.Vectors.{Vector, origin, ◌+ᵥ◌, ◌*ᵥ◌}
use Rattle.displacement_laws.specs.Displacements.{displacement}

-- what g says of the vertex with these coordinates, where there is one in the domain
abbrev pub at_coordinates : {X : Type 0} → Dims → X → (Vertex → X) → ℤ → ℤ → ℤ → X
at_coordinates d other g (pos x) (pos y) (pos h) = if in_domain d (vertex h y x) then g (vertex h y x) else other
at_coordinates d other g x y h = other

abbrev pub at_vector : {X : Type 0} → Dims → X → (Vertex → X) → Vector → X
at_vector d other g u = at_coordinates d other g u.x u.y u.z

abbrev pub sign_on : Field → Shares → Vector → Sign
sign_on f s = at_vector f.dims Minus (λ v. sign_of_state (state_of f s v))

abbrev pub displacement_on : Field → Shares → Vector → Vector
displacement_on f s = at_vector f.dims origin (λ v. displacement v (state_of f s v))

-- a vertex with its displacement, 4096 units to a half unit
abbrev pub moved_vertex : Field → Shares → Vector → Vector
moved_vertex f s u = pos 4096 *ᵥ u +ᵥ displacement_on f s u

-- the number of the cut between two vectors, brought within 1 to 4095
abbrev pub number_on : Field → Vector → Vector → ℕ
number_on f u w = at_vector f.dims 1 (λ v. at_vector f.dims 1 (λ t. unwrap_or (cut_number (value f v) (value f t)) 1) w) u

abbrev pub cut_on : Field → Vector → Vector → ℤ
cut_on f u w = pos (max 1 (min 4095 (number_on f u w)))
