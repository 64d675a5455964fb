-- Four states, and the places of a tetrahedron's vertices.
use Rattle.std.specs.Prelude.{ℕ, List, slice_index_or}
use Rattle.std.proofs.Math.IntN.{ℤ, pos, ◌+ℤ◌, neg_ℤ}
use Rattle.definitions.specs.declared.Vertex.{Vertex}
use Rattle.definitions.specs.declared.State.{State}
use Rattle.definitions.specs.declared.State.TheVariants as state
use Rattle.definitions.specs.Pieces.{slot}
use Rattle.definitions.specs.Places.{lattice_place, state_place}
use Rattle.lattice_laws.specs.Vectors.{Vector}
use Rattle.lattice_laws.specs.Kinds.{Slot, number_of_slot}
use Rattle.displacement_laws.specs.Displacements.{IsNear, displacement}

abbrev pub state_in : List State → ℕ → State
state_in states s = slice_index_or states s state.Minus

abbrev pub is_near_at : List State → ℕ → Type 0
is_near_at states s = IsNear (state_in states s)

-- numbers of a list, by slots
abbrev pub by_slot : List ℤ → Slot → ℤ
by_slot ws s = slice_index_or ws (number_of_slot s) (pos 0)

-- by how much each weight changes
abbrev pub changes : List ℤ → List ℤ → Slot → ℤ
changes before after s = by_slot after s +ℤ neg_ℤ (by_slot before s)

-- the place of a vertex on the lattice, and how far its state is from it
abbrev pub place_at_slot : List Vertex → Slot → Vector
place_at_slot tet s = lattice_place (slot tet (number_of_slot s))

abbrev pub moved_at_slot : List Vertex → List State → Slot → Vector
moved_at_slot tet states s = state_place (slot tet (number_of_slot s)) (state_in states (number_of_slot s))

abbrev pub displacement_at : List Vertex → List State → Slot → Vector
displacement_at tet states s = displacement (slot tet (number_of_slot s)) (state_in states (number_of_slot s))
