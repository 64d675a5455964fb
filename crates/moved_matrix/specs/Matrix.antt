-- The matrix of a lattice tetrahedron whose vertices are moved: each moved vertex as a weighted sum of the four lattice vertices, in 8192 parts.
use Rattle.std.specs.Prelude.{◌≡◌, List, [], slice_index_or}
use Rattle.std.proofs.Math.IntN.{ℤ}
use Rattle.definitions.specs.declared.Place.{Place}
use Rattle.definitions.specs.declared.Vertex.{Vertex}
use Rattle.definitions.specs.Pieces.{slot}
use Rattle.definitions.specs.Vectors.{place_at}
use Rattle.lattice_laws.specs.Vectors.{◌+ᵥ◌}
use Rattle.lattice_laws.specs.Kinds.{Kind, Slot, number_of_slot, offset, vector_of}
use Rattle.moved_lattice.specs.Duals.{dual}
use Rattle.moved_matrix.specs.Moved.{by_slot}

-- the row of a slot
abbrev pub row_of : List (List ℤ) → Slot → Slot → ℤ
row_of m s = by_slot (slice_index_or m (number_of_slot s) [])

-- the vertices stand as those of a kind, from the lowest
abbrev pub StandsAs : List Vertex → Kind → Type 0
StandsAs tet κ = (s : Slot) → vector_of (slot tet (number_of_slot s)) ≡ vector_of (slot tet 0) +ᵥ offset κ s

-- four places are the forms that give a point's weights
abbrev pub AreForms : List Place → Kind → Type 0
AreForms forms κ = (s : Slot) → place_at forms (number_of_slot s) ≡ dual κ s
