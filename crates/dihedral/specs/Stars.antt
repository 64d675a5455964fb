-- The star of a vertex that has neighbours upwards in all directions: the six lattice tetrahedra of which it is the lowest vertex, where it and these stand at their lattice places.
use Rattle.std.specs.Prelude.{ℕ, List, [], ◌∷◌, pos, ◌*ℤ◌}
use Rattle.definitions.specs.declared.Place.{Place}
use Rattle.definitions.specs.Cuts.{scale}
use Rattle.definitions.specs.Lattice.{step}
use Rattle.definitions.specs.Places.{along, place}
use Rattle.dihedral.specs.declared.shape.Shape.{Shape}
use Rattle.dihedral.specs.Shapes.{shape_by}

-- the place of a vertex's neighbour upwards in a direction, and the vector to it
abbrev pub neighbour_of : Place → ℕ → Place
neighbour_of own dir = along own (step dir) scale

abbrev pub vector_to : ℕ → Place
vector_to dir = place ((step dir).x *ℤ pos scale) ((step dir).y *ℤ pos scale) ((step dir).h *ℤ pos scale)

-- the places of the six, their volumes above zero, and their shapes
abbrev pub star_at : Place → List (List Place)
star_at own =
    (own ∷ neighbour_of own 1 ∷ neighbour_of own 6 ∷ neighbour_of own 4 ∷ [])
    ∷ (own ∷ neighbour_of own 2 ∷ neighbour_of own 5 ∷ neighbour_of own 6 ∷ [])
    ∷ (own ∷ neighbour_of own 3 ∷ neighbour_of own 4 ∷ neighbour_of own 7 ∷ [])
    ∷ (own ∷ neighbour_of own 3 ∷ neighbour_of own 7 ∷ neighbour_of own 5 ∷ [])
    ∷ (own ∷ neighbour_of own 4 ∷ neighbour_of own 6 ∷ neighbour_of own 7 ∷ [])
    ∷ (own ∷ neighbour_of own 5 ∷ neighbour_of own 7 ∷ neighbour_of own 6 ∷ [])
    ∷ []

abbrev pub star_shapes : List Shape
star_shapes =
    shape_by (vector_to 1) (vector_to 6) (vector_to 4)
    ∷ shape_by (vector_to 2) (vector_to 5) (vector_to 6)
    ∷ shape_by (vector_to 3) (vector_to 4) (vector_to 7)
    ∷ shape_by (vector_to 3) (vector_to 7) (vector_to 5)
    ∷ shape_by (vector_to 4) (vector_to 6) (vector_to 7)
    ∷ shape_by (vector_to 5) (vector_to 7) (vector_to 6)
    ∷ []
