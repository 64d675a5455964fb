-- The angles of one tetrahedron by the places of its nodes.
use Rattle.std.specs.Prelude.{ℕ, List, [], ◌∷◌, map, slice_index, slice_index_or}
use Rattle.definitions.specs.declared.Place.{Place}
use Rattle.definitions.specs.declared.Extreme.{Extreme}
use Rattle.definitions.specs.Angles.{edges, edge_cosine}

-- the positions of edge 0 to 5
abbrev pub edge_at : ℕ → List ℕ
edge_at n = slice_index_or edges n []

-- the angle at an edge of tetrahedron t with these nodes at these places
abbrev pub angle_of : List Place → ℕ → List ℕ → List ℕ → Extreme
angle_of tet t nodes edge =
    record { cosine = edge_cosine tet edge; tet = t; ends = slice_index nodes (slice_index edge 0) ∷ slice_index nodes (slice_index edge 1) ∷ [] }

-- its six angles, in order
abbrev pub six_angles : List Place → ℕ → List ℕ → List Extreme
six_angles tet t nodes = map (angle_of tet t nodes) edges
