-- What is proved of where tetrahedra and nodes of a mesh come from.
use Rattle.std.specs.Prelude.{◌≡◌, ℕ, List, flat_map}
use Rattle.definitions.specs.Values.{Field}
use Rattle.definitions.specs.States.{Shares, IsShares}
use Rattle.definitions.specs.Tetrahedra.{lattice_tets}
use Rattle.definitions.specs.Mesh.{mesh}
use Rattle.definitions.specs.Vectors.{place_at}
use Rattle.definitions.specs.declared.Corner.{Corner}
use Rattle.lattice_laws.specs.Ascending.{Has}
use Rattle.lattice_laws.specs.Vectors.{Vector}
use Rattle.moved_lattice.specs.WeightedSums.{AreSmall}
use Rattle.displacement_laws.specs.Displacements.{IsDisplacement}
use Rattle.parent_laws.specs.Everywhere.{displacement_on}
use Rattle.parent_laws.specs.Parents.{tets_of, Parent, node_number, from_padding, IsNodePlace}

-- The tetrahedra of the mesh are, in order, the pieces of the lattice tetrahedra.
abbrev pub TetsArePieces : Type 0
TetsArePieces = (f : Field) (s : Shares) → (mesh f s).tets ≡ flat_map (tets_of f s) (lattice_tets f.dims)

-- Each of them is a piece of a lattice tetrahedron of a kind.
abbrev pub TetsHaveParents : Type 0
TetsHaveParents = (f : Field) (s : Shares) (t : List ℕ) → Has t (mesh f s).tets → Parent f s t

-- A node of a piece stands on its moved vertex, or on the cut of its edge.
abbrev pub NodesStandOnEdges : Type 0
NodesStandOnEdges =
    (f : Field) (s : Shares) (t : List ℕ) (o : Parent f s t) (c : Corner) → Has c o.piece
    → IsNodePlace f s o.base o.kind (from_padding (place_at (mesh f s).places (node_number f s o.tet c))) c

-- All vectors are displaced within the limits of their directions, and so by at most 2047 parts on each axis.
abbrev pub DisplacementsAreLimited : Type 0
DisplacementsAreLimited = (f : Field) (s : Shares) → IsShares s → ((u : Vector) → IsDisplacement (displacement_on f s u)) × AreSmall (displacement_on f s)
