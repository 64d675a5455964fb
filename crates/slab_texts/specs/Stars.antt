-- Plus vertices stand at their lattice places, and so do the six lattice tetrahedra at a vertex where they are whole.
use Rattle.std.specs.Prelude.{◌≡◌, ℕ, ◌-◌, List, map}
use Rattle.definitions.specs.declared.Dims.{Dims}
use Rattle.definitions.specs.declared.Place.{Place}
use Rattle.definitions.specs.declared.State.{State}
use Rattle.definitions.specs.declared.Vertex.{Vertex}
use Rattle.definitions.specs.Lattice.{InDomain}
use Rattle.definitions.specs.Places.{lattice_place}
use Rattle.definitions.specs.Soundness.{corner_places}
use Rattle.definitions.specs.Vectors.{place_at}
use Rattle.dihedral.specs.Stars.{star_at}
use Rattle.mesh_lists.specs.Parts.{IsPlusNode, whole_tets}
use Rattle.vertex_numbers.specs.declared.Later.{Later}
use Rattle.slab_texts.specs.declared.nodes.Nodes.{Nodes}
use Rattle.slab_texts.specs.Nodes.{AreInRow}
use Rattle.slab_texts.specs.Texts.{IsAmong}

-- each Plus vertex among these nodes does
abbrev pub PlusOnLattice : Dims → List State → Nodes → Type 0
PlusOnLattice d ss n = (v : Vertex) (number : ℕ) → InDomain d v → IsPlusNode d ss v number → IsAmong n number → place_at n.places.items (number - n.first) ≡ lattice_place v

-- nodes with these numbers stand as a vertex of the lattice and its neighbours upwards do
abbrev pub AreStar : Nodes → ℕ → Later → Type 0
AreStar n own later = (all : List Place) → AreInRow all n.first n.places.items → map (corner_places all) (whole_tets own later) ≡ star_at (place_at all own)
