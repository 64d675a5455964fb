-- Where the tetrahedra of a mesh come from: each is a piece of a lattice tetrahedron, oriented, with its nodes numbered.
use Rattle.std.specs.Prelude.{◌≡◌, ◌<◌, ℕ, List, map}
use Rattle.std.proofs.Math.IntN.{pos, ◌+ℤ◌, neg_ℤ}
use Rattle.definitions.specs.declared.Vertex.{Vertex}
use Rattle.definitions.specs.declared.Sign.{Sign}
use Rattle.definitions.specs.declared.Corner.{Corner}
use Rattle.definitions.specs.declared.Corner.TheVariants.{Whole, Cut}
use Rattle.definitions.specs.declared.Place.{Place}
use Rattle.definitions.specs.Lattice.{id}
use Rattle.definitions.specs.Values.{Field}
use Rattle.definitions.specs.States.{Shares, state_of, states, sign_of_state}
use Rattle.definitions.specs.Tetrahedra.{IsLatticeTet}
use Rattle.definitions.specs.Pieces.{corner_key, oriented, slot}
use Rattle.definitions.specs.Mesh.{node_keys, number_of}
use Rattle.lattice_laws.specs.Ascending.{Has}
use Rattle.lattice_laws.specs.Vectors.{Vector, vector, origin, ◌+ᵥ◌, ◌*ᵥ◌}
use Rattle.lattice_laws.specs.Kinds.{Kind, vector_of}
use Rattle.moved_lattice.specs.WeightedSums.{IsLattice}
use Rattle.stencil_laws.specs.Cases.{case_pieces}
use Rattle.piece_laws.specs.Renaming.{vertex_at, signs_at}
use Rattle.parent_laws.specs.Everywhere.{sign_on, displacement_on, moved_vertex, cut_on}

-- the signs of vertices after snapping
abbrev pub signs_of : Field → Shares → List Vertex → List Sign
signs_of f s tet = map (λ v. sign_of_state (state_of f s v)) tet

-- the number of a node of a lattice tetrahedron, by its vertices
abbrev pub node_number : Field → Shares → List Vertex → Corner → ℕ
node_number f s tet c = number_of (node_keys f.dims (states f s)) (corner_key tet (map (id f.dims) tet) c)

-- the tetrahedra of the mesh in a lattice tetrahedron
abbrev pub tets_of : Field → Shares → List Vertex → List (List ℕ)
tets_of f s tet = map (λ p. map (node_number f s tet) (oriented tet p)) (case_pieces (signs_of f s tet))

-- a lattice tetrahedron stands as one of a kind at a base, with the signs there
pub record StandsAt (f : Field) (s : Shares) (tet : List Vertex) (base : Vector) (kind : Kind) : Type 0 where
  pub on_lattice : IsLattice base
  pub slots : (j : ℕ) → j < 4 → vector_of (slot tet j) ≡ vertex_at base kind j
  pub signs : signs_of f s tet ≡ signs_at (sign_on f s) base kind

-- a tetrahedron of the mesh: a piece of a lattice tetrahedron
pub record Parent (f : Field) (s : Shares) (t : List ℕ) : Type 0 where
  pub tet : List Vertex
  pub lattice : IsLatticeTet f.dims tet
  pub base : Vector
  pub kind : Kind
  pub stands : StandsAt f s tet base kind
  pub piece : List Corner
  pub in_case : Has piece (case_pieces (signs_at (sign_on f s) base kind))
  pub nodes : t ≡ map (node_number f s tet) (oriented tet piece)

-- a place, from the padding corner
abbrev pub from_padding : Place → Vector
from_padding p = p +ᵥ vector (pos 8192) (pos 8192) (pos 8192)

-- A place of a node of the tetrahedron of a kind at a base: that of a moved vertex, or that of the cut between two vertices that are not moved.
abbrev pub IsNodePlace : Field → Shares → Vector → Kind → Vector → Corner → Type 0
IsNodePlace f s b κ p (Whole a) = (a < 4) × (p ≡ moved_vertex f s (vertex_at b κ a))
IsNodePlace f s b κ p (Cut a c) =
    (a < c)
    × (c < 4)
    × (displacement_on f s (vertex_at b κ a) ≡ origin)
    × (displacement_on f s (vertex_at b κ c) ≡ origin)
    × (pos 4096 *ᵥ p ≡ (pos 4096 +ℤ neg_ℤ (cut_on f (vertex_at b κ a) (vertex_at b κ c))) *ᵥ (pos 4096 *ᵥ vertex_at b κ a) +ᵥ cut_on f (vertex_at b κ a) (vertex_at b κ c) *ᵥ (pos 4096 *ᵥ vertex_at b κ c))
