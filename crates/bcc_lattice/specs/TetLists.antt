-- Lists of lattice tetrahedra, and four vertices with their ids as one tetrahedron.
use Rattle.std.specs.Prelude.{◌≡◌, ℕ, List, [], ◌∷◌, take, Option, Some, None, true, MatchOption}
use Rattle.definitions.specs.declared.Dims.{Dims}
use Rattle.definitions.specs.declared.Vertex.{Vertex}
use Rattle.definitions.specs.Lattice.{InDomain, id, neighbour}
use Rattle.bcc_lattice.specs.declared.tetrahedra.Tet.{Tet}
use Rattle.bcc_lattice.specs.declared.tetrahedra.TetsAt.{TetsAt}
use Rattle.bcc_lattice.specs.declared.tetrahedra.Numbered.{Numbered}

-- those that are there
abbrev pub tets_of : TetsAt → List Tet
tets_of tets = take tets.len tets.of

-- the id is the vertex's
pub record IsNumbered (d : Dims) (n : Numbered) : Type 0 where
  pub domain : InDomain d n.vertex
  pub number : n.id ≡ id d n.vertex

-- the later neighbour in a direction with its id, if it is there
abbrev pub NumbersNeighbour : Dims → Vertex → ℕ → Option Numbered → Type 0
NumbersNeighbour d v dir o = MatchOption o (neighbour d v dir true ≡ None) (λ n. (neighbour d v dir true ≡ Some n.vertex) × IsNumbered d n)

-- the tetrahedron of four vertices, if all are there
abbrev pub tet_of_four : Numbered → Option Numbered → Option Numbered → Option Numbered → Option Tet
tet_of_four v (Some a) (Some b) (Some c) =
    Some (record { at = v.vertex ∷ a.vertex ∷ b.vertex ∷ c.vertex ∷ []; ids = v.id ∷ a.id ∷ b.id ∷ c.id ∷ [] })
tet_of_four v a b c = None
