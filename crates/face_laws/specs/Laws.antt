-- What is proved of both sides of the faces of lattice tetrahedra.
use Rattle.std.specs.Prelude.{◌≡◌, ◌<◌, ℕ, true, IsTrue, List, length, map, slice_index, All, AllPairs}
use Rattle.std.specs.List.{list_all}
use Rattle.definitions.specs.declared.Dims.{Dims}
use Rattle.definitions.specs.declared.Vertex.{Vertex}
use Rattle.definitions.specs.declared.State.{State}
use Rattle.definitions.specs.declared.Sign.{Sign}
use Rattle.definitions.specs.Mesh.{ArePadded, all_pieces, mesh, node_keys, occurs}
use Rattle.definitions.specs.Soundness.{all_triangles, boundary, is_level_key}
use Rattle.definitions.specs.States.{Shares, states}
use Rattle.definitions.specs.Values.{Field}
use Rattle.definitions.specs.Tetrahedra.{IsLatticeTet}
use Rattle.definitions.specs.Lattice.{InDomain, before, are_neighbours}
use Rattle.definitions.specs.Pieces.{slot}
use Rattle.lattice_laws.specs.NumberedTetrahedra.{IsInner}
use Rattle.face_laws.specs.Shapes.{without}
use Rattle.face_laws.specs.Sides.{SidesFit}

-- The triangles of pieces fit together on faces, in each of the 81 cases.
abbrev pub SidesFitEachCase : Type 0
SidesFitEachCase = (signs : List Sign) → length signs ≡ 4 → SidesFit signs

-- Around a vertex that is no padding no lattice tetrahedron is missing: of four vertices in order, each two neighbours, all are in the domain where one of them is an inner one.
abbrev pub StarsAreWhole : Type 0
StarsAreWhole =
    (d : Dims) (tet : List Vertex) (m : ℕ) → length tet ≡ 4 → AllPairs (λ u v. IsTrue (before u v)) tet → AllPairs (λ u v. IsTrue (are_neighbours u v)) tet
    → m < 4 → InDomain d (slot tet m) → IsInner d (slot tet m) → IsLatticeTet d tet

-- another lattice tetrahedron with the same face: the one that lacks slot n here lacks slot `lacks` there
pub record OtherSide (d : Dims) (tet : List Vertex) (n : ℕ) : Type 0 where
  pub other : List Vertex
  pub lattice : IsLatticeTet d other
  pub lacks : ℕ
  pub lacks_low : lacks < 4
  pub same_face : without lacks other ≡ without n tet
  pub differs : other ≡ tet → ⊥

-- A face with a vertex that is no padding is that of two lattice tetrahedra.
abbrev pub FacesHaveTwoSides : Type 0
FacesHaveTwoSides = (d : Dims) (tet : List Vertex) (n m : ℕ) → IsLatticeTet d tet → n < 4 → m < 4 → (m ≡ n → ⊥) → IsInner d (slot tet m) → OtherSide d tet n

-- The nodes of the boundary are level: a triangle with a Plus vertex is in two pieces, of one lattice tetrahedron or of the two at its face.
abbrev pub BoundaryIsLevel : Type 0
BoundaryIsLevel = (d : Dims) (ss : List State) → ArePadded d ss → All (λ t. IsTrue (list_all (is_level_key ss) t)) (boundary (all_pieces d ss))

-- The boundary of tetrahedra whose nodes are numbered anew, where each number leads back to its node, is the boundary with its nodes numbered so.
abbrev pub BoundariesAreNumbered : Type 0
BoundariesAreNumbered =
    (number back : ℕ → ℕ) (tets : List (List ℕ)) → ((n : ℕ) → occurs (all_triangles tets) n ≡ true → back (number n) ≡ n)
    → boundary (map (map number) tets) ≡ map (map number) (boundary tets)

-- The nodes of the boundary of a field's mesh are level.
abbrev pub MeshBoundaryIsLevel : Type 0
MeshBoundaryIsLevel =
    (f : Field) (s : Shares)
    → All (λ t. IsTrue (list_all (λ n. is_level_key (states f s) (slice_index (node_keys f.dims (states f s)) n)) t)) (boundary (mesh f s).tets)
