-- The pieces of the mesh by layers, what nodes they use, and how many there are in a lattice tetrahedron.
use Rattle.std.proofs.Common.{◌≡◌, ◌==◌, ℕ, true, List, [], ◌∷◌, ◌++◌, length, map, refl, ap, ◌∙◌}
use Rattle.std.specs.Prelude.{count_by, flat_map}
use Rattle.std.specs.List.{list_any, range_with_len}
use Rattle.std.proofs.lemmas.List.{length-map}
use Rattle.std.proofs.lemmas.List.Concat.{flat_map-append}
use Rattle.std.proofs.lemmas.List.Folds.{list_any_at}
use Rattle.definitions.specs.declared.Dims.{Dims}
use Rattle.definitions.specs.declared.Vertex.{Vertex}
use Rattle.definitions.specs.declared.State.{State}
use Rattle.definitions.specs.Lattice.{layer, layers, vertices}
use Rattle.definitions.specs.Tetrahedra.{IsLatticeTet, lattice_tets, tets_from}
use Rattle.definitions.specs.Pieces.{corner_key, oriented}
use Rattle.definitions.specs.Mesh.{all_pieces, occurs, tet_pieces}
use Rattle.lattice_laws.proofs.KeyOrder.{pieces_by_table}
use Rattle.lattice_laws.proofs.ListedTetrahedra.{lattice_tets_listed}
use Rattle.lattice_laws.proofs.Lists.{any_flat_map}
use Rattle.lattice_laws.specs.Ascending.{Has}
use Rattle.lattice_laws.proofs.Members.{place_of, any_of_member}
use Rattle.lattice_laws.specs.FiniteTests.{every_case}
use Rattle.lattice_laws.proofs.FiniteTests.{each_case}
use Rattle.std.proofs.lemmas.Bool.{eq-eqb, eqb-true}
use Rattle.definitions.specs.Facets.{fill}
use Rattle.definitions.specs.Stencils.{facets, is_minus, is_plus, kept}
use Rattle.stencil_laws.specs.Cases.{case_pieces}
use Rattle.node_laws.specs.Used.{shape_pieces}
use Rattle.node_laws.specs.Laws.{PieceCountsByShape, PieceCountsBySigns, PiecesJoin, PiecesUseNodes}

-- what f gives of each of the elements that g gives of each
pub flat_map_twice : {X Y Z : Type 0} (f : Y → List Z) (g : X → List Y) (xs : List X) → flat_map f (flat_map g xs) ≡ flat_map (λ x. flat_map f (g x)) xs
flat_map_twice f g [] = refl
flat_map_twice f g (x ∷ xs) = flat_map-append f (g x) (flat_map g xs) ∙ ap (λ zs. flat_map f (g x) ++ zs) (flat_map_twice f g xs)

-- all pieces are those of each layer, one after another
pub pieces_join : PiecesJoin
unfolding all_pieces lattice_tets vertices
pieces_join d ss =
    ap (flat_map (tet_pieces d ss)) (flat_map_twice (tets_from d) (layer d) (range_with_len 0 (layers d)))
    ∙ flat_map_twice (tet_pieces d ss) (λ h. flat_map (tets_from d) (layer d h)) (range_with_len 0 (layers d))

-- a node of a lattice tetrahedron's pieces is a node of the mesh
pub pieces_use_nodes : PiecesUseNodes
unfolding all_pieces
pieces_use_nodes d ss tet key h o =
    let k = place_of [] tet (lattice_tets d) h in
    any_flat_map (list_any (λ k. k == key)) (tet_pieces d ss) (lattice_tets d)
    ∙ list_any_at (λ t. occurs (tet_pieces d ss t) key) (lattice_tets d) k.0 [] k.1 (ap (λ t. occurs (tet_pieces d ss t) key) k.2 ∙ o)

-- and so of one that is told by the relation
pub lattice_tet_uses_nodes : (d : Dims) (ss : List State) (tet : List Vertex) (key : ℕ) → IsLatticeTet d tet → occurs (tet_pieces d ss tet) key ≡ true → occurs (all_pieces d ss) key ≡ true
lattice_tet_uses_nodes d ss tet key t o = pieces_use_nodes d ss tet key ((lattice_tets_listed d tet).1 t) o

-- a node of a piece in a list occurs in the list
pub occurs_in : (ps : List (List ℕ)) (p : List ℕ) (key : ℕ) → Has p ps → Has key p → occurs ps key ≡ true
occurs_in ps p key h k = any_of_member (list_any (λ k. k == key)) p ps h (any_of_member (λ k. k == key) key p k (eq-eqb key key refl))

-- how many pieces a lattice tetrahedron has follows from its signs
pub piece_counts_by_signs : PieceCountsBySigns
piece_counts_by_signs tet ids signs t = ap length (pieces_by_table tet ids signs t) ∙ length-map (case_pieces signs) (λ p. map (corner_key tet ids) (oriented tet p))

-- and from how many of these are Plus and Minus: all 81 cases
all_by_shape : every_case (λ signs. length (case_pieces signs) == shape_pieces (count_by is_plus signs) (count_by is_minus signs)) ≡ true
unfolding fill kept facets
all_by_shape = refl

pub piece_counts_by_shape : PieceCountsByShape
piece_counts_by_shape signs len =
    eqb-true (length (case_pieces signs)) (shape_pieces (count_by is_plus signs) (count_by is_minus signs))
    (each_case (λ signs. length (case_pieces signs) == shape_pieces (count_by is_plus signs) (count_by is_minus signs)) all_by_shape signs len)
