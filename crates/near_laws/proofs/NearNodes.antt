-- The nodes of every tetrahedron of a mesh stand near each other.
use Rattle.std.proofs.Common.{◌≡◌, ℕ, ◌<◌, ◌==◌, arith, refl, sym, ◌∙◌, ap, subst, inl, inr, true, List, [], ◌∷◌, map, length, get_or, pos}
use Rattle.std.specs.Prelude.{All}
use Rattle.std.specs.List.{AllByRecursion, list_all}
use Rattle.std.proofs.lemmas.Bool.{eqb-true}
use Rattle.std.proofs.lemmas.List.{get_or-map, length-map}
use Rattle.definitions.specs.declared.Sign.{Sign}
use Rattle.definitions.specs.declared.Vertex.{Vertex}
use Rattle.definitions.specs.Facets.{fill}
use Rattle.definitions.specs.Lattice.{id}
use Rattle.definitions.specs.Mesh.{all_pieces, mesh, node_keys, node_place, number_of, occurs, state_at, tet_pieces}
use Rattle.definitions.specs.Pieces.{corner_key, oriented}
use Rattle.definitions.specs.Places.{place}
use Rattle.definitions.specs.Soundness.{corner_places}
use Rattle.definitions.specs.States.{Shares, IsShares, sign_of_state, states}
use Rattle.definitions.specs.Stencils.{facets, kept}
use Rattle.definitions.specs.Tetrahedra.{IsLatticeTet, lattice_tets}
use Rattle.definitions.specs.Values.{Field}
use Rattle.definitions.specs.Vectors.{place_at}
use Rattle.determinants.specs.Bounds.{AreNear}
use Rattle.lattice_laws.specs.Ascending.{Has}
use Rattle.lattice_laws.specs.FiniteTests.{every_case}
use Rattle.lattice_laws.proofs.FiniteTests.{each_case}
use Rattle.lattice_laws.proofs.KeyOrder.{pieces_by_table, tet_ids_rise}
use Rattle.lattice_laws.proofs.ListedTetrahedra.{lattice_tets_listed}
use Rattle.lattice_laws.proofs.Lists.{all_at_member}
use Rattle.lattice_laws.proofs.Members.{from_flat_map, from_map}
use Rattle.lattice_laws.proofs.Sublists.{all_by_place, has_at}
use Rattle.node_laws.proofs.NumbersLeadBack.{numbers_lead_back}
use Rattle.node_laws.proofs.Padding.{states_are_padded}
use Rattle.node_laws.proofs.Pieces.{lattice_tet_uses_nodes, occurs_in}
use Rattle.node_laws.proofs.Standing.{keys_are_below}
use Rattle.stencil_laws.specs.Cases.{case_pieces}
use Rattle.stencil_laws.proofs.OrientedPieces.{length_oriented}
use Rattle.near_laws.specs.Near.{IsPlaced, NodesAreNear}
use Rattle.near_laws.proofs.NodeSpans.{node_among}
use Rattle.near_laws.proofs.Spans.{StandsAmong, among_within}

-- ---- a piece has four nodes

all_four : every_case (λ signs. list_all (λ p. length p == 4) (case_pieces signs)) ≡ true
unfolding fill facets kept
all_four = refl

piece_four : (tet : List Vertex) (ids : List ℕ) (signs : List Sign) (p : List ℕ) → length signs ≡ 4 → Has p (map (λ p. map (corner_key tet ids) (oriented tet p)) (case_pieces signs)) → length p ≡ 4
piece_four tet ids signs p len h =
    let r = from_map (λ p. map (corner_key tet ids) (oriented tet p)) p (case_pieces signs) h in
    let four = eqb-true (length r.0) 4 (all_at_member (λ p. length p == 4) (case_pieces signs) r.0 (each_case (λ signs. list_all (λ p. length p == 4) (case_pieces signs)) all_four signs len) r.1) in
    ap length (sym r.2) ∙ length-map (oriented tet r.0) (corner_key tet ids) ∙ length_oriented tet r.0 ∙ four

-- ---- a tetrahedron of the mesh

module _ (f : Field) (s : Shares) (small : IsShares s) where
  -- the number of a node leads to its place
  node_at : (tet : List Vertex) → IsLatticeTet f.dims tet → (key : ℕ) → occurs (tet_pieces f.dims (states f s) tet) key ≡ true →
      (number_of (node_keys f.dims (states f s)) key < length (mesh f s).places) × (place_at (mesh f s).places (number_of (node_keys f.dims (states f s)) key) ≡ node_place f (states f s) key)
  unfolding mesh
  node_at tet t key h =
      let o = lattice_tet_uses_nodes f.dims (states f s) tet key t h in
      let below = keys_are_below f.dims (states f s) key (states_are_padded f s) o in
      let fit = numbers_lead_back f.dims (states f s) in
      let number = number_of (node_keys f.dims (states f s)) key in
      let at = fit.below key o below in
      let count = length-map (node_keys f.dims (states f s)) (node_place f (states f s)) in (
        subst (λ n. number < n) (sym count) at,
        get_or-map (node_place f (states f s)) (node_keys f.dims (states f s)) number 0 (place (pos 0) (pos 0) (pos 0)) at ∙ ap (node_place f (states f s)) (fit.back key o below),
      )

  piece_placed : (tet : List Vertex) → IsLatticeTet f.dims tet → (p : List ℕ) → Has p (tet_pieces f.dims (states f s) tet) → length p ≡ 4 → IsPlaced (mesh f s).places (map (number_of (node_keys f.dims (states f s))) p)
  piece_placed tet t p h four = record { numbers = numbers; near = near }
    where
      key : ℕ → ℕ
      key i = get_or p i 0

      number : ℕ → ℕ
      number k = number_of (node_keys f.dims (states f s)) k

      here : (i : ℕ) → i < 4 → i < length p
      here i lt = omega (arith, four)

      occurs_key : (i : ℕ) → i < length p → occurs (tet_pieces f.dims (states f s) tet) (get_or p i 0) ≡ true
      occurs_key i lt = occurs_in (tet_pieces f.dims (states f s) tet) p (get_or p i 0) h (has_at p i 0 lt)

      numbers : All (λ n. n < length (mesh f s).places) (map (number_of (node_keys f.dims (states f s))) p)
      numbers = λ i z lt.
          let l : i < length p = subst (λ n. i < n) (length-map p (number_of (node_keys f.dims (states f s)))) lt in
          subst (λ n. n < length (mesh f s).places) (sym (get_or-map (number_of (node_keys f.dims (states f s))) p i 0 z l)) (node_at tet t (get_or p i 0) (occurs_key i l)).0

      among : (i : ℕ) → i < 4 → StandsAmong tet (place_at (corner_places (mesh f s).places (map (number_of (node_keys f.dims (states f s))) p)) i)
      among i lt =
          let l = here i lt in
          let m : i < length (map (number_of (node_keys f.dims (states f s))) p) = subst (λ n. i < n) (sym (length-map p (number_of (node_keys f.dims (states f s))))) l in
          subst (StandsAmong tet)
          (sym (get_or-map (place_at (mesh f s).places) (map (number_of (node_keys f.dims (states f s))) p) i 0 (place (pos 0) (pos 0) (pos 0)) m
          ∙ ap (place_at (mesh f s).places) (get_or-map (number_of (node_keys f.dims (states f s))) p i 0 0 l) ∙ (node_at tet t (get_or p i 0) (occurs_key i l)).1))
          (node_among f s small tet t (get_or p i 0) (occurs_key i l))

      near : AreNear (corner_places (mesh f s).places (map (number_of (node_keys f.dims (states f s))) p))
      near = λ i j hi hj. among_within f.dims tet t _ _ (among i hi) (among j hj)

  in_tet_four : (tet : List Vertex) → IsLatticeTet f.dims tet → (p : List ℕ) → Has p (tet_pieces f.dims (states f s) tet) → length p ≡ 4
  unfolding tet_pieces
  in_tet_four tet t p h =
      let ids = map (id f.dims) tet in
      let signs = map (λ n. sign_of_state (state_at (states f s) n)) ids in
      let len : length signs ≡ 4 = length-map ids (λ n. sign_of_state (state_at (states f s) n)) ∙ length-map tet (id f.dims) ∙ t.four in
      piece_four tet ids signs p len (subst (Has p) (pieces_by_table tet ids signs (tet_ids_rise f.dims tet t)) h)

  in_mesh : (tets : List (List ℕ)) → ((t : List ℕ) → Has t tets → IsPlaced (mesh f s).places t) → AllByRecursion (IsPlaced (mesh f s).places) tets
  in_mesh [] h = tt
  in_mesh (t ∷ tets) h = (h t (inl refl), in_mesh tets (λ u m. h u (inr m)))

  tet_placed : (t : List ℕ) → Has t (map (map (number_of (node_keys f.dims (states f s)))) (all_pieces f.dims (states f s))) → IsPlaced (mesh f s).places t
  unfolding all_pieces
  tet_placed t h =
      let r = from_map (map (number_of (node_keys f.dims (states f s)))) t (all_pieces f.dims (states f s)) h in
      let q = from_flat_map (tet_pieces f.dims (states f s)) r.0 (lattice_tets f.dims) r.1 in
      let l = (lattice_tets_listed f.dims q.0).0 q.1 in
      subst (IsPlaced (mesh f s).places) r.2 (piece_placed q.0 l r.0 q.2 (in_tet_four q.0 l r.0 q.2))

  tets_are : (mesh f s).tets ≡ map (map (number_of (node_keys f.dims (states f s)))) (all_pieces f.dims (states f s))
  unfolding mesh
  tets_are = refl

pub nodes_are_near : NodesAreNear
nodes_are_near f s small =
    subst (All (IsPlaced (mesh f s).places)) (sym (tets_are f s small))
    (all_by_place (IsPlaced (mesh f s).places) (map (map (number_of (node_keys f.dims (states f s)))) (all_pieces f.dims (states f s)))
    (in_mesh f s small (map (map (number_of (node_keys f.dims (states f s)))) (all_pieces f.dims (states f s))) (tet_placed f s small)))
