-- The nodes of a piece of a lattice tetrahedron: where they stand, which vertices they have, and that the piece is a tetrahedron of the mesh.
use Rattle.std.specs.Prelude.{ℕ, ◌/◌, ◌<◌, true, ◌==◌, List, [], length, map}
use Rattle.std.specs.List.{list_any}
use Rattle.std.proofs.Common.{◌≡◌, refl, sym, ap, subst, ◌∙◌, get_or}
use Rattle.std.proofs.Math.IntN.{pos}
use Rattle.std.proofs.lemmas.Bool.{eq-eqb}
use Rattle.std.proofs.lemmas.List.{length-map, get_or-map}
use Rattle.std.proofs.lemmas.Simd.{map-map}
use lib.Signed.{◌<ℤ◌}
use Rattle.definitions.specs.declared.Vertex.{Vertex}
use Rattle.definitions.specs.declared.Place.{Place}
use Rattle.definitions.specs.Lattice.{id}
use Rattle.definitions.specs.Values.{Field}
use Rattle.definitions.specs.States.{Shares, IsShares, state_of, states, sign_of_state}
use Rattle.definitions.specs.Places.{place}
use Rattle.definitions.specs.Tetrahedra.{IsLatticeTet, lattice_tets}
use Rattle.definitions.specs.Pieces.{corner_key, oriented, slot}
use Rattle.definitions.specs.Vectors.{det, place_at}
use Rattle.definitions.specs.Mesh.{mesh, all_pieces, occurs, node_keys, node_place, number_of, tet_pieces}
use Rattle.definitions.specs.Soundness.{corner_places, IsPositive}
use Rattle.determinants.specs.Bounds.{AreNear}
use Rattle.lattice_laws.specs.Ascending.{Has}
use Rattle.lattice_laws.proofs.ListedTetrahedra.{lattice_tets_listed}
use Rattle.lattice_laws.proofs.Members.{any_of_member, from_map, has_flat_map, has_map, place_of, map_same}
use Rattle.lattice_laws.proofs.Sublists.{has_at}
use Rattle.node_laws.proofs.NodesOfATetrahedron.{id_slot, node_slot}
use Rattle.node_laws.proofs.Pieces.{lattice_tet_uses_nodes}
use Rattle.stencil_laws.specs.Cases.{case_pieces}
use Rattle.parent_laws.specs.Parents.{signs_of}
use Rattle.parent_laws.proofs.Nodes.{piece_is, place_of_number}
use Rattle.stencil_laws.proofs.OrientedPieces.{length_oriented}
use Rattle.parent_laws.proofs.Parents.{pieces_by_keys}
use Rattle.near_laws.specs.Near.{IsPlaced}
use Rattle.near_laws.proofs.NearNodes.{nodes_are_near}
use Rattle.near_laws.proofs.NodeSpans.{node_among}
use Rattle.sound_laws.proofs.Positive.{tets_are_positive}
use Rattle.mesh_probe.specs.Holding.{Holds}
use Rattle.mesh_probe.specs.Near.{IsNear}
use Rattle.mesh_probe.proofs.HeldPoints.{held_near}
use Rattle.mesh_probe.proofs.NearNodes.{near_lowest}

module _ (f : Field) (s : Shares) (is : IsShares s) (tet : List Vertex) (l : IsLatticeTet f.dims tet) where
  abbrev number : ℕ → ℕ
  number = number_of (node_keys f.dims (states f s))

  -- what a piece of a lattice tetrahedron has
  pub record PieceNodes (keys : List ℕ) : Type 0 where
    pub four : length keys ≡ 4
    pub vertex : (k : ℕ) → Has k keys → Has (k / 8) (map (id f.dims) tet)
    pub near : (k : ℕ) → Has k keys → IsNear (slot tet 0) (node_place f (states f s) k)
    pub places : corner_places (mesh f s).places (map number keys) ≡ map (node_place f (states f s)) keys
    pub are_near : AreNear (map (node_place f (states f s)) keys)
    pub positive : pos 0 <ℤ det (map (node_place f (states f s)) keys)

  module _ (keys : List ℕ) (m : Has keys (tet_pieces f.dims (states f s) tet)) where
    occurs_here : (k : ℕ) → Has k keys → occurs (tet_pieces f.dims (states f s) tet) k ≡ true
    occurs_here k h = any_of_member (list_any (λ n. n == k)) keys (tet_pieces f.dims (states f s) tet) m (any_of_member (λ n. n == k) k keys h (eq-eqb k k refl))

    four_nodes : length keys ≡ 4
    four_nodes =
        let key = corner_key tet (map (id f.dims) tet) in
        let r = from_map (λ p. map key (oriented tet p)) keys (case_pieces (signs_of f s tet)) (subst (Has keys) (pieces_by_keys f s tet l) m) in
        ap length (sym r.2) ∙ length-map (oriented tet r.0) key ∙ length_oriented tet r.0 ∙ (piece_is (signs_of f s tet) r.0 (length-map tet (λ v. sign_of_state (state_of f s v)) ∙ l.four) r.1).four

    vertex_here : (k : ℕ) → Has k keys → Has (k / 8) (map (id f.dims) tet)
    vertex_here k h =
        let r = node_slot f.dims (states f s) tet l k (occurs_here k h) in
        let count = length-map tet (id f.dims) ∙ l.four in
        let lt : r.0 < length (map (id f.dims) tet) = subst (λ n. r.0 < n) (sym count) r.1 in
        subst (λ n. Has n (map (id f.dims) tet)) (id_slot f.dims (states f s) tet l k r.0 r.1 ∙ sym r.2) (has_at (map (id f.dims) tet) r.0 0 lt)

    in_mesh : Has (map number keys) (mesh f s).tets
    unfolding mesh all_pieces
    in_mesh = has_map (map number) keys (all_pieces f.dims (states f s)) (has_flat_map (tet_pieces f.dims (states f s)) tet keys (lattice_tets f.dims) ((lattice_tets_listed f.dims tet).1 l) m)

    places_here : corner_places (mesh f s).places (map number keys) ≡ map (node_place f (states f s)) keys
    places_here =
        map-map (place_at (mesh f s).places) number keys
        ∙ map_same (λ k. place_at (mesh f s).places (number k)) (node_place f (states f s)) keys
        (λ k h. place_of_number f s k (lattice_tet_uses_nodes f.dims (states f s) tet k l (occurs_here k h)))

    is_positive : IsPositive (mesh f s).places (map number keys)
    is_positive = let p = place_of [] (map number keys) (mesh f s).tets in_mesh in subst (IsPositive (mesh f s).places) p.2 (tets_are_positive f s is p.0 [] p.1)

    is_placed : IsPlaced (mesh f s).places (map number keys)
    is_placed = let p = place_of [] (map number keys) (mesh f s).tets in_mesh in subst (IsPlaced (mesh f s).places) p.2 (nodes_are_near f s is p.0 [] p.1)

    pub piece_nodes : PieceNodes keys
    piece_nodes = record {
      four = four_nodes;
      vertex = vertex_here;
      near = λ k h. near_lowest f.dims tet l (node_place f (states f s) k) (node_among f s is tet l k (occurs_here k h));
      places = places_here;
      are_near = subst AreNear places_here is_placed.near;
      positive = subst (λ ps. pos 0 <ℤ det ps) places_here is_positive;
    }

    -- a point that the piece holds is near the lowest vertex
    pub holds_near : (p : Place) → Holds (map (node_place f (states f s)) keys) p → IsNear (slot tet 0) p
    holds_near p h = held_near (map (node_place f (states f s)) keys) p piece_nodes.positive h (slot tet 0) (λ i lt.
        let here : i < length keys = subst (λ n. i < n) (sym four_nodes) lt in
        subst (IsNear (slot tet 0)) (sym (get_or-map (node_place f (states f s)) keys i 0 (place (pos 0) (pos 0) (pos 0)) here)) (piece_nodes.near (get_or keys i 0) (has_at keys i 0 here)))
