-- The lattice tetrahedra whose lowest vertex is v, and the points that their pieces hold.
use Rattle.std.specs.Prelude.{ℕ, ◌+◌, ◌<◌, ◌&&◌, List, [], ◌∷◌, ◌++◌, length, filter, flat_map}
use Rattle.std.proofs.Common.{◌≡◌, sym, ap, subst, ◌∙◌, get_or, take}
use Rattle.std.proofs.lemmas.List.{length-append}
use Rattle.node_laws.proofs.Reach.{from_tets}
use Rattle.definitions.specs.declared.Dims.{Dims}
use Rattle.definitions.specs.declared.Vertex.{Vertex}
use Rattle.definitions.specs.declared.Place.{Place}
use Rattle.definitions.specs.Lattice.{InDomain, are_neighbours, before, vertices}
use Rattle.definitions.specs.Lists.{cliques}
use Rattle.definitions.specs.Values.{Field}
use Rattle.definitions.specs.States.{Shares, IsShares, states}
use Rattle.definitions.specs.Tetrahedra.{tets_from}
use Rattle.definitions.specs.Pieces.{slot}
use Rattle.definitions.specs.Mesh.{tet_pieces}
use Rattle.lattice_laws.specs.Ascending.{Has}
use Rattle.lattice_laws.proofs.Members.{from_flat_map, from_map}
use Rattle.mesh_probe.specs.Found.{IsFirstOf, NoneHolds, piece_places}
use Rattle.mesh_probe.specs.Holding.{Holds, pieces_from}
use Rattle.mesh_probe.specs.Near.{IsNear}
use Rattle.mesh_probe.proofs.FirstPieces.{first_behind, next_part, none_in_both, split}
use Rattle.mesh_probe.proofs.PieceNodes.{holds_near}

lowest_of : (d : Dims) (v : Vertex) (tet : List Vertex) → Has tet (tets_from d v) → slot tet 0 ≡ v
unfolding tets_from
lowest_of d v tet m =
    let r = from_map (λ c. v ∷ c) tet (cliques are_neighbours 3 (filter (λ w. before v w && are_neighbours v w) (vertices d))) m in
    ap (λ t. slot t 0) (sym r.2)

module _ (f : Field) (s : Shares) where
  -- a point that a piece of a lattice tetrahedron holds is near the lowest vertex
  pub held_near_lowest : IsShares s → (v : Vertex) → InDomain f.dims v → (keys : List ℕ) (p : Place) → Has keys (pieces_from f.dims (states f s) v) → Holds (piece_places f s keys) p → IsNear v p
  held_near_lowest is v k keys p m h =
      let r = from_flat_map (tet_pieces f.dims (states f s)) keys (tets_from f.dims v) m in
      subst (λ u. IsNear u p) (lowest_of f.dims v r.0 r.1) (holds_near f s is r.0 (from_tets f.dims v r.0 k r.1) keys r.2 p h)

  module _ (p : Place) (T : List (List Vertex)) (n : ℕ) (tet : List Vertex) (lt : n < length T) (e : tet ≡ get_or T n []) where
    abbrev part : List (List ℕ)
    part = flat_map (tet_pieces f.dims (states f s)) (take n T)

    abbrev more : List (List ℕ)
    more = flat_map (tet_pieces f.dims (states f s)) (take (n + 1) T)

    grown : more ≡ part ++ tet_pieces f.dims (states f s) tet
    grown = next_part (tet_pieces f.dims (states f s)) T n [] lt ∙ ap (λ t. part ++ tet_pieces f.dims (states f s) t) (sym e)

    pub length_more : (before len : ℕ) → before ≡ length part → len ≡ length (tet_pieces f.dims (states f s) tet) → before + len ≡ length more
    length_more before len h g = (λ i. h i + g i) ∙ sym (ap length grown ∙ length-append part (tet_pieces f.dims (states f s) tet))

    pub none_more : NoneHolds f s p part → NoneHolds f s p (tet_pieces f.dims (states f s) tet) → NoneHolds f s p more
    none_more h g = subst (NoneHolds f s p) (sym grown) (none_in_both f s p part (tet_pieces f.dims (states f s) tet) h g)

    pub first_of_all : (before rank : ℕ) (nodes ws : List ℕ) → before ≡ length part → NoneHolds f s p part → IsFirstOf f s p (tet_pieces f.dims (states f s) tet) rank nodes ws
        → IsFirstOf f s p (flat_map (tet_pieces f.dims (states f s)) T) (before + rank) nodes ws
    first_of_all before rank nodes ws h none g =
        let r = split (tet_pieces f.dims (states f s)) T n [] lt in
        subst (λ m. IsFirstOf f s p (flat_map (tet_pieces f.dims (states f s)) T) (m + rank) nodes ws) (sym h)
        (first_behind f s p part (tet_pieces f.dims (states f s) tet) r.0 (flat_map (tet_pieces f.dims (states f s)) T) rank nodes ws (r.1 ∙ ap (λ t. part ++ (tet_pieces f.dims (states f s) t ++ r.0)) (sym e)) none g)
