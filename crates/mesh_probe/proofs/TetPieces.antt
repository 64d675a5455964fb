-- The pieces of a lattice tetrahedron as they stand in an array: their nodes, and the first that holds a point.
use Rattle.std.specs.Prelude.{ℕ, ◌+◌, ◌/◌, ◌<◌, ◌≤◌, List, [], ◌∷◌, length, map, pos}
use Rattle.std.proofs.Common.{◌≡◌, sym, ap, subst, ◌∙◌, inl, inr, ◌⊎◌, get_or, take}
use Rattle.std.proofs.lemmas.List.{get_or-map, take_all, take_more}
use Rattle.std.proofs.lemmas.Simd.{map-map}
use Rattle.definitions.specs.declared.Vertex.{Vertex}
use Rattle.definitions.specs.declared.Place.{Place}
use Rattle.definitions.specs.declared.Sign.{Sign}
use Rattle.definitions.specs.declared.State.{State}
use Rattle.definitions.specs.declared.State.TheVariants as state
use Rattle.definitions.specs.Lattice.{InDomain, id, vertex}
use Rattle.definitions.specs.Values.{Field}
use Rattle.definitions.specs.States.{Shares, IsShares, sign_of_state, state_of, states}
use Rattle.definitions.specs.Tetrahedra.{IsLatticeTet}
use Rattle.definitions.specs.Pieces.{pieces, slot}
use lib.Signed.{◌<ℤ◌}
use Rattle.definitions.specs.Mesh.{node_place, state_at, tet_pieces}
use Rattle.definitions.specs.Vectors.{det}
use Rattle.determinants.specs.Bounds.{AreNear}
use Rattle.lattice_laws.specs.Ascending.{Has}
use Rattle.lattice_laws.proofs.Members.{from_append, place_of, map_same}
use Rattle.lattice_laws.proofs.Sublists.{has_at}
use Rattle.parent_laws.proofs.Parents.{state_at_id}
use Rattle.mesh_lists.proofs.Pieces.{HasPieces, has_pieces, of_front}
use Rattle.mesh_probe.specs.Found.{AreStatesAt, IsFirstOf, NoneHolds}
use Rattle.mesh_probe.specs.Holding.{Holds, weights}
use Rattle.mesh_probe.proofs.PieceNodes.{piece_nodes}

module _ (f : Field) (s : Shares) (is : IsShares s) (tet : List Vertex) (ids : List ℕ) (told : List State) (signs : List Sign) (len : ℕ) (of : List (List ℕ)) (l : IsLatticeTet f.dims tet)
    (e : ids ≡ map (id f.dims) tet) (t : told ≡ map (state_of f s) tet) where
  inside : (v : Vertex) → Has v tet → InDomain f.dims v
  inside v m = let p = place_of (vertex 0 0 0) v tet m in subst (InDomain f.dims) p.2 (l.within p.0 (vertex 0 0 0) p.1)

  signs_are : signs ≡ map sign_of_state told → signs ≡ map (λ n. sign_of_state (state_at (states f s) n)) ids
  signs_are g =
      g ∙ ap (map sign_of_state) t ∙ map-map sign_of_state (state_of f s) tet
      ∙ map_same (λ v. sign_of_state (state_of f s v)) (λ v. sign_of_state (state_at (states f s) (id f.dims v))) tet (λ v m. ap sign_of_state (sym (state_at_id f s v (inside v m))))
      ∙ sym (map-map (λ n. sign_of_state (state_at (states f s) n)) (id f.dims) tet) ∙ ap (map (λ n. sign_of_state (state_at (states f s) n))) (sym e)

  pub at_states : AreStatesAt (states f s) ids told
  at_states j h =
      let lt : j < length tet = subst (λ m. j < m) (sym l.four) h in
      ap (λ ns. state_at (states f s) (get_or ns j 0)) e
      ∙ ap (state_at (states f s)) (get_or-map (id f.dims) tet j (vertex 0 0 0) 0 lt)
      ∙ state_at_id f s (slot tet j) (l.within j (vertex 0 0 0) lt)
      ∙ sym (get_or-map (state_of f s) tet j (vertex 0 0 0) state.Minus lt)
      ∙ ap (λ us. get_or us j state.Minus) (sym t)

  pub here : signs ≡ map sign_of_state told → take len of ≡ pieces tet ids signs → len ≡ length (pieces tet ids signs) → HasPieces f.dims (states f s) tet len of
  here g front count = has_pieces f.dims (states f s) tet ids signs len of e (signs_are g) front count

  module _ (h : HasPieces f.dims (states f s) tet len of) (n : ℕ) (lt : n < len) where
    within : n < length (tet_pieces f.dims (states f s) tet)
    within = subst (λ m. n < m) h.count lt

    keys_are : get_or of n [] ≡ get_or (tet_pieces f.dims (states f s) tet) n []
    keys_are = of_front len n of (tet_pieces f.dims (states f s) tet) [] h.front lt

    member : Has (get_or of n []) (tet_pieces f.dims (states f s) tet)
    member = subst (λ ks. Has ks (tet_pieces f.dims (states f s) tet)) (sym keys_are) (has_at (tet_pieces f.dims (states f s) tet) n [] within)

    pub vertices_of : (k : ℕ) → Has k (get_or of n []) → Has (k / 8) ids
    vertices_of k m = subst (Has (k / 8)) (sym e) ((piece_nodes f s is tet l (get_or of n []) member).vertex k m)

    pub places_near : (places : List Place) → places ≡ map (node_place f (states f s)) (get_or of n []) → AreNear places
    places_near places q = subst AreNear (sym q) (piece_nodes f s is tet l (get_or of n []) member).are_near

    pub volume_positive : (places : List Place) → places ≡ map (node_place f (states f s)) (get_or of n []) → pos 0 <ℤ det places
    volume_positive places q = subst (λ ps. pos 0 <ℤ det ps) (sym q) (piece_nodes f s is tet l (get_or of n []) member).positive

    pub none_more : (places : List Place) (p : Place) → places ≡ map (node_place f (states f s)) (get_or of n []) → NoneHolds f s p (take n (tet_pieces f.dims (states f s) tet)) → (Holds places p → ⊥) → NoneHolds f s p (take (n + 1) (tet_pieces f.dims (states f s) tet))
    none_more places p q none never keys m g = go (from_append keys (take n (tet_pieces f.dims (states f s) tet)) (get_or (tet_pieces f.dims (states f s) tet) n [] ∷ []) (subst (Has keys) (take_more (tet_pieces f.dims (states f s) tet) n [] within) m))
      where
        go : Has keys (take n (tet_pieces f.dims (states f s) tet)) ⊎ Has keys (get_or (tet_pieces f.dims (states f s) tet) n [] ∷ []) → ⊥
        go (inl k) = none keys k g
        go (inr (inl k)) = never (subst (λ ps. Holds ps p) (sym (q ∙ ap (map (node_place f (states f s))) (keys_are ∙ k))) g)
        go (inr (inr k)) = absurd k

    pub is_first : (places : List Place) (p : Place) (ws : List ℕ) → places ≡ map (node_place f (states f s)) (get_or of n []) → NoneHolds f s p (take n (tet_pieces f.dims (states f s) tet)) → map pos ws ≡ weights places p
        → IsFirstOf f s p (tet_pieces f.dims (states f s) tet) n (get_or of n []) ws
    is_first places p ws q none w = record { within = within; nodes_are = keys_are; weights_are = w ∙ ap (λ ps. weights ps p) q; first = none }

  pub none_of_all : (p : Place) (n : ℕ) → HasPieces f.dims (states f s) tet len of → len ≤ n → NoneHolds f s p (take n (tet_pieces f.dims (states f s) tet)) → NoneHolds f s p (tet_pieces f.dims (states f s) tet)
  none_of_all p n h le none = subst (NoneHolds f s p) (take_all n (tet_pieces f.dims (states f s) tet) (subst (λ m. m ≤ n) h.count le)) none
