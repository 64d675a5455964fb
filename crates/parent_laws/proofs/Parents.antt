-- Where the tetrahedra of a mesh come from.
use Rattle.std.specs.Prelude.{ℕ, zero, suc, ◌<◌, List, [], ◌∷◌, ◌++◌, length, map, flat_map}
use Rattle.std.proofs.Common.{◌≡◌, refl, sym, ap, subst, ◌∙◌, arith, inl, inr, get_or}
use Rattle.std.proofs.lemmas.List.{map-append, get_or-map}
use Rattle.std.proofs.lemmas.Simd.{map-map}
use Rattle.definitions.specs.declared.Vertex.{Vertex}
use Rattle.definitions.specs.declared.Corner.{Corner}
use Rattle.definitions.specs.declared.State.TheVariants as state
use Rattle.definitions.specs.Lattice.{InDomain, id, vertex, vertices}
use Rattle.definitions.specs.Values.{Field}
use Rattle.definitions.specs.States.{Shares, state_of, states, sign_of_state}
use Rattle.definitions.specs.Tetrahedra.{IsLatticeTet, lattice_tets}
use Rattle.definitions.specs.Pieces.{corner_key, oriented, slot}
use Rattle.definitions.specs.Mesh.{mesh, tet_pieces, all_pieces, state_at, node_keys, number_of}
use Rattle.lattice_laws.specs.Ascending.{Has}
use Rattle.lattice_laws.specs.Vectors.{Vector, ◌+ᵥ◌, vector}
use Rattle.std.proofs.Math.IntN.{ℤ, pos, ◌+ℤ◌}
use Rattle.std.proofs.lemmas.Int.{ints}
use Rattle.definitions.specs.declared.Sign.TheVariants.{Minus}
use Rattle.lattice_laws.specs.Kinds.{Kind, kind_146, vector_of, tet_of_kind, KindOfTet}
use Rattle.lattice_laws.proofs.KeyOrder.{pieces_by_table, tet_ids_rise}
use Rattle.lattice_laws.proofs.Laws.{tets_are_of_six_kinds}
use Rattle.lattice_laws.proofs.ListedTetrahedra.{lattice_tets_listed}
use Rattle.lattice_laws.proofs.Members.{from_flat_map, from_map, flat_map_same, map_same}
use Rattle.lattice_laws.proofs.Vertices.{vertex_at-id}
use Rattle.stencil_laws.specs.Cases.{case_pieces, four_signs}
use Rattle.piece_laws.specs.Renaming.{vertex_at, signs_at}
use Rattle.parent_laws.specs.Everywhere.{sign_on}
use Rattle.parent_laws.specs.Parents.{signs_of, node_number, tets_of, StandsAt, Parent}
use Rattle.parent_laws.specs.Laws.{TetsArePieces, TetsHaveParents}
use Rattle.parent_laws.proofs.Everywhere.{at_vertex}
use Rattle.parent_laws.proofs.LatticeVectors.{vertex_on_lattice}
use Rattle.lattice_laws.proofs.Lists.{four_of}

-- ---- lists
map_of_flat_map : {X Y Z : Type 0} (g : Y → Z) (f : X → List Y) (xs : List X) → map g (flat_map f xs) ≡ flat_map (λ x. map g (f x)) xs
map_of_flat_map g f [] = refl
map_of_flat_map g f (x ∷ xs) = map-append g (f x) (flat_map f xs) ∙ ap (λ ys. map g (f x) ++ ys) (map_of_flat_map g f xs)

module _ (f : Field) (s : Shares) where
  -- the state of a vertex, by its id
  pub state_at_id : (v : Vertex) → InDomain f.dims v → state_at (states f s) (id f.dims v) ≡ state_of f s v
  unfolding states
  state_at_id v k =
      let i = vertex_at-id f.dims v k in
      get_or-map (state_of f s) (vertices f.dims) (id f.dims v) (vertex 0 0 0) state.Minus i.0 ∙ ap (state_of f s) i.1

  member_inside : (tet : List Vertex) → IsLatticeTet f.dims tet → (v : Vertex) → Has v tet → InDomain f.dims v
  member_inside tet t v m = all_at tet (λ n h. t.within n (vertex 0 0 0) h) v m
    where
      all_at : (vs : List Vertex) → ((n : ℕ) → n < length vs → InDomain f.dims (get_or vs n (vertex 0 0 0))) → (v : Vertex) → Has v vs → InDomain f.dims v
      all_at [] h v m = absurd m
      all_at (u ∷ us) h v (inl e) = subst (InDomain f.dims) e (h 0 (omega arith))
      all_at (u ∷ us) h v (inr m) = all_at us (λ n l. h (suc n) (omega arith)) v m

  -- the signs of a lattice tetrahedron, by the ids of its vertices
  signs_by_ids : (tet : List Vertex) → IsLatticeTet f.dims tet → map (λ n. sign_of_state (state_at (states f s) n)) (map (id f.dims) tet) ≡ signs_of f s tet
  signs_by_ids tet t =
      map-map (λ n. sign_of_state (state_at (states f s) n)) (id f.dims) tet
      ∙ map_same (λ v. sign_of_state (state_at (states f s) (id f.dims v))) (λ v. sign_of_state (state_of f s v)) tet (λ v m. ap sign_of_state (state_at_id v (member_inside tet t v m)))

  -- the pieces of a lattice tetrahedron by their keys
  pub pieces_by_keys : (tet : List Vertex) → IsLatticeTet f.dims tet → tet_pieces f.dims (states f s) tet ≡ map (λ p. map (corner_key tet (map (id f.dims) tet)) (oriented tet p)) (case_pieces (signs_of f s tet))
  unfolding tet_pieces
  pieces_by_keys tet t =
      pieces_by_table tet (map (id f.dims) tet) (map (λ n. sign_of_state (state_at (states f s) n)) (map (id f.dims) tet)) (tet_ids_rise f.dims tet t)
      ∙ ap (λ signs. map (λ p. map (corner_key tet (map (id f.dims) tet)) (oriented tet p)) (case_pieces signs)) (signs_by_ids tet t)

  numbered : (tet : List Vertex) → IsLatticeTet f.dims tet → map (map (number_of (node_keys f.dims (states f s)))) (tet_pieces f.dims (states f s) tet) ≡ tets_of f s tet
  numbered tet t =
      let n = number_of (node_keys f.dims (states f s)) in
      let k = corner_key tet (map (id f.dims) tet) in
      ap (map (map n)) (pieces_by_keys tet t)
      ∙ (map-map (map n) (λ p. map k (oriented tet p)) (case_pieces (signs_of f s tet))
      ∙ map_same (λ p. map n (map k (oriented tet p))) (λ p. map (λ c. n (k c)) (oriented tet p)) (case_pieces (signs_of f s tet)) (λ p m. map-map n k (oriented tet p)))

-- the tetrahedra of the mesh are the pieces of the lattice tetrahedra, in order
pub tets_are_pieces : TetsArePieces
unfolding mesh all_pieces
tets_are_pieces f s =
    map_of_flat_map (map (number_of (node_keys f.dims (states f s)))) (tet_pieces f.dims (states f s)) (lattice_tets f.dims)
    ∙ flat_map_same (λ tet. map (map (number_of (node_keys f.dims (states f s)))) (tet_pieces f.dims (states f s) tet)) (tets_of f s) (lattice_tets f.dims) (λ tet m. numbered f s tet ((lattice_tets_listed f.dims tet).0 m))

-- ---- a lattice tetrahedron as one of a kind
pub record KindAt (f : Field) (s : Shares) (tet : List Vertex) : Type 0 where
  pub base : Vector
  pub kind : Kind
  pub stands : StandsAt f s tet base kind

module _ (f : Field) (s : Shares) where
  from_origin : (p : Vector) → p ≡ p +ᵥ vector (pos 0) (pos 0) (pos 0)
  from_origin p = λ i. vector (go p.x i) (go p.y i) (go p.z i)
    where
      go : (z : ℤ) → z ≡ z +ℤ pos 0
      go z = omega (arith, ints)

  four_stand : (t u v w : Vertex) → IsLatticeTet f.dims (t ∷ u ∷ v ∷ w ∷ []) → KindOfTet t u v w → KindAt f s (t ∷ u ∷ v ∷ w ∷ [])
  four_stand t u v w l (tet_of_kind κ eu ev ew) =
      let inside : (n : ℕ) → n < 4 → InDomain f.dims (slot (t ∷ u ∷ v ∷ w ∷ []) n) = λ n h. l.within n (vertex 0 0 0) h in
      record { base = vector_of t; kind = κ; stands = record { on_lattice = vertex_on_lattice f.dims t (inside 0 (omega arith)); slots = slots; signs = signs inside } }
    where
      slots : (j : ℕ) → j < 4 → vector_of (slot (t ∷ u ∷ v ∷ w ∷ []) j) ≡ vertex_at (vector_of t) κ j
      slots zero h = first κ
        where
          first : (κ : Kind) → vector_of t ≡ vertex_at (vector_of t) κ 0
          first kind_146 = from_origin (vector_of t)
          first κ = from_origin (vector_of t)
      slots (suc zero) h = eu
      slots (suc (suc zero)) h = ev
      slots (suc (suc (suc zero))) h = ew
      slots (suc (suc (suc (suc j)))) h = absurd (omega arith)

      sign_is : (v : Vertex) (u : Vector) → InDomain f.dims v → vector_of v ≡ u → sign_of_state (state_of f s v) ≡ sign_on f s u
      sign_is v u k e = sym (at_vertex f.dims Minus (λ v. sign_of_state (state_of f s v)) v k) ∙ ap (sign_on f s) e

      signs : ((n : ℕ) → n < 4 → InDomain f.dims (slot (t ∷ u ∷ v ∷ w ∷ []) n)) → signs_of f s (t ∷ u ∷ v ∷ w ∷ []) ≡ signs_at (sign_on f s) (vector_of t) κ
      signs inside =
          λ i. four_signs (sign_is t _ (inside 0 (omega arith)) (slots 0 (omega arith)) i) (sign_is u _ (inside 1 (omega arith)) (slots 1 (omega arith)) i)
          (sign_is v _ (inside 2 (omega arith)) (slots 2 (omega arith)) i) (sign_is w _ (inside 3 (omega arith)) (slots 3 (omega arith)) i)

  -- each lattice tetrahedron stands as one of a kind
  pub kind_at : (tet : List Vertex) → IsLatticeTet f.dims tet → KindAt f s tet
  kind_at tet l =
      let v = four_of tet l.four in
      let m : IsLatticeTet f.dims (v.0 ∷ v.1 ∷ v.2 ∷ v.3 ∷ []) = subst (IsLatticeTet f.dims) v.4 l in
      subst (KindAt f s) (sym v.4) (four_stand v.0 v.1 v.2 v.3 m (tets_are_of_six_kinds f.dims v.0 v.1 v.2 v.3 m))

  -- where a piece is of a lattice tetrahedron, that is its parent
  pub parent_of : (tet : List Vertex) (t : List ℕ) → IsLatticeTet f.dims tet → (p : List Corner) → Has p (case_pieces (signs_of f s tet)) → t ≡ map (node_number f s tet) (oriented tet p) → Parent f s t
  parent_of tet t l p m e =
      let k = kind_at tet l in
      record { tet = tet; lattice = l; base = k.base; kind = k.kind; stands = k.stands; piece = p; in_case = subst (λ signs. Has p (case_pieces signs)) k.stands.signs m; nodes = e }

pub tets_have_parents : TetsHaveParents
tets_have_parents f s t m =
    let r = from_flat_map (tets_of f s) t (lattice_tets f.dims) (subst (Has t) (tets_are_pieces f s) m) in
    let q = from_map (λ p. map (node_number f s r.0) (oriented r.0 p)) t (case_pieces (signs_of f s r.0)) r.2 in
    parent_of f s r.0 t ((lattice_tets_listed f.dims r.0).0 r.1) q.0 q.1 (sym q.2)
