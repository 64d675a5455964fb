-- Where a vertex and its neighbours upwards are all Plus, the lattice tetrahedra of which it is the lowest vertex are there in whole: six of them.
use Rattle.std.proofs.Common.{◌≡◌, ℕ, ◌+◌, ◌*◌, ◌/◌, ◌<◌, ◌≤◌, inl, inr, arith, refl, sym, ◌∙◌, ap, subst, Bool, true, false, ◌||◌, List, [], ◌∷◌, ◌++◌, map, Option, Some, None}
use Rattle.std.specs.Prelude.{⊤, flat_map, if◌then◌else◌, option_and_then, option_map}
use Rattle.std.specs.List.{cons_option}
use Rattle.std.proofs.lemmas.Bool.Decides.{nat_tests}
use Rattle.definitions.specs.declared.Corner.{Corner}
use Rattle.definitions.specs.declared.Corner.TheVariants.{Whole}
use Rattle.definitions.specs.declared.Dims.{Dims}
use Rattle.definitions.specs.declared.Sign.TheVariants.{Plus}
use Rattle.definitions.specs.declared.State.{State}
use Rattle.definitions.specs.declared.Vertex.{Vertex}
use Rattle.definitions.specs.Facets.{fill}
use Rattle.definitions.specs.Lattice.{InDomain, id, neighbour}
use Rattle.definitions.specs.Mesh.{ArePadded, all_pieces, node_keys, number_of, occurs, state_at, tet_pieces}
use Rattle.definitions.specs.Pieces.{corner_key, oriented, swap_last_two}
use Rattle.definitions.specs.States.{sign_of_state}
use Rattle.definitions.specs.Stencils.{facets, kept, same_corner}
use Rattle.definitions.specs.Tetrahedra.{IsLatticeTet, tets_from}
use Rattle.lattice_laws.specs.Ascending.{Has}
use Rattle.lattice_laws.proofs.KeyOrder.{pieces_by_table, tet_ids_rise}
use Rattle.lattice_laws.proofs.LaterNeighbours.{neighbour_to}
use Rattle.lattice_laws.proofs.Steps.{after_step_1, after_step_2, after_step_3, after_step_4, after_step_5, after_step_6, after_step_7}
use Rattle.lattice_laws.proofs.TetrahedraFromLowest.{tets_by_triples}
use Rattle.lattice_laws.proofs.Vertices.{domain_out}
use Rattle.node_laws.specs.Used.{told}
use Rattle.stencils.specs.Cases.{is_turned}
use Rattle.stencils.specs.Frames.{kind_number}
use Rattle.stencils.proofs.FramesOfKinds.{frame_at, frame_fits}
use Rattle.vertex_numbers.specs.Around.{has_plus_there, is_node, signs_towards}
use Rattle.vertex_numbers.specs.declared.Later.{Later}
use Rattle.vertex_numbers.specs.Later.{AreBelow, AreLater}
use Rattle.vertex_numbers.specs.Numbering.{HoldsKey, Numbering, number_in}
use Rattle.vertex_numbers.proofs.NodesTold.{node_occurs}
use Rattle.mesh_lists.specs.Layers.{AreFrom, NumbersLayers}
use Rattle.mesh_lists.specs.Parts.{AreNumbers, ArePlusNodes, IsPlusTowards, IsWhole, numbered_from, whole_tets}
use Rattle.mesh_lists.proofs.LowestNodes.{from_lowest}
use Rattle.mesh_lists.proofs.Layers.{vertex_held}

-- ---- one tetrahedron

abbrev all_four : List Corner
all_four = Whole 0 ∷ Whole 1 ∷ Whole 2 ∷ Whole 3 ∷ []

one_piece : fill same_corner (facets (Plus ∷ Plus ∷ Plus ∷ Plus ∷ [])) (kept (Plus ∷ Plus ∷ Plus ∷ Plus ∷ [])) ≡ all_four ∷ []
unfolding fill facets kept
one_piece = refl

-- which kind it is, by the first two of its upper vertices
pub kind_0 : (v a b : Vertex) → a.h ≡ v.h → a.y ≡ v.y → kind_number v a b ≡ 0
kind_0 v a b h y = grind (arith, nat_tests)

pub kind_1 : (v a b : Vertex) → a.h ≡ v.h → a.y ≡ v.y + 2 → kind_number v a b ≡ 1
kind_1 v a b h y = grind (arith, nat_tests)

pub kind_2 : (v a b : Vertex) → a.h ≡ v.h + 1 → a.y + 1 ≡ v.y → a.x + 1 ≡ v.x → b.y + 1 ≡ v.y → kind_number v a b ≡ 2
kind_2 v a b h y x z = grind (arith, nat_tests)

pub kind_3 : (v a b : Vertex) → a.h ≡ v.h + 1 → a.y + 1 ≡ v.y → a.x + 1 ≡ v.x → b.y ≡ v.y + 1 → kind_number v a b ≡ 3
kind_3 v a b h y x z = grind (arith, nat_tests)

pub kind_4 : (v a b : Vertex) → a.h ≡ v.h + 1 → a.y + 1 ≡ v.y → a.x ≡ v.x + 1 → kind_number v a b ≡ 4
kind_4 v a b h y x = grind (arith, nat_tests)

pub kind_5 : (v a b : Vertex) → a.h ≡ v.h + 1 → a.y ≡ v.y + 1 → kind_number v a b ≡ 5
kind_5 v a b h y = grind (arith, nat_tests)

module _ (d : Dims) (ss : List State) where
  abbrev is_plus_at : Vertex → Type 0
  is_plus_at w = sign_of_state (state_at ss (id d w)) ≡ Plus

  module _ (v a b c : Vertex) (t : IsLatticeTet d (v ∷ a ∷ b ∷ c ∷ [])) where
    abbrev tet : List Vertex
    tet = v ∷ a ∷ b ∷ c ∷ []

    abbrev keys : List ℕ
    keys = 8 * id d v ∷ 8 * id d a ∷ 8 * id d b ∷ 8 * id d c ∷ []

    turned_by_kind : (k : ℕ) (turned : Bool) → kind_number v a b ≡ k → (frame_at k).is_turned ≡ turned → is_turned tet ≡ turned
    turned_by_kind k turned e f = let fits = frame_fits tet (map (id d) tet) (tet_ids_rise d tet t) in sym fits.turned ∙ ap (λ n. (frame_at n).is_turned) e ∙ f

    module _ (pv : is_plus_at v) (pa : is_plus_at a) (pb : is_plus_at b) (pc : is_plus_at c) where
      whole_piece : tet_pieces d ss tet ≡ map (corner_key tet (map (id d) tet)) (oriented tet all_four) ∷ []
      unfolding tet_pieces
      whole_piece =
          pieces_by_table tet (map (id d) tet) (map (λ n. sign_of_state (state_at ss n)) (map (id d) tet)) (tet_ids_rise d tet t)
          ∙ (λ i. map (λ p. map (corner_key tet (map (id d) tet)) (oriented tet p)) (fill same_corner (facets (pv i ∷ pa i ∷ pb i ∷ pc i ∷ [])) (kept (pv i ∷ pa i ∷ pb i ∷ pc i ∷ []))))
          ∙ ap (map (λ p. map (corner_key tet (map (id d) tet)) (oriented tet p))) one_piece

      oriented_by : (turned : Bool) → is_turned tet ≡ turned → oriented tet all_four ≡ (if turned then swap_last_two all_four else all_four)
      unfolding oriented
      oriented_by turned e = λ i. if e i then swap_last_two all_four else all_four

      straight : is_turned tet ≡ false → tet_pieces d ss tet ≡ (8 * id d v ∷ 8 * id d a ∷ 8 * id d b ∷ 8 * id d c ∷ []) ∷ []
      straight e = whole_piece ∙ ap (λ p. map (corner_key tet (map (id d) tet)) p ∷ []) (oriented_by false e)

      turned : is_turned tet ≡ true → tet_pieces d ss tet ≡ (8 * id d v ∷ 8 * id d a ∷ 8 * id d c ∷ 8 * id d b ∷ []) ∷ []
      turned e = whole_piece ∙ ap (λ p. map (corner_key tet (map (id d) tet)) p ∷ []) (oriented_by true e)

  -- ---- all six

  abbrev three : Option Vertex → Option Vertex → Option Vertex → Option (List Vertex)
  three a b c = option_and_then (λ x. option_map (λ xs. x ∷ xs) (option_and_then (λ y. option_map (λ ys. y ∷ ys) (option_and_then (λ z. option_map (λ zs. z ∷ zs) (Some [])) c)) b)) a

  module _ (v w1 w2 w3 w4 w5 w6 w7 : Vertex) (inside : InDomain d v) (e1 : neighbour d v 1 true ≡ Some w1) (e2 : neighbour d v 2 true ≡ Some w2) (e3 : neighbour d v 3 true ≡ Some w3) (e4 : neighbour d v 4 true ≡ Some w4) (e5 : neighbour d v 5 true ≡ Some w5) (e6 : neighbour d v 6 true ≡ Some w6) (e7 : neighbour d v 7 true ≡ Some w7) where
    abbrev six : List (List Vertex)
    six = (v ∷ w1 ∷ w4 ∷ w6 ∷ []) ∷ (v ∷ w2 ∷ w5 ∷ w6 ∷ []) ∷ (v ∷ w3 ∷ w4 ∷ w7 ∷ []) ∷ (v ∷ w3 ∷ w5 ∷ w7 ∷ []) ∷ (v ∷ w4 ∷ w6 ∷ w7 ∷ []) ∷ (v ∷ w5 ∷ w6 ∷ w7 ∷ []) ∷ []

    pub six_tets : tets_from d v ≡ six
    six_tets =
        tets_by_triples d v
        ∙ (λ i. map (λ c. v ∷ c) (cons_option (three (e1 i) (e4 i) (e6 i)) (cons_option (three (e2 i) (e5 i) (e6 i)) (cons_option (three (e3 i) (e4 i) (e7 i)) (cons_option (three (e3 i) (e5 i) (e7 i)) (cons_option (three (e4 i) (e6 i) (e7 i)) (cons_option (three (e5 i) (e6 i) (e7 i)) [])))))))

    tet_at : (t : List Vertex) → Has t six → IsLatticeTet d t
    tet_at t h = from_lowest d ss v t inside (subst (λ (ts : List (List Vertex)). Has t ts) (sym six_tets) h)

    module _ (p0 : is_plus_at v) (p1 : is_plus_at w1) (p2 : is_plus_at w2) (p3 : is_plus_at w3) (p4 : is_plus_at w4) (p5 : is_plus_at w5) (p6 : is_plus_at w6) (p7 : is_plus_at w7) where
      abbrev k : Vertex → ℕ
      k w = 8 * id d w

      piece_146 : tet_pieces d ss (v ∷ w1 ∷ w4 ∷ w6 ∷ []) ≡ (k v ∷ k w1 ∷ k w6 ∷ k w4 ∷ []) ∷ []
      piece_146 =
          let t = tet_at (v ∷ w1 ∷ w4 ∷ w6 ∷ []) (inl refl) in
          let s = after_step_1 v w1 (neighbour_to d v w1 1 e1).0 in
          turned v w1 w4 w6 t p0 p1 p4 p6 (turned_by_kind v w1 w4 w6 t 0 true (kind_0 v w1 w4 s.0 s.1) refl)

      piece_256 : tet_pieces d ss (v ∷ w2 ∷ w5 ∷ w6 ∷ []) ≡ (k v ∷ k w2 ∷ k w5 ∷ k w6 ∷ []) ∷ []
      piece_256 =
          let t = tet_at (v ∷ w2 ∷ w5 ∷ w6 ∷ []) (inr (inl refl)) in
          let s = after_step_2 v w2 (neighbour_to d v w2 2 e2).0 in
          straight v w2 w5 w6 t p0 p2 p5 p6 (turned_by_kind v w2 w5 w6 t 1 false (kind_1 v w2 w5 s.0 s.1) refl)

      piece_347 : tet_pieces d ss (v ∷ w3 ∷ w4 ∷ w7 ∷ []) ≡ (k v ∷ k w3 ∷ k w4 ∷ k w7 ∷ []) ∷ []
      piece_347 =
          let t = tet_at (v ∷ w3 ∷ w4 ∷ w7 ∷ []) (inr (inr (inl refl))) in
          let s = after_step_3 v w3 (neighbour_to d v w3 3 e3).0 in
          let r = after_step_4 v w4 (neighbour_to d v w4 4 e4).0 in
          straight v w3 w4 w7 t p0 p3 p4 p7 (turned_by_kind v w3 w4 w7 t 2 false (kind_2 v w3 w4 s.0 s.1 s.2 r.1) refl)

      piece_357 : tet_pieces d ss (v ∷ w3 ∷ w5 ∷ w7 ∷ []) ≡ (k v ∷ k w3 ∷ k w7 ∷ k w5 ∷ []) ∷ []
      piece_357 =
          let t = tet_at (v ∷ w3 ∷ w5 ∷ w7 ∷ []) (inr (inr (inr (inl refl)))) in
          let s = after_step_3 v w3 (neighbour_to d v w3 3 e3).0 in
          let r = after_step_5 v w5 (neighbour_to d v w5 5 e5).0 in
          turned v w3 w5 w7 t p0 p3 p5 p7 (turned_by_kind v w3 w5 w7 t 3 true (kind_3 v w3 w5 s.0 s.1 s.2 r.1) refl)

      piece_467 : tet_pieces d ss (v ∷ w4 ∷ w6 ∷ w7 ∷ []) ≡ (k v ∷ k w4 ∷ k w6 ∷ k w7 ∷ []) ∷ []
      piece_467 =
          let t = tet_at (v ∷ w4 ∷ w6 ∷ w7 ∷ []) (inr (inr (inr (inr (inl refl))))) in
          let s = after_step_4 v w4 (neighbour_to d v w4 4 e4).0 in
          straight v w4 w6 w7 t p0 p4 p6 p7 (turned_by_kind v w4 w6 w7 t 4 false (kind_4 v w4 w6 s.0 s.1 s.2) refl)

      piece_567 : tet_pieces d ss (v ∷ w5 ∷ w6 ∷ w7 ∷ []) ≡ (k v ∷ k w5 ∷ k w7 ∷ k w6 ∷ []) ∷ []
      piece_567 =
          let t = tet_at (v ∷ w5 ∷ w6 ∷ w7 ∷ []) (inr (inr (inr (inr (inr (inl refl)))))) in
          let s = after_step_5 v w5 (neighbour_to d v w5 5 e5).0 in
          turned v w5 w6 w7 t p0 p5 p6 p7 (turned_by_kind v w5 w6 w7 t 5 true (kind_5 v w5 w6 s.0 s.1) refl)

      -- their pieces
      pub six_pieces : flat_map (tet_pieces d ss) (tets_from d v) ≡
          (k v ∷ k w1 ∷ k w6 ∷ k w4 ∷ []) ∷ (k v ∷ k w2 ∷ k w5 ∷ k w6 ∷ []) ∷ (k v ∷ k w3 ∷ k w4 ∷ k w7 ∷ []) ∷ (k v ∷ k w3 ∷ k w7 ∷ k w5 ∷ []) ∷ (k v ∷ k w4 ∷ k w6 ∷ k w7 ∷ []) ∷ (k v ∷ k w5 ∷ k w7 ∷ k w6 ∷ []) ∷ []
      six_pieces =
          ap (flat_map (tet_pieces d ss)) six_tets
          ∙ (λ i. piece_146 i ++ (piece_256 i ++ (piece_347 i ++ (piece_357 i ++ (piece_467 i ++ (piece_567 i ++ []))))))

-- ---- their numbers

-- the neighbour with an id
pub record IsThere (d : Dims) (v : Vertex) (dir n : ℕ) : Type 0 where
  pub there : Vertex
  pub leads : neighbour d v dir true ≡ Some there
  pub number : id d there ≡ n

pub there_is : (d : Dims) (v : Vertex) (dir n : ℕ) → option_map (id d) (neighbour d v dir true) ≡ Some n → IsThere d v dir n
there_is d v dir n e = go (neighbour d v dir true) refl e
  where
    go : (o : Option Vertex) → neighbour d v dir true ≡ o → option_map (id d) o ≡ Some n → IsThere d v dir n
    go None f g = cc
    go (Some w) f g = record { there = w; leads = f; number = cc }

-- a Plus vertex is a node
pub plus_occurs : (d : Dims) (ss : List State) → ArePadded d ss → (w : Vertex) → InDomain d w → sign_of_state (state_at ss (id d w)) ≡ Plus → occurs (all_pieces d ss) (8 * id d w) ≡ true
plus_occurs d ss padded w inside p =
    ap (occurs (all_pieces d ss)) (from_none (8 * id d w))
    ∙ sym (node_occurs d (λ _. ⊤) (told d ss) ss (λ u i k. refl) w inside (λ g p q r. tt) padded 0 (omega arith))
    ∙ (λ i. is_node (p i) (has_plus_there (signs_towards d (told d ss) w true) || has_plus_there (signs_towards d (told d ss) w false)))
  where
    from_none : (m : ℕ) → m ≡ m + 0
    from_none m = omega arith

module _ (d : Dims) (ss : List State) (padded : ArePadded d ss) (n : Numbering) (g : ℕ) (h : NumbersLayers d ss g n) where
  plus_number : (w : Vertex) (m number : ℕ) → InDomain d w → g ≤ w.h → w.h ≤ g + 2 → id d w ≡ m → sign_of_state (state_at ss m) ≡ Plus → number ≡ number_in n (8 * m) → number_of (node_keys d ss) (8 * id d w) ≡ number
  plus_number w m number inside low high e p q =
      let r = vertex_held d g n.first (n.first + n.len) w h.hold inside low high in
      let here : HoldsKey n (8 * id d w) = record { low = subst (λ (i : ℕ). n.first ≤ i) (eighth (id d w)) r.0; high = subst (λ (i : ℕ). i < n.first + n.len) (eighth (id d w)) r.1 } in
      sym (q ∙ ap (λ i. number_in n (8 * i)) (sym e) ∙ h.number (8 * id d w) here (plus_occurs d ss padded w inside (ap (λ i. sign_of_state (state_at ss i)) e ∙ p)))
    where
      eighth : (i : ℕ) → i ≡ 8 * i / 8
      eighth i = omega arith

  module _ (v : Vertex) (ids : Later) (inside : InDomain d v) (layer_is : v.h ≡ g) where
    inside_of : (dir m : ℕ) (t : IsThere d v dir m) → InDomain d t.there
    inside_of dir m t = domain_out d t.there (neighbour_to d v t.there dir t.leads).1

    near_1 : (m : ℕ) (t : IsThere d v 1 m) → (g ≤ t.there.h) × (t.there.h ≤ g + 2)
    near_1 m t = let s = (after_step_1 v t.there (neighbour_to d v t.there 1 t.leads).0).0 in (omega arith, omega arith)

    near_2 : (m : ℕ) (t : IsThere d v 2 m) → (g ≤ t.there.h) × (t.there.h ≤ g + 2)
    near_2 m t = let s = (after_step_2 v t.there (neighbour_to d v t.there 2 t.leads).0).0 in (omega arith, omega arith)

    near_3 : (m : ℕ) (t : IsThere d v 3 m) → (g ≤ t.there.h) × (t.there.h ≤ g + 2)
    near_3 m t = let s = (after_step_3 v t.there (neighbour_to d v t.there 3 t.leads).0).0 in (omega arith, omega arith)

    near_4 : (m : ℕ) (t : IsThere d v 4 m) → (g ≤ t.there.h) × (t.there.h ≤ g + 2)
    near_4 m t = let s = (after_step_4 v t.there (neighbour_to d v t.there 4 t.leads).0).0 in (omega arith, omega arith)

    near_5 : (m : ℕ) (t : IsThere d v 5 m) → (g ≤ t.there.h) × (t.there.h ≤ g + 2)
    near_5 m t = let s = (after_step_5 v t.there (neighbour_to d v t.there 5 t.leads).0).0 in (omega arith, omega arith)

    near_6 : (m : ℕ) (t : IsThere d v 6 m) → (g ≤ t.there.h) × (t.there.h ≤ g + 2)
    near_6 m t = let s = (after_step_6 v t.there (neighbour_to d v t.there 6 t.leads).0).0 in (omega arith, omega arith)

    near_7 : (m : ℕ) (t : IsThere d v 7 m) → (g ≤ t.there.h) × (t.there.h ≤ g + 2)
    near_7 m t = let s = (after_step_7 v t.there (neighbour_to d v t.there 7 t.leads).0).0 in (omega arith, omega arith)

    -- the ids of the neighbours are held
    one_held : (dir m : ℕ) (t : IsThere d v dir m) → (g ≤ t.there.h) × (t.there.h ≤ g + 2) → (n.first ≤ m) × (m < n.first + n.len)
    one_held dir m t near = subst (λ (i : ℕ). (n.first ≤ i) × (i < n.first + n.len)) t.number (vertex_held d g n.first (n.first + n.len) t.there h.hold (inside_of dir m t) near.0 near.1)

    pub later_held : AreLater d v ids → AreFrom n.first ids × AreBelow (n.first + n.len) ids
    later_held l =
        let t1 = there_is d v 1 ids.first l.first in
        let h1 = one_held 1 ids.first t1 (near_1 ids.first t1) in
        let t2 = there_is d v 2 ids.second l.second in
        let h2 = one_held 2 ids.second t2 (near_2 ids.second t2) in
        let t3 = there_is d v 3 ids.third l.third in
        let h3 = one_held 3 ids.third t3 (near_3 ids.third t3) in
        let t4 = there_is d v 4 ids.fourth l.fourth in
        let h4 = one_held 4 ids.fourth t4 (near_4 ids.fourth t4) in
        let t5 = there_is d v 5 ids.fifth l.fifth in
        let h5 = one_held 5 ids.fifth t5 (near_5 ids.fifth t5) in
        let t6 = there_is d v 6 ids.sixth l.sixth in
        let h6 = one_held 6 ids.sixth t6 (near_6 ids.sixth t6) in
        let t7 = there_is d v 7 ids.seventh l.seventh in
        let h7 = one_held 7 ids.seventh t7 (near_7 ids.seventh t7) in
        (record { first = h1.0; second = h2.0; third = h3.0; fourth = h4.0; fifth = h5.0; sixth = h6.0; seventh = h7.0 }, record { first = h1.1; second = h2.1; third = h3.1; fourth = h4.1; fifth = h5.1; sixth = h6.1; seventh = h7.1 })

    plus_towards : (dir m number : ℕ) (t : IsThere d v dir m) → (g ≤ t.there.h) × (t.there.h ≤ g + 2) → sign_of_state (state_at ss m) ≡ Plus → number ≡ number_in n (8 * m) → IsPlusTowards d ss v dir number
    plus_towards dir m number t near p e = record {
      there = t.there;
      leads = t.leads;
      node = record { plus = ap (λ j. sign_of_state (state_at ss j)) t.number ∙ p; is = sym (plus_number t.there m number (inside_of dir m t) near.0 near.1 t.number p e) };
    }

    module _ (w : IsWhole d ss v ids) (numbers : Later) (own : ℕ) (own_is : own ≡ number_in n (8 * id d v)) (are : AreNumbers n ids numbers) where
      pub plus_nodes : ArePlusNodes d ss v own numbers
      plus_nodes =
          let l = w.later in
          let s = w.signs in
          let t1 = there_is d v 1 ids.first l.first in
          let t2 = there_is d v 2 ids.second l.second in
          let t3 = there_is d v 3 ids.third l.third in
          let t4 = there_is d v 4 ids.fourth l.fourth in
          let t5 = there_is d v 5 ids.fifth l.fifth in
          let t6 = there_is d v 6 ids.sixth l.sixth in
          let t7 = there_is d v 7 ids.seventh l.seventh in
          record {
            node = record { plus = s.own_sign; is = sym (plus_number v (id d v) own inside (omega arith) (omega arith) refl s.own_sign own_is) };
            first = plus_towards 1 ids.first numbers.first t1 (near_1 ids.first t1) s.first are.first;
            second = plus_towards 2 ids.second numbers.second t2 (near_2 ids.second t2) s.second are.second;
            third = plus_towards 3 ids.third numbers.third t3 (near_3 ids.third t3) s.third are.third;
            fourth = plus_towards 4 ids.fourth numbers.fourth t4 (near_4 ids.fourth t4) s.fourth are.fourth;
            fifth = plus_towards 5 ids.fifth numbers.fifth t5 (near_5 ids.fifth t5) s.fifth are.fifth;
            sixth = plus_towards 6 ids.sixth numbers.sixth t6 (near_6 ids.sixth t6) s.sixth are.sixth;
            seventh = plus_towards 7 ids.seventh numbers.seventh t7 (near_7 ids.seventh t7) s.seventh are.seventh;
          }

-- their pieces, by their numbers
pub whole_numbers : (d : Dims) (ss : List State) (v : Vertex) (own : ℕ) (numbers : Later) → InDomain d v → ArePlusNodes d ss v own numbers → numbered_from d ss v ≡ whole_tets own numbers
whole_numbers d ss v own numbers inside p =
    let n0 = sym p.node.is in
    let n1 = sym p.first.node.is in
    let n2 = sym p.second.node.is in
    let n3 = sym p.third.node.is in
    let n4 = sym p.fourth.node.is in
    let n5 = sym p.fifth.node.is in
    let n6 = sym p.sixth.node.is in
    let n7 = sym p.seventh.node.is in
    ap (map (map (number_of (node_keys d ss))))
    (six_pieces d ss v p.first.there p.second.there p.third.there p.fourth.there p.fifth.there p.sixth.there p.seventh.there inside p.first.leads p.second.leads p.third.leads p.fourth.leads p.fifth.leads p.sixth.leads p.seventh.leads
    p.node.plus p.first.node.plus p.second.node.plus p.third.node.plus p.fourth.node.plus p.fifth.node.plus p.sixth.node.plus p.seventh.node.plus)
    ∙ (λ i. (n0 i ∷ n1 i ∷ n6 i ∷ n4 i ∷ []) ∷ (n0 i ∷ n2 i ∷ n5 i ∷ n6 i ∷ []) ∷ (n0 i ∷ n3 i ∷ n4 i ∷ n7 i ∷ []) ∷ (n0 i ∷ n3 i ∷ n7 i ∷ n5 i ∷ []) ∷ (n0 i ∷ n4 i ∷ n6 i ∷ n7 i ∷ []) ∷ (n0 i ∷ n5 i ∷ n7 i ∷ n6 i ∷ []) ∷ [])
