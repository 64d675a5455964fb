-- The nodes of boundary triangles are level: a triangle with a Plus vertex is in two pieces, of one lattice tetrahedron or of the two at its face.
use Rattle.std.proofs.Common.{inl, inr, ◌⊎◌, ◌≡◌, ℕ, ◌+◌, ◌*◌, ◌/◌, ◌%◌, ◌<◌, ◌≤◌, Bool, true, false, not, ◌&&◌, ◌==◌, List, [], ◌∷◌, map, length, get_or, refl, sym, ap, ◌∙◌, subst, arith}
use Rattle.std.specs.Prelude.{slice_index, count_by}
use Rattle.std.specs.List.{list_any, list_all, range_with_len}
use Rattle.std.proofs.lemmas.Bool.{eqb-true, and_parts, or_cases, and_from, or_left, or_right, leb-true}
use Rattle.std.proofs.lemmas.Bool.Decides.{nat_tests}
use Rattle.std.proofs.lemmas.List.{length-map, get_or-map}
use Rattle.definitions.specs.declared.Dims.{Dims}
use Rattle.definitions.specs.declared.Vertex.{Vertex}
use Rattle.definitions.specs.declared.State.{State}
use Rattle.definitions.specs.declared.Sign.{Sign}
use Rattle.definitions.specs.declared.Sign.TheVariants.{Minus, Zero, Plus}
use Rattle.definitions.specs.declared.Corner.{Corner}
use Rattle.definitions.specs.declared.Corner.TheVariants.{Whole, Cut}
use Rattle.definitions.specs.Lattice.{id, vertex, direction}
use Rattle.definitions.specs.States.{sign_of_state}
use Rattle.definitions.specs.Pieces.{corner_key, oriented, slot}
use Rattle.definitions.specs.Mesh.{state_at, ArePadded, all_pieces, tet_pieces}
use Rattle.definitions.specs.Soundness.{all_triangles, boundary, is_level_key, same_nodes, tets_at_triangle, triangles_of}
use Rattle.definitions.specs.Stencils.{is_level, is_kept, is_minus, is_plus, is_zero, sign_at, has_plus}
use Rattle.definitions.specs.Tetrahedra.{IsLatticeTet, lattice_tets}
use Rattle.lattice_laws.specs.Ascending.{Has}
use Rattle.lattice_laws.specs.NumberedTetrahedra.{IsInner, is_corner}
use Rattle.lattice_laws.proofs.Booleans.{implied}
use Rattle.lattice_laws.proofs.Directions.{direction_known}
use Rattle.lattice_laws.proofs.KeyOrder.{pieces_by_table, tet_ids_rise}
use Rattle.lattice_laws.proofs.ListedTetrahedra.{lattice_tets_listed}
use Rattle.lattice_laws.proofs.Lists.{all_at_member, member_where}
use Rattle.lattice_laws.proofs.Members.{from_filter, from_flat_map, from_map, from_range, has_range}
use Rattle.lattice_laws.proofs.Sublists.{has_at}
use Rattle.stencil_laws.specs.Cases.{case_pieces}
use Rattle.stencil_laws.specs.Faces.{face_corner, face_triangles, signs_without}
use Rattle.node_laws.proofs.NodesOfTheMesh.{plus_is_inner}
use Rattle.triangle_laws.proofs.Sums.{total, total-is, total-flat_map, total-map, total_at, total_at_two, total_monotone, bit, hits_of_member}
use Rattle.face_laws.specs.Shapes.{without}
use Rattle.face_laws.specs.Sides.{corner_triangles, sides, has_side, same_corners, are_kept, is_within_face, is_inner_twice, has_plus_on_face, is_of_face, is_of_faces, is_face_side, has_face_triangles, every_side}
use Rattle.face_laws.specs.Laws.{BoundaryIsLevel, OtherSide}
use Rattle.face_laws.proofs.OtherSides.{faces_have_two_sides, map_without}
use Rattle.face_laws.proofs.SidesFit.{sides_fit_each_case}
use Rattle.face_laws.proofs.SameNodes.{same_by_third, same_itself, same_keys, triangles_of_keys, oriented_side, times_in, side_counts}
use Rattle.face_laws.proofs.FaceKeys.{whole_slot, cut_slots, keys_on_face, signs_without_mapped}

-- ---- nodes that are level

zero_sign : (s : Sign) → not (is_minus s) ≡ true → not (is_plus s) ≡ true → is_zero s ≡ true
zero_sign Zero h k = refl
zero_sign Plus h k = cc
zero_sign Minus h k = cc

cut_key : (m n : ℕ) → 0 < n → n < 8 → not ((8 * m + n) % 8 == 0) ≡ true
cut_key m n h k = grind (arith, nat_tests)

at_eighth : (m : ℕ) → 8 * m / 8 ≡ m
at_eighth m = omega arith

-- how many triangles of a lattice tetrahedron's pieces have the nodes of t
abbrev times_of : Dims → List State → List ℕ → List Vertex → ℕ
times_of d ss t tet = total (times_in t) (tet_pieces d ss tet)

module _ (d : Dims) (ss : List State) (tet : List Vertex) (lattice : IsLatticeTet d tet) where
  abbrev ids : List ℕ
  ids = map (id d) tet

  abbrev signs : List Sign
  signs = map (λ n. sign_of_state (state_at ss n)) ids

  abbrev key : Corner → ℕ
  key = corner_key tet ids

  ids_four : length ids ≡ 4
  ids_four = length-map tet (id d) ∙ lattice.four

  signs_four : length signs ≡ 4
  signs_four = length-map ids (λ n. sign_of_state (state_at ss n)) ∙ ids_four

  pieces_are : tet_pieces d ss tet ≡ map (λ p. map key (oriented tet p)) (case_pieces signs)
  unfolding tet_pieces
  pieces_are = pieces_by_table tet ids signs (tet_ids_rise d tet lattice)

  sign_is : (a : ℕ) → a < 4 → sign_at signs a ≡ sign_of_state (state_at ss (slice_index ids a))
  sign_is a h = let e = ids_four in get_or-map (λ n. sign_of_state (state_at ss n)) ids a 0 Zero (omega arith)

  id_is : (a : ℕ) → a < 4 → slice_index ids a ≡ id d (slot tet a)
  id_is a h = let e = lattice.four in get_or-map (id d) tet a (vertex 0 0 0) 0 (omega arith)

  level_key : (c : Corner) → is_corner c ≡ true → is_kept signs c ≡ true → is_level signs c ≡ true → is_level_key ss (key c) ≡ true
  level_key (Whole a) h k l =
      let s = sign_is a (whole_slot a h) in
      or_right _ _ (ap (λ n. is_zero (sign_of_state (state_at ss n))) (at_eighth (slice_index ids a)) ∙ ap is_zero (sym s) ∙ zero_sign (sign_at signs a) k l)
  level_key (Cut a b) h k l =
      let s = cut_slots a b h in
      let e = lattice.four in
      let r = direction_known (slot tet a) (slot tet b) (lattice.neighbours a b (vertex 0 0 0) s.0 (omega (arith, s.1))) (lattice.ordered a b (vertex 0 0 0) s.0 (omega (arith, s.1))) in
      or_left _ _ (cut_key (slice_index ids a) (direction (slot tet a) (slot tet b)) r.0 r.1)

  level_keys : (t : List Corner) → are_kept signs t ≡ true → list_all (is_level signs) t ≡ true → list_all (is_level_key ss) (map key t) ≡ true
  level_keys [] h k = refl
  level_keys (c ∷ t) h k =
      let s = and_parts (is_corner c && is_kept signs c) (are_kept signs t) h in
      let r = and_parts (is_corner c) (is_kept signs c) s.0 in
      let l = and_parts (is_level signs c) (list_all (is_level signs) t) k in
      and_from (is_level_key ss (key c)) _ (level_key c r.0 r.1 l.0) (level_keys t s.1 l.1)

  times_by_case : (t : List ℕ) → times_of d ss t tet ≡ total (λ p. times_in t (map key (oriented tet p))) (case_pieces signs)
  times_by_case t = ap (total (times_in t)) pieces_are ∙ total-map (times_in t) (λ p. map key (oriented tet p)) (case_pieces signs)

  bit_at_most : (b : Bool) (n : ℕ) → (b ≡ true → 0 < n) → bit b ≤ n
  bit_at_most true n h = let k = h refl in omega arith
  bit_at_most false n h = omega arith

  -- at least as many as pieces that have it
  sides_count : (t : List ℕ) (is_it : List Corner → Bool) → ((u : List Corner) → is_it u ≡ true → same_nodes t (map key u) ≡ true) → count_by (has_side is_it) (case_pieces signs) ≤ times_of d ss t tet
  sides_count t is_it agree =
      let a = total-is (λ p. bit (has_side is_it p)) (case_pieces signs) in
      let b = total_monotone (λ p. bit (has_side is_it p)) (λ p. times_in t (map key (oriented tet p))) (λ p. bit_at_most (has_side is_it p) _ (side_counts key tet t is_it agree p)) (case_pieces signs) in
      let c = times_by_case t in
      omega arith

  side_is_here : (t : List ℕ) (is_it : List Corner → Bool) → ((u : List Corner) → is_it u ≡ true → same_nodes t (map key u) ≡ true) → list_any (has_side is_it) (case_pieces signs) ≡ true → 0 < times_of d ss t tet
  side_is_here t is_it agree h =
      let m = member_where (has_side is_it) (case_pieces signs) h in
      let a = total_at (λ p. times_in t (map key (oriented tet p))) m.0 (case_pieces signs) m.1 in
      let b = side_counts key tet t is_it agree m.0 m.2 in
      let c = times_by_case t in
      omega arith

  at_side : (test : List Sign → List Corner → Bool) → every_side test signs ≡ true → (p t : List Corner) → Has p (case_pieces signs) → Has t (sides p) → test signs t ≡ true
  at_side test h p t hp ht = all_at_member (test signs) (sides p) t (all_at_member (λ q. list_all (test signs) (sides q)) (case_pieces signs) p h hp) ht

-- in how many triangles of all pieces
times_in_all : (d : Dims) (ss : List State) (t : List ℕ) → tets_at_triangle (all_pieces d ss) t ≡ total (times_of d ss t) (lattice_tets d)
unfolding all_pieces
times_in_all d ss t =
    total-is (λ u. bit (same_nodes t u)) (all_triangles (all_pieces d ss))
    ∙ total-flat_map (λ u. bit (same_nodes t u)) triangles_of (all_pieces d ss)
    ∙ total-flat_map (times_in t) (tet_pieces d ss) (lattice_tets d)

-- ---- a triangle of a piece

module _ (d : Dims) (ss : List State) (padded : ArePadded d ss) (tet : List Vertex) (listed : Has tet (lattice_tets d)) (lattice : IsLatticeTet d tet) (p t : List Corner) (piece : Has p (case_pieces (signs d ss tet lattice))) (side : Has t (sides p)) where
  abbrev t_keys : List ℕ
  t_keys = map (key d ss tet lattice) t

  -- on a face with a Plus vertex it is in a piece on the other side
  module _ (n m : ℕ) (ln : n < 4) (lm : m < 4) (ne : m ≡ n → ⊥) (inner : IsInner d (slot tet m)) (within : is_within_face n t ≡ true)
      (some_plus : has_plus (signs_without n (signs d ss tet lattice)) ≡ true) (τ : List Corner) (face : Has τ (face_triangles (signs_without n (signs d ss tet lattice)))) (same : same_corners (map (face_corner n) t) τ ≡ true) where
    across : OtherSide d tet n
    across = faces_have_two_sides d tet n m lattice ln lm ne inner

    abbrev other : List Vertex
    other = across.other

    same_ids : without across.lacks (map (id d) other) ≡ without n (map (id d) tet)
    same_ids = map_without (id d) across.lacks other ∙ ap (map (id d)) across.same_face ∙ sym (map_without (id d) n tet)

    abbrev sign_of_id : ℕ → Sign
    sign_of_id k = sign_of_state (state_at ss k)

    same_signs : signs_without across.lacks (signs d ss other across.lattice) ≡ signs_without n (signs d ss tet lattice)
    same_signs = signs_without_mapped sign_of_id across.lacks (map (id d) other) ∙ ap (map sign_of_id) same_ids ∙ sym (signs_without_mapped sign_of_id n (map (id d) tet))

    taken : list_any (has_side (is_face_side across.lacks τ)) (case_pieces (signs d ss other across.lattice)) ≡ true
    taken =
        let four = signs_four d ss other across.lattice in
        let h = all_at_member (has_face_triangles (signs d ss other across.lattice)) (range_with_len 0 4) across.lacks (sides_fit_each_case (signs d ss other across.lattice) four).all_taken (has_range 0 4 across.lacks (omega arith) across.lacks_low) in
        let k = implied (has_plus (signs_without across.lacks (signs d ss other across.lattice))) _ h (ap has_plus same_signs ∙ some_plus) in
        all_at_member (λ τ. list_any (has_side (is_face_side across.lacks τ)) (case_pieces (signs d ss other across.lattice))) (face_triangles (signs_without across.lacks (signs d ss other across.lattice))) τ k
        (subst (λ ss. Has τ (face_triangles ss)) (sym same_signs) face)

    abbrev keys_here : Corner → ℕ
    keys_here = corner_key (without n tet) (without n (map (id d) tet))

    first_same : same_nodes t_keys (map keys_here τ) ≡ true
    first_same =
        ap (λ ks. same_nodes ks (map keys_here τ)) (keys_on_face tet (map (id d) tet) n lattice.four (ids_four d ss tet lattice) ln t within)
        ∙ same_keys keys_here (map (face_corner n) t) τ same

    second_same : (u : List Corner) → is_face_side across.lacks τ u ≡ true → same_nodes (map (key d ss other across.lattice) u) (map keys_here τ) ≡ true
    second_same u h =
        let s = and_parts (is_within_face across.lacks u) _ h in
        let keys_there = corner_key (without across.lacks other) (without across.lacks (map (id d) other)) in
        sym (λ i. same_nodes (map (key d ss other across.lattice) u) (map (corner_key (across.same_face i) (same_ids i)) τ))
        ∙ ap (λ ks. same_nodes ks (map keys_there τ)) (keys_on_face other (map (id d) other) across.lacks across.lattice.four (ids_four d ss other across.lattice) across.lacks_low u s.0)
        ∙ same_keys keys_there (map (face_corner across.lacks) u) τ s.1

    there : 0 < times_of d ss t_keys other
    there =
        side_is_here d ss other across.lattice t_keys (is_face_side across.lacks τ)
        (λ u h. same_by_third t_keys (map (key d ss other across.lattice) u) (map keys_here τ) first_same (second_same u h)) taken

    two_sides : 0 < times_of d ss t_keys tet → 2 ≤ total (times_of d ss t_keys) (lattice_tets d)
    two_sides here =
        let a = total_at_two (times_of d ss t_keys) tet other (lattice_tets d) listed ((lattice_tets_listed d other).1 across.lattice) across.differs in
        let b = there in
        omega arith

  in_slots : (k : ℕ) → Has k (range_with_len 0 4) → k < 4
  in_slots k h = let r = from_range 0 4 k h in omega (arith, r.1)

  apart : (m n : ℕ) → not (m == n) ≡ true → m ≡ n → ⊥
  apart m n h e = absurd (grind (arith, nat_tests))

  on_face : (n : ℕ) → n < 4 → is_within_face n t ≡ true → 0 < times_of d ss t_keys tet → (list_all (is_level (signs d ss tet lattice)) t ≡ true) ⊎ (2 ≤ total (times_of d ss t_keys) (lattice_tets d))
  on_face n ln within here =
      let fit = sides_fit_each_case (signs d ss tet lattice) (signs_four d ss tet lattice) in
      let f = all_at_member (is_of_face (signs d ss tet lattice) t) (range_with_len 0 4) n (at_side d ss tet lattice is_of_faces fit.of_face p t piece side) (has_range 0 4 n (omega arith) ln) in
      elim (or_cases (list_all (is_level (signs d ss tet lattice)) t) _ f) [
        | inl e ↦ inl e
        | inr e ↦
            (let g = implied (is_within_face n t) _ e within in
            let h = and_parts (has_plus_on_face (signs d ss tet lattice) n) _ g in
            let i = and_parts (has_plus (signs_without n (signs d ss tet lattice))) _ h.1 in
            let m = member_where (λ m. not (m == n) && is_plus (sign_at (signs d ss tet lattice) m)) (range_with_len 0 4) h.0 in
            let lm = in_slots m.0 m.1 in
            let q = and_parts (not (m.0 == n)) (is_plus (sign_at (signs d ss tet lattice) m.0)) m.2 in
            let four = lattice.four in
            let inner = plus_is_inner d ss padded (slot tet m.0) (lattice.within m.0 (vertex 0 0 0) (omega arith))
            (ap (λ k. is_plus (sign_of_state (state_at ss k))) (sym (id_is d ss tet lattice m.0 lm)) ∙ ap is_plus (sym (sign_is d ss tet lattice m.0 lm)) ∙ q.1) in
            let τ = member_where (same_corners (map (face_corner n) t)) (face_triangles (signs_without n (signs d ss tet lattice))) i.1 in
            inr (two_sides n m.0 ln lm (apart m.0 n q.0) inner within i.0 τ.0 τ.1 τ.2 here))
      ]

  level_or_twice : 0 < times_of d ss t_keys tet → (list_all (is_level (signs d ss tet lattice)) t ≡ true) ⊎ (2 ≤ total (times_of d ss t_keys) (lattice_tets d))
  level_or_twice here =
      let fit = sides_fit_each_case (signs d ss tet lattice) (signs_four d ss tet lattice) in
      elim (or_cases (list_all (is_level (signs d ss tet lattice)) t) _ (at_side d ss tet lattice is_inner_twice fit.inner_twice p t piece side)) [
        | inl e ↦ inl e
        | inr e ↦ elim (or_cases (list_any (λ n. is_within_face n t) (range_with_len 0 4)) _ e) [
          | inl f ↦ (let n = member_where (λ n. is_within_face n t) (range_with_len 0 4) f in on_face n.0 (in_slots n.0 n.1) n.2 here)
          | inr f ↦
              (let a = leb-true 2 (count_by (has_side (same_corners t)) (case_pieces (signs d ss tet lattice))) f in
              let b = sides_count d ss tet lattice t_keys (same_corners t) (λ u g. same_keys (key d ss tet lattice) t u g) in
              let c = total_at (times_of d ss t_keys) tet (lattice_tets d) listed in
              inr (omega arith))
        ]
      ]

-- ---- the boundary

module _ (d : Dims) (ss : List State) (padded : ArePadded d ss) (t : List ℕ) where
  pub at_level : (m : Has t (boundary (all_pieces d ss))) → list_all (is_level_key ss) t ≡ true
  unfolding all_pieces
  at_level m =
      let f = from_filter (λ t. tets_at_triangle (all_pieces d ss) t == 1) t (all_triangles (all_pieces d ss)) m in
      let g = from_flat_map triangles_of t (all_pieces d ss) f.0 in
      let h = from_flat_map (tet_pieces d ss) g.0 (lattice_tets d) g.1 in
      let tet = h.0 in
      let lattice = (lattice_tets_listed d tet).0 h.1 in
      let k = from_map (λ p. map (key d ss tet lattice) (oriented tet p)) g.0 (case_pieces (signs d ss tet lattice)) (subst (Has g.0) (pieces_are d ss tet lattice) h.2) in
      let q = oriented tet k.0 in
      let l = from_map (map (key d ss tet lattice)) t (corner_triangles q) (subst (Has t) (ap triangles_of (sym k.2) ∙ triangles_of_keys (key d ss tet lattice) q) g.2) in
      let side = oriented_side tet k.0 l.0 l.1 in
      let fit = sides_fit_each_case (signs d ss tet lattice) (signs_four d ss tet lattice) in
      let here : 0 < times_of d ss t tet =
      (let a = hits_of_member (same_nodes t) t (triangles_of g.0) g.2 (same_itself t) in
      let b = total_at (times_in t) g.0 (tet_pieces d ss tet) h.2 in
      omega arith) in
      elim (level_or_twice d ss padded tet h.1 lattice k.0 l.0 k.1 side (subst (λ u. 0 < times_of d ss u tet) {y = map (key d ss tet lattice) l.0} (sym l.2) here)) [
        | inl e ↦ ap (list_all (is_level_key ss)) (sym l.2) ∙ level_keys d ss tet lattice l.0 (at_side d ss tet lattice are_kept fit.kept k.0 l.0 k.1 side) e
        | inr e ↦
            (let a = subst (λ u. 2 ≤ total (times_of d ss u) (lattice_tets d)) l.2 e in
            let b = eqb-true (tets_at_triangle (all_pieces d ss) t) 1 f.1 in
            let c = times_in_all d ss t in
            absurd (omega arith))
      ]

pub boundary_is_level : BoundaryIsLevel
boundary_is_level d ss padded n e lt = at_level d ss padded (get_or (boundary (all_pieces d ss)) n e) (has_at (boundary (all_pieces d ss)) n e lt)
