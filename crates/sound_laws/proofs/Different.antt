-- No two tetrahedra of the mesh have the same nodes: two pieces of one lattice tetrahedron differ, and a piece's nodes tell all four vertices of its lattice tetrahedron.
use Rattle.std.specs.Prelude.{ℕ, ◌+◌, ◌*◌, ◌<◌, true, false, ◌==◌, nat_lt, List, [], ◌∷◌, map, flat_map, slice_index, Some}
use Rattle.std.proofs.Common.{◌≡◌, refl, sym, ap, subst, ◌∙◌, arith, inl, inr, ◌⊎◌}
use Rattle.std.specs.List.{list_any, list_all, range_with_len}
use Rattle.std.proofs.lemmas.Bool.{ltb-true, eqb-true, and_parts, or_cases, and_from, both_ways, false_from_ne_true}
use Rattle.std.proofs.lemmas.List.{length-map}
use Rattle.definitions.specs.declared.Vertex.{Vertex}
use Rattle.definitions.specs.declared.Corner.{Corner}
use Rattle.definitions.specs.declared.Corner.TheVariants.{Whole, Cut}
use Rattle.definitions.specs.Lattice.{InDomain, id, vertex, vertex_at, direction, before, moved, step}
use Rattle.definitions.specs.Values.{Field}
use Rattle.definitions.specs.States.{Shares, state_of, states, sign_of_state}
use Rattle.definitions.specs.Stencils.{same_corner}
use Rattle.definitions.specs.Tetrahedra.{IsLatticeTet, lattice_tets}
use Rattle.definitions.specs.Pieces.{corner_key, oriented, slot}
use Rattle.definitions.specs.Mesh.{mesh}
use Rattle.definitions.specs.Soundness.{same_nodes, is_in}
use Rattle.lattice_laws.specs.Ascending.{Has, Ascends}
use Rattle.lattice_laws.proofs.AscendingLists.{same_members}
use Rattle.lattice_laws.proofs.Directions.{direction_known}
use Rattle.lattice_laws.proofs.EdgeSteps.{step_to, direction_of_step}
use Rattle.lattice_laws.proofs.ListedTetrahedra.{lattice_tets_listed}
use Rattle.lattice_laws.proofs.Lists.{member_where, all_at_member, compared}
use Rattle.lattice_laws.proofs.Members.{has_map, has_range, from_map, place_of, any_of_member}
use Rattle.lattice_laws.proofs.Sublists.{has_at, pairs_by_place, pairs_from_place}
use Rattle.lattice_laws.proofs.Vertices.{vertex_at-id, before_itself, before_back}
use Rattle.stencil_laws.specs.Cases.{case_pieces, is_node_of}
use Rattle.stencil_laws.specs.Faces.{has_all, mentions_slot}
use Rattle.stencil_laws.proofs.Faces.{pieces_differ, pieces_have_all_slots}
use Rattle.stencil_laws.proofs.Forms.{same_corner-itself}
use Rattle.node_laws.proofs.NumbersLeadBack.{numbers_lead_back}
use Rattle.parent_laws.specs.Parents.{signs_of, node_number, tets_of}
use Rattle.piece_laws.proofs.PiecesMeet.{in_slots}
use Rattle.parent_laws.proofs.Nodes.{IsPiece, id_slot, piece_is, key_occurs, key_below}
use Rattle.parent_laws.proofs.OrientedPieces.{has_oriented, from_oriented}
use Rattle.parent_laws.proofs.Parents.{tets_are_pieces}
use Rattle.sound_laws.specs.Laws.{TetsDiffer}
use Rattle.sound_laws.proofs.Blocks.{ascends_mapped, ascends_blocks, ascends_from_test, Differ, lattice_tets_differ}

-- where all numbers of one list are in another
number_found : (s t : List ℕ) → list_all (is_in t) s ≡ true → (n : ℕ) → Has n s → Has n t
number_found s t e n m =
    let r = member_where (λ k. k == n) t (all_at_member (is_in t) s n e m) in
    subst (λ k. Has k t) (eqb-true r.0 n r.2) r.1

-- ---- the ends of nodes with one key
abbrev SameEnds : (ℕ → Vertex) → (ℕ → Vertex) → Corner → Corner → Type 0
SameEnds u w (Whole a) (Whole c) = u a ≡ w c
SameEnds u w (Whole a) (Cut c d) = ⊥
SameEnds u w (Cut a b) (Whole c) = ⊥
SameEnds u w (Cut a b) (Cut c d) = (u a ≡ w c) × (u b ≡ w d)

some_same : (v w : Vertex) → Some v ≡ Some w → v ≡ w
some_same v w e = cc

module _ (f : Field) where
  same_id : (v w : Vertex) → InDomain f.dims v → InDomain f.dims w → id f.dims v ≡ id f.dims w → v ≡ w
  same_id v w k l e = sym (vertex_at-id f.dims v k).1 ∙ ap (vertex_at f.dims) e ∙ (vertex_at-id f.dims w l).1

  module _ (tet : List Vertex) (l : IsLatticeTet f.dims tet) where
    inside : (a : ℕ) → a < 4 → InDomain f.dims (slot tet a)
    inside a h = l.within a (vertex 0 0 0) (let e = l.four in omega arith)

    -- an edge by its direction
    edge_by : (a c : ℕ) → a < c → c < 4 → (0 < direction (slot tet a) (slot tet c)) × (direction (slot tet a) (slot tet c) < 8) × (moved (slot tet a) (step (direction (slot tet a) (slot tet c))) ≡ Some (slot tet c))
    edge_by a c lt hc =
        let n = l.neighbours a c (vertex 0 0 0) lt (let e = l.four in omega arith) in
        let b = l.ordered a c (vertex 0 0 0) lt (let e = l.four in omega arith) in
        let d = direction_known (slot tet a) (slot tet c) n b in
        let s = step_to (slot tet a) (slot tet c) b n in
        let q = direction_of_step s.dir (slot tet a) (slot tet c) s.low s.high s.leads in
        (d.0, d.1, ap (λ n. moved (slot tet a) (step n)) q ∙ s.leads)

    -- two slots with one vertex are one
    same_slot : (a c : ℕ) → a < 4 → c < 4 → slot tet a ≡ slot tet c → a ≡ c
    same_slot a c ha hc e = go (compared a c)
      where
        never : (a c : ℕ) → a < c → c < 4 → slot tet a ≡ slot tet c → ⊥
        never a c lt hc e = both_ways (before (slot tet a) (slot tet c)) (ap (before (slot tet a)) (sym e) ∙ before_itself (slot tet a)) (l.ordered a c (vertex 0 0 0) lt (let e = l.four in omega arith))

        go : (a < c) ⊎ ((a ≡ c) ⊎ (c < a)) → a ≡ c
        go (inl h) = absurd (never a c h hc e)
        go (inr (inl h)) = h
        go (inr (inr h)) = absurd (never c a h ha (sym e))

    same_nodes_if : (c e : Corner) → in_slots c ≡ true → in_slots e ≡ true → SameEnds (slot tet) (slot tet) c e → c ≡ e
    same_nodes_if (Whole a) (Whole c) p q h = ap Whole (same_slot a c (ltb-true a 4 p) (ltb-true c 4 q) h)
    same_nodes_if (Whole a) (Cut c d) p q h = absurd h
    same_nodes_if (Cut a b) (Whole c) p q h = absurd h
    same_nodes_if (Cut a b) (Cut c d) p q h =
        let g = and_parts (nat_lt a b) (nat_lt b 4) p in
        let k = and_parts (nat_lt c d) (nat_lt d 4) q in
        let lt = ltb-true a b g.0 in let hb = ltb-true b 4 g.1 in
        let lt' = ltb-true c d k.0 in let hd = ltb-true d 4 k.1 in
        let x = same_slot a c (omega arith) (omega arith) h.0 in
        let y = same_slot b d hb hd h.1 in
        λ i. Cut (x i) (y i)

  key_ends : (tet tet' : List Vertex) (l : IsLatticeTet f.dims tet) (l' : IsLatticeTet f.dims tet') (c e : Corner) → in_slots c ≡ true → in_slots e ≡ true
      → corner_key tet (map (id f.dims) tet) c ≡ corner_key tet' (map (id f.dims) tet') e → SameEnds (slot tet) (slot tet') c e
  key_ends tet tet' l l' (Whole a) (Whole c) p q h =
      let ha = ltb-true a 4 p in
      let hc = ltb-true c 4 q in
      same_id (slot tet a) (slot tet' c) (inside tet l a ha) (inside tet' l' c hc) (sym (id_slot f tet l a ha) ∙ eighths (slice_index (map (id f.dims) tet) a) (slice_index (map (id f.dims) tet') c) h ∙ id_slot f tet' l' c hc)
    where
      eighths : (m n : ℕ) → 8 * m ≡ 8 * n → m ≡ n
      eighths m n e = omega arith
  key_ends tet tet' l l' (Whole a) (Cut c d) p q h =
      let k = and_parts (nat_lt c d) (nat_lt d 4) q in
      let e = edge_by tet' l' c d (ltb-true c d k.0) (ltb-true d 4 k.1) in
      never (slice_index (map (id f.dims) tet) a) (slice_index (map (id f.dims) tet') c) (direction (slot tet' c) (slot tet' d)) e.0 e.1 h
    where
      never : (m n k : ℕ) → 0 < k → k < 8 → 8 * m ≡ 8 * n + k → ⊥
      never m n k low high e = absurd (omega arith)
  key_ends tet tet' l l' (Cut a b) (Whole c) p q h =
      let k = and_parts (nat_lt a b) (nat_lt b 4) p in
      let e = edge_by tet l a b (ltb-true a b k.0) (ltb-true b 4 k.1) in
      never (slice_index (map (id f.dims) tet') c) (slice_index (map (id f.dims) tet) a) (direction (slot tet a) (slot tet b)) e.0 e.1 (sym h)
    where
      never : (m n k : ℕ) → 0 < k → k < 8 → 8 * m ≡ 8 * n + k → ⊥
      never m n k low high e = absurd (omega arith)
  key_ends tet tet' l l' (Cut a b) (Cut c d) p q h =
      let g = and_parts (nat_lt a b) (nat_lt b 4) p in
      let k = and_parts (nat_lt c d) (nat_lt d 4) q in
      let lt = ltb-true a b g.0 in let hb = ltb-true b 4 g.1 in
      let lt' = ltb-true c d k.0 in let hd = ltb-true d 4 k.1 in
      let ha : a < 4 = omega arith in
      let hc : c < 4 = omega arith in
      let e = edge_by tet l a b lt hb in
      let e' = edge_by tet' l' c d lt' hd in
      let r = parts (slice_index (map (id f.dims) tet) a) (slice_index (map (id f.dims) tet') c) (direction (slot tet a) (slot tet b)) (direction (slot tet' c) (slot tet' d)) e.1 e'.1 h in
      let v = same_id (slot tet a) (slot tet' c) (inside tet l a ha) (inside tet' l' c hc) (sym (id_slot f tet l a ha) ∙ r.0 ∙ id_slot f tet' l' c hc) in
      (v, some_same (slot tet b) (slot tet' d) (sym e.2 ∙ (λ i. moved (v i) (step (r.1 i))) ∙ e'.2))
    where
      parts : (m n j k : ℕ) → j < 8 → k < 8 → 8 * m + j ≡ 8 * n + k → (m ≡ n) × (j ≡ k)
      parts m n j k hj hk e = (omega arith, omega arith)

-- ---- the nodes of two pieces
module _ (f : Field) (s : Shares) where
  piece_in : (tet : List Vertex) → IsLatticeTet f.dims tet → (p : List Corner) → Has p (case_pieces (signs_of f s tet)) → IsPiece (signs_of f s tet) p
  piece_in tet l p m = piece_is (signs_of f s tet) p (length-map tet (λ v. sign_of_state (state_of f s v)) ∙ l.four) m

  module _ (tet tet' : List Vertex) (l : IsLatticeTet f.dims tet) (l' : IsLatticeTet f.dims tet') (p q : List Corner) (m : Has p (case_pieces (signs_of f s tet))) (k : Has q (case_pieces (signs_of f s tet'))) where
    -- nodes with one number have the same ends
    number_ends : (c e : Corner) → Has c p → Has e q → node_number f s tet c ≡ node_number f s tet' e → SameEnds (slot tet) (slot tet') c e
    number_ends c e hc he h =
        let n = numbers_lead_back f.dims (states f s) in
        let oc = key_occurs f s tet l p c m hc in
        let oe = key_occurs f s tet' l' q e k he in
        let pc = piece_in tet l p m in
        let pe = piece_in tet' l' q k in
        key_ends f tet tet' l l' c e (pc.nodes c hc).0 (pe.nodes e he).0
        (n.differ (corner_key tet (map (id f.dims) tet) c) (corner_key tet' (map (id f.dims) tet') e) oc oe (key_below f s (corner_key tet (map (id f.dims) tet) c) oc) (key_below f s (corner_key tet' (map (id f.dims) tet') e) oe) h)

    -- where all numbers of the first are the second's
    node_found : list_all (is_in (map (node_number f s tet') (oriented tet' q))) (map (node_number f s tet) (oriented tet p)) ≡ true → (c : Corner) → Has c p → (e : Corner) × Has e q × SameEnds (slot tet) (slot tet') c e
    node_found h c hc =
        let r = from_map (node_number f s tet') (node_number f s tet c) (oriented tet' q)
        (number_found (map (node_number f s tet) (oriented tet p)) (map (node_number f s tet') (oriented tet' q)) h (node_number f s tet c) (has_map (node_number f s tet) c (oriented tet p) (has_oriented tet c p hc))) in
        let he = from_oriented tet' r.0 q r.1 in
        (r.0, he, number_ends c r.0 hc he (sym r.2))

    -- then each vertex of the first lattice tetrahedron is the second's
    slot_found : list_all (is_in (map (node_number f s tet') (oriented tet' q))) (map (node_number f s tet) (oriented tet p)) ≡ true → (j : ℕ) → j < 4 → Has (slot tet j) tet'
    slot_found h j hj =
        let len = length-map tet (λ v. sign_of_state (state_of f s v)) ∙ l.four in
        let e = all_at_member (λ j. list_any (λ c. mentions_slot c j) p) (range_with_len 0 4) j (all_at_member (λ p. list_all (λ j. list_any (λ c. mentions_slot c j) p) (range_with_len 0 4)) (case_pieces (signs_of f s tet)) p (pieces_have_all_slots (signs_of f s tet) len) m) (has_range 0 4 j (omega arith) hj) in
        let r = member_where (λ c. mentions_slot c j) p e in
        let g = node_found h r.0 r.1 in
        let pe = piece_in tet' l' q k in
        go r.0 g.0 r.2 (pe.nodes g.0 g.1).0 g.2
      where
        there : (a : ℕ) → a < 4 → Has (slot tet' a) tet'
        there a ha = has_at tet' a (vertex 0 0 0) (let e = l'.four in omega arith)

        moved_to : (a b : ℕ) → b < 4 → slot tet a ≡ slot tet' b → a ≡ j → Has (slot tet j) tet'
        moved_to a b hb v e = subst (λ u. Has u tet') (sym v ∙ ap (slot tet) e) (there b hb)

        go : (c e : Corner) → mentions_slot c j ≡ true → in_slots e ≡ true → SameEnds (slot tet) (slot tet') c e → Has (slot tet j) tet'
        go (Whole a) (Whole b) t i h = moved_to a b (ltb-true b 4 i) h (eqb-true a j t)
        go (Whole a) (Cut b d) t i h = absurd h
        go (Cut a c) (Whole b) t i h = absurd h
        go (Cut a c) (Cut b d) t i h =
            let g = and_parts (nat_lt b d) (nat_lt d 4) i in
            let lt = ltb-true b d g.0 in let hd = ltb-true d 4 g.1 in
            elim (or_cases (a == j) (c == j) t) [ inl e ↦ moved_to a b (omega arith) h.0 (eqb-true a j e) | inr e ↦ moved_to c d hd h.1 (eqb-true c j e) ]

    vertex_found : list_all (is_in (map (node_number f s tet') (oriented tet' q))) (map (node_number f s tet) (oriented tet p)) ≡ true → (v : Vertex) → Has v tet → Has v tet'
    vertex_found h v i =
        let r = place_of (vertex 0 0 0) v tet i in
        subst (λ u. Has u tet') r.2 (slot_found h r.0 (let e = l.four in let g = r.1 in omega arith))

  -- pieces with the same nodes are of one lattice tetrahedron
  same_tet : (tet tet' : List Vertex) (l : IsLatticeTet f.dims tet) (l' : IsLatticeTet f.dims tet') (p q : List Corner) (m : Has p (case_pieces (signs_of f s tet))) (k : Has q (case_pieces (signs_of f s tet')))
      → same_nodes (map (node_number f s tet) (oriented tet p)) (map (node_number f s tet') (oriented tet' q)) ≡ true → tet ≡ tet'
  same_tet tet tet' l l' p q m k h =
      let g = and_parts (list_all (is_in (map (node_number f s tet') (oriented tet' q))) (map (node_number f s tet) (oriented tet p))) (list_all (is_in (map (node_number f s tet) (oriented tet p))) (map (node_number f s tet') (oriented tet' q))) h in
      same_members before before_itself before_back tet tet' (pairs_from_place (λ u w. before u w ≡ true) tet l.ordered) (pairs_from_place (λ u w. before u w ≡ true) tet' l'.ordered)
      (vertex_found tet tet' l l' p q m k g.0) (vertex_found tet' tet l' l q p k m g.1)

  -- and two pieces of one lattice tetrahedron differ
  has_all_if : (tet : List Vertex) (l : IsLatticeTet f.dims tet) (p q : List Corner) (m : Has p (case_pieces (signs_of f s tet))) (k : Has q (case_pieces (signs_of f s tet)))
      → list_all (is_in (map (node_number f s tet) (oriented tet q))) (map (node_number f s tet) (oriented tet p)) ≡ true → has_all p q ≡ true
  has_all_if tet l p q m k h = all p (λ c i. i)
    where
      found : (c : Corner) → Has c p → is_node_of q c ≡ true
      found c i =
          let g = node_found tet tet l l p q m k h c i in
          let pp = piece_in tet l p m in
          let pq = piece_in tet l q k in
          let e = same_nodes_if f tet l c g.0 (pp.nodes c i).0 (pq.nodes g.0 g.1).0 g.2 in
          any_of_member (same_corner c) c q (subst (λ d. Has d q) (sym e) g.1) (same_corner-itself c)

      all : (l : List Corner) → ((c : Corner) → Has c l → Has c p) → list_all (is_node_of q) l ≡ true
      all [] g = refl
      all (c ∷ l) g = and_from (is_node_of q c) (list_all (is_node_of q) l) (found c (g c (inl refl))) (all l (λ d i. g d (inr i)))

  tets_differ_in : (tet : List Vertex) → IsLatticeTet f.dims tet → Ascends (λ a b. same_nodes a b ≡ false) (tets_of f s tet)
  tets_differ_in tet l =
      ascends_mapped (λ p q. has_all p q ≡ false) (λ a b. same_nodes a b ≡ false) (λ p. map (node_number f s tet) (oriented tet p)) (case_pieces (signs_of f s tet))
      (ascends_from_test has_all (case_pieces (signs_of f s tet)) (pieces_differ (signs_of f s tet) (length-map tet (λ v. sign_of_state (state_of f s v)) ∙ l.four)))
      (λ p q m k h. false_from_ne_true (same_nodes (map (node_number f s tet) (oriented tet p)) (map (node_number f s tet) (oriented tet q)))
      (λ e. both_ways (has_all p q) h (has_all_if tet l p q m k (and_parts (list_all (is_in (map (node_number f s tet) (oriented tet q))) (map (node_number f s tet) (oriented tet p))) (list_all (is_in (map (node_number f s tet) (oriented tet p))) (map (node_number f s tet) (oriented tet q))) e).0)))

  all_tets_differ : Ascends (λ a b. same_nodes a b ≡ false) (flat_map (tets_of f s) (lattice_tets f.dims))
  all_tets_differ =
      ascends_blocks Differ (λ a b. same_nodes a b ≡ false) (tets_of f s) (lattice_tets f.dims) (lattice_tets_differ f.dims)
      (λ tet m. tets_differ_in tet ((lattice_tets_listed f.dims tet).0 m))
      (λ tet tet' m k h a b i j.
      (let r = from_map (λ p. map (node_number f s tet) (oriented tet p)) a (case_pieces (signs_of f s tet)) i in
      let q = from_map (λ p. map (node_number f s tet') (oriented tet' p)) b (case_pieces (signs_of f s tet')) j in
      false_from_ne_true (same_nodes a b) (λ e. h (same_tet tet tet' ((lattice_tets_listed f.dims tet).0 m) ((lattice_tets_listed f.dims tet').0 k) r.0 q.0 r.1 q.1 ((λ t. same_nodes (r.2 t) (q.2 t)) ∙ e)))))

pub tets_differ : TetsDiffer
tets_differ f s = pairs_by_place (λ a b. same_nodes a b ≡ false) (mesh f s).tets (subst (Ascends (λ a b. same_nodes a b ≡ false)) (sym (tets_are_pieces f s)) (all_tets_differ f s))
