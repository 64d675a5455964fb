-- The shared nodes of a piece of one lattice tetrahedron are, renamed, nodes of one piece of another: sixteen patterns of shared vertices, each by a computation over all cases.
use Rattle.std.specs.Prelude.{◌≡◌, ℕ, zero, suc, ◌+◌, ◌<◌, ◌≤◌, Bool, true, false, not, ◌&&◌, ◌||◌, ◌==◌, nat_lt, nat_le, List, [], ◌∷◌, filter, if◌then◌else◌}
use Rattle.std.specs.List.{list_any, list_all}
use Rattle.std.proofs.Common.{refl, sym, ap, subst, ◌∙◌, arith, inl, inr, ◌⊎◌, le_of_lt}
use Rattle.std.proofs.lemmas.Bool.{eqb-true, eq-eqb, and_parts, both_ways, or_cases, or_left, or_right, and_from, le-leb}
use Rattle.std.proofs.lemmas.Bool.Decides.{nat_tests}
use Rattle.definitions.specs.declared.Sign.{Sign}
use Rattle.definitions.specs.declared.Corner.{Corner}
use Rattle.definitions.specs.declared.Corner.TheVariants.{Whole, Cut}
use Rattle.definitions.specs.Stencils.{sign_at, has_plus, kept, facets, is_on_face, is_kept}
use Rattle.definitions.specs.Facets.{fill}
use Rattle.lattice_laws.specs.Ascending.{Has}
use Rattle.lattice_laws.specs.FiniteTests.{every_case, below}
use Rattle.lattice_laws.proofs.Booleans.{implied}
use Rattle.lattice_laws.proofs.Lists.{all_at_member, member_where, below_four}
use Rattle.lattice_laws.proofs.FiniteTests.{case_at, below_at}
use Rattle.stencil_laws.specs.Cases.{case_pieces, is_node_of, four_signs}
use Rattle.stencil_laws.specs.Faces.{slot_on_face, face_corner, signs_without, face_triangles}
use Rattle.stencil_laws.proofs.Forms.{all_at_node}
use Rattle.piece_laws.specs.Renaming.{renamed, Shared, shared_whole, shared_cut}

-- ---- faces
-- the slot of the tetrahedron that a slot of the face without f is
abbrev slot_from_face : ℕ → ℕ → ℕ
slot_from_face f n = if nat_lt n f then n else n + 1

-- the piece's nodes on the face are nodes of one of the face's triangles
abbrev on_triangle : ℕ → List Corner → List Corner → Bool
on_triangle f q t = list_all (λ c. not (is_on_face f c) || is_node_of t (face_corner f c)) q

abbrev piece_on_face : List Sign → ℕ → List Corner → Bool
piece_on_face y f q = list_any (on_triangle f q) (face_triangles (signs_without f y))

all_pieces_on_faces : every_case (λ y. below 4 (λ f. list_all (piece_on_face y f) (case_pieces y))) ≡ true
unfolding kept facets fill
all_pieces_on_faces = refl

-- the triangle's nodes are nodes of a piece
abbrev in_piece : ℕ → List Corner → List Corner → Bool
in_piece f t q = list_all (λ d. is_node_of q (renamed (slot_from_face f) d)) t

abbrev triangle_in_piece : List Sign → ℕ → List Corner → Bool
triangle_in_piece x f t = list_any (in_piece f t) (case_pieces x)

all_triangles_in_pieces : every_case (λ x. below 4 (λ f. not (has_plus x) || list_all (triangle_in_piece x f) (face_triangles (signs_without f x)))) ≡ true
unfolding kept facets fill
all_triangles_in_pieces = refl

-- ---- edges
-- the nodes on an edge by the signs of its ends
abbrev edge_nodes : Sign → Sign → List Corner
edge_nodes s t = filter (is_kept (s ∷ t ∷ [])) (Whole 0 ∷ Cut 0 1 ∷ Whole 1 ∷ [])

abbrev on_two : ℕ → ℕ → Corner → Bool
on_two a b (Whole c) = c == a || c == b
on_two a b (Cut c d) = c == a && d == b

abbrev to_edge : ℕ → ℕ → ℕ → ℕ
to_edge a b s = if s == a then 0 else 1

abbrev from_edge : ℕ → ℕ → ℕ → ℕ
from_edge i j n = if n == 0 then i else j

abbrev piece_on_edge : List Sign → ℕ → ℕ → List Corner → Bool
piece_on_edge y a b q = list_all (λ c. not (on_two a b c) || is_node_of (edge_nodes (sign_at y a) (sign_at y b)) (renamed (to_edge a b) c)) q

all_pieces_on_edges : every_case (λ y. below 4 (λ a. below 4 (λ b. not (nat_le a b) || list_all (piece_on_edge y a b) (case_pieces y)))) ≡ true
unfolding kept facets fill
all_pieces_on_edges = refl

abbrev edge_in_piece : List Sign → ℕ → ℕ → List Corner → Bool
edge_in_piece x i j q = list_all (λ d. is_node_of q (renamed (from_edge i j) d)) (edge_nodes (sign_at x i) (sign_at x j))

all_edges_in_pieces : every_case (λ x. below 4 (λ i. below 4 (λ j. not (has_plus x) || (not (nat_le i j) || list_any (edge_in_piece x i j) (case_pieces x))))) ≡ true
unfolding kept facets fill
all_edges_in_pieces = refl

-- ---- slots of a face
to_face_and_back : (f s : ℕ) → f < 4 → s < 4 → (s ≡ f → ⊥) → (slot_from_face f (slot_on_face f s) ≡ s) × (slot_on_face f s < 3)
to_face_and_back f s hf hs n = (grind (arith, nat_tests), grind (arith, nat_tests))

face_of_three : (i j l : ℕ) → i < j → j < l → l < 4 → (f : ℕ) × (f < 4) × (slot_from_face f 0 ≡ i) × (slot_from_face f 1 ≡ j) × (slot_from_face f 2 ≡ l)
face_of_three zero (suc zero) (suc (suc zero)) a b c = (3, omega arith, refl, refl, refl)
face_of_three zero (suc zero) (suc (suc (suc zero))) a b c = (2, omega arith, refl, refl, refl)
face_of_three zero (suc (suc zero)) (suc (suc (suc zero))) a b c = (1, omega arith, refl, refl, refl)
face_of_three (suc zero) (suc (suc zero)) (suc (suc (suc zero))) a b c = (0, omega arith, refl, refl, refl)
face_of_three i j l a b c = absurd (omega arith)

signs_without-are : (f : ℕ) (a b c d : Sign) → f < 4 → signs_without f (four_signs a b c d) ≡ sign_at (four_signs a b c d) (slot_from_face f 0) ∷ sign_at (four_signs a b c d) (slot_from_face f 1) ∷ sign_at (four_signs a b c d) (slot_from_face f 2) ∷ []
signs_without-are zero a b c d h = refl
signs_without-are (suc zero) a b c d h = refl
signs_without-are (suc (suc zero)) a b c d h = refl
signs_without-are (suc (suc (suc zero))) a b c d h = refl
signs_without-are (suc (suc (suc (suc f)))) a b c d h = absurd (omega arith)

module _ (x0 x1 x2 x3 y0 y1 y2 y3 : Sign) (μ : ℕ → ℕ) (is_weighted : ℕ → Bool)
    (into : (s : ℕ) → s < 4 → is_weighted s ≡ true → μ s < 4)
    (rising : (s t : ℕ) → s < t → t < 4 → is_weighted s ≡ true → is_weighted t ≡ true → μ s < μ t)
    (sames : (s : ℕ) → s < 4 → is_weighted s ≡ true → sign_at (four_signs y0 y1 y2 y3) s ≡ sign_at (four_signs x0 x1 x2 x3) (μ s))
    (plus : has_plus (four_signs x0 x1 x2 x3) ≡ true)
    (p q : List Corner) (ip : Has p (case_pieces (four_signs x0 x1 x2 x3))) (iq : Has q (case_pieces (four_signs y0 y1 y2 y3))) where
  abbrev pub CommonPiece : Type 0
  CommonPiece = (r : List Corner) × Has r (case_pieces (four_signs x0 x1 x2 x3)) × ((c : Corner) → is_node_of q c ≡ true → Shared is_weighted c → is_node_of r (renamed μ c) ≡ true)

  edge_case : (a b : ℕ) → a ≤ b → b < 4 → is_weighted a ≡ true → is_weighted b ≡ true → ((c : Corner) → Shared is_weighted c → on_two a b c ≡ true) → μ a ≤ μ b → CommonPiece
  edge_case a b le hb ea eb on le' =
      let ny = le-leb a b le in
      let nx = le-leb (μ a) (μ b) le' in
      let e1 = all_at_member (piece_on_edge (four_signs y0 y1 y2 y3) a b) (case_pieces (four_signs y0 y1 y2 y3)) q (implied (nat_le a b) _ (below_at 4 (λ b. not (nat_le a b) || list_all (piece_on_edge (four_signs y0 y1 y2 y3) a b) (case_pieces (four_signs y0 y1 y2 y3))) (below_at 4 (λ a. below 4 (λ b. not (nat_le a b) || list_all (piece_on_edge (four_signs y0 y1 y2 y3) a b) (case_pieces (four_signs y0 y1 y2 y3)))) (case_at (λ y. below 4 (λ a. below 4 (λ b. not (nat_le a b) || list_all (piece_on_edge y a b) (case_pieces y)))) all_pieces_on_edges y0 y1 y2 y3) a (omega arith)) b hb) ny) iq in
      let e2 = member_where (edge_in_piece (four_signs x0 x1 x2 x3) (μ a) (μ b)) (case_pieces (four_signs x0 x1 x2 x3)) (implied (nat_le (μ a) (μ b)) _ (implied (has_plus (four_signs x0 x1 x2 x3)) _ (below_at 4 (λ j. not (has_plus (four_signs x0 x1 x2 x3)) || (not (nat_le (μ a) j) || list_any (edge_in_piece (four_signs x0 x1 x2 x3) (μ a) j) (case_pieces (four_signs x0 x1 x2 x3)))) (below_at 4 (λ i. below 4 (λ j. not (has_plus (four_signs x0 x1 x2 x3)) || (not (nat_le i j) || list_any (edge_in_piece (four_signs x0 x1 x2 x3) i j) (case_pieces (four_signs x0 x1 x2 x3))))) (case_at (λ x. below 4 (λ i. below 4 (λ j. not (has_plus x) || (not (nat_le i j) || list_any (edge_in_piece x i j) (case_pieces x))))) all_edges_in_pieces x0 x1 x2 x3) (μ a) (into a (omega arith) ea)) (μ b) (into b hb eb)) plus) nx) in (
        e2.0,
        e2.1,
        λ c ic sh.
            let m = implied (on_two a b c) _ (all_at_node (λ c. not (on_two a b c) || is_node_of (edge_nodes (sign_at (four_signs y0 y1 y2 y3) a) (sign_at (four_signs y0 y1 y2 y3) b)) (renamed (to_edge a b) c)) q c e1 ic) (on c sh) in
            let m' = subst (λ (l : List Corner). is_node_of l (renamed (to_edge a b) c) ≡ true) (λ i. edge_nodes (sames a (omega arith) ea i) (sames b hb eb i)) m in
            let n = all_at_node (λ d. is_node_of e2.0 (renamed (from_edge (μ a) (μ b)) d)) (edge_nodes (sign_at (four_signs x0 x1 x2 x3) (μ a)) (sign_at (four_signs x0 x1 x2 x3) (μ b))) (renamed (to_edge a b) c) e2.2 m' in
            subst (λ (d : Corner). is_node_of e2.0 d ≡ true) (back c (on c sh)) n,
      )
    where
      name : (s : ℕ) → ((s == a) ≡ true) ⊎ ((s == b) ≡ true) → from_edge (μ a) (μ b) (to_edge a b s) ≡ μ s
      name s h = go (s == a) refl h
        where
          go : (t : Bool) → (s == a) ≡ t → ((s == a) ≡ true) ⊎ ((s == b) ≡ true) → from_edge (μ a) (μ b) (if t then 0 else 1) ≡ μ s
          go true e h = ap μ (sym (eqb-true s a e))
          go false e (inl h) = cc
          go false e (inr h) = ap μ (sym (eqb-true s b h))

      back : (c : Corner) → on_two a b c ≡ true → renamed (from_edge (μ a) (μ b)) (renamed (to_edge a b) c) ≡ renamed μ c
      back (Whole s) h = ap Whole (name s (or_cases (s == a) (s == b) h))
      back (Cut s t) h = let g = and_parts (s == a) _ h in λ i. Cut (name s (inl g.0) i) (name t (inr g.1) i)

  face_case : (f' f : ℕ) → f' < 4 → f < 4 → is_weighted f' ≡ false → ((s : ℕ) → s < 4 → (s ≡ f' → ⊥) → is_weighted s ≡ true) → μ (slot_from_face f' 0) ≡ slot_from_face f 0 → μ (slot_from_face f' 1) ≡ slot_from_face f 1 → μ (slot_from_face f' 2) ≡ slot_from_face f 2 → CommonPiece
  face_case f' f hf' hf offset on m0 m1 m2 =
      let e1 = all_at_member (piece_on_face (four_signs y0 y1 y2 y3) f') (case_pieces (four_signs y0 y1 y2 y3)) q (below_at 4 (λ f. list_all (piece_on_face (four_signs y0 y1 y2 y3) f) (case_pieces (four_signs y0 y1 y2 y3))) (case_at (λ y. below 4 (λ f. list_all (piece_on_face y f) (case_pieces y))) all_pieces_on_faces y0 y1 y2 y3) f' hf') iq in
      let t = member_where (on_triangle f' q) (face_triangles (signs_without f' (four_signs y0 y1 y2 y3))) e1 in
      let it = subst (λ (l : List Sign). Has t.0 (face_triangles l)) same_signs t.1 in
      let e2 = all_at_member (triangle_in_piece (four_signs x0 x1 x2 x3) f) (face_triangles (signs_without f (four_signs x0 x1 x2 x3))) t.0 (implied (has_plus (four_signs x0 x1 x2 x3)) _ (below_at 4 (λ f. not (has_plus (four_signs x0 x1 x2 x3)) || list_all (triangle_in_piece (four_signs x0 x1 x2 x3) f) (face_triangles (signs_without f (four_signs x0 x1 x2 x3)))) (case_at (λ x. below 4 (λ f. not (has_plus x) || list_all (triangle_in_piece x f) (face_triangles (signs_without f x)))) all_triangles_in_pieces x0 x1 x2 x3) f hf) plus) it in
      let r = member_where (in_piece f t.0) (case_pieces (four_signs x0 x1 x2 x3)) e2 in (
        r.0,
        r.1,
        λ c ic sh.
            let m = implied (is_on_face f' c) _ (all_at_node (λ c. not (is_on_face f' c) || is_node_of t.0 (face_corner f' c)) q c t.2 ic) (on_face c sh) in
            let n = all_at_node (λ d. is_node_of r.0 (renamed (slot_from_face f) d)) t.0 (face_corner f' c) r.2 m in
            subst (λ (d : Corner). is_node_of r.0 d ≡ true) (back c sh) n,
      )
    where
      third : (n : ℕ) → n < 3 → μ (slot_from_face f' n) ≡ slot_from_face f n
      third zero h = m0
      third (suc zero) h = m1
      third (suc (suc zero)) h = m2
      third (suc (suc (suc n))) h = absurd (omega arith)

      apart_from : (s : ℕ) → is_weighted s ≡ true → s ≡ f' → ⊥
      apart_from s e g = let h = ap is_weighted g in cc

      sign_third : (n : ℕ) → n < 3 → slot_from_face f' n < 4 → (slot_from_face f' n ≡ f' → ⊥) → sign_at (four_signs y0 y1 y2 y3) (slot_from_face f' n) ≡ sign_at (four_signs x0 x1 x2 x3) (slot_from_face f n)
      sign_third n h hu ne = sames (slot_from_face f' n) hu (on (slot_from_face f' n) hu ne) ∙ ap (sign_at (four_signs x0 x1 x2 x3)) (third n h)

      up_facts : (n : ℕ) → n < 3 → (slot_from_face f' n < 4) × (slot_from_face f' n ≡ f' → ⊥)
      up_facts n h = (grind (arith, nat_tests), grind (arith, nat_tests))

      same_signs : signs_without f' (four_signs y0 y1 y2 y3) ≡ signs_without f (four_signs x0 x1 x2 x3)
      same_signs =
          let a = up_facts 0 (omega arith) in
          let b = up_facts 1 (omega arith) in
          let c = up_facts 2 (omega arith) in
          signs_without-are f' y0 y1 y2 y3 hf' ∙ (λ i. sign_third 0 (omega arith) a.0 a.1 i ∷ sign_third 1 (omega arith) b.0 b.1 i ∷ sign_third 2 (omega arith) c.0 c.1 i ∷ []) ∙ sym (signs_without-are f x0 x1 x2 x3 hf)

      not_eq : (s : ℕ) → (s ≡ f' → ⊥) → not (s == f') ≡ true
      not_eq s n = go (s == f') refl
        where
          go : (b : Bool) → (s == f') ≡ b → not b ≡ true
          go true e = absurd (n (eqb-true s f' e))
          go false e = refl

      on_face : (c : Corner) → Shared is_weighted c → is_on_face f' c ≡ true
      on_face c (shared_whole a h e) = not_eq a (apart_from a e)
      on_face c (shared_cut a b lt h ea eb) = and_from _ _ (not_eq a (apart_from a ea)) (not_eq b (apart_from b eb))

      column : (s : ℕ) → s < 4 → is_weighted s ≡ true → slot_from_face f (slot_on_face f' s) ≡ μ s
      column s h e = let d = to_face_and_back f' s hf' h (apart_from s e) in sym (third (slot_on_face f' s) d.1) ∙ ap μ d.0

      back : (c : Corner) → Shared is_weighted c → renamed (slot_from_face f) (face_corner f' c) ≡ renamed μ c
      back c (shared_whole a h e) = ap Whole (column a h e)
      back c (shared_cut a b lt h ea eb) = λ i. Cut (column a (omega arith) ea i) (column b h eb i)

  only : (a b : ℕ) → a ≤ b → ((s : ℕ) → s < 4 → is_weighted s ≡ true → (s ≡ a) ⊎ (s ≡ b)) → (c : Corner) → Shared is_weighted c → on_two a b c ≡ true
  only a b le h c (shared_whole s hs e) = go (h s hs e)
    where
      go : (s ≡ a) ⊎ (s ≡ b) → (s == a || s == b) ≡ true
      go (inl f) = or_left (s == a) (s == b) (eq-eqb s a f)
      go (inr f) = or_right (s == a) (s == b) (eq-eqb s b f)
  only a b le h c (shared_cut s t lt ht es et) = go (h s (omega arith) es) (h t ht et)
    where
      go : (s ≡ a) ⊎ (s ≡ b) → (t ≡ a) ⊎ (t ≡ b) → (s == a && t == b) ≡ true
      go (inl f) (inr g) = and_from (s == a) (t == b) (eq-eqb s a f) (eq-eqb t b g)
      go (inl f) (inl g) = absurd (omega arith)
      go (inr f) (inr g) = absurd (omega arith)
      go (inr f) (inl g) = absurd (omega arith)

  none_case : ((s : ℕ) → s < 4 → is_weighted s ≡ true → ⊥) → CommonPiece
  none_case h = (p, ip, λ c ic sh. absurd (go c sh))
    where
      go : (c : Corner) → Shared is_weighted c → ⊥
      go c (shared_whole a l e) = h a l e
      go c (shared_cut a b lt l ea eb) = h b l eb

  full_case : ((s : ℕ) → s < 4 → is_weighted s ≡ true) → CommonPiece
  full_case h =
      (q, subst (λ (l : List Sign). Has q (case_pieces l)) same_signs iq, λ c ic sh. subst (λ (d : Corner). is_node_of q d ≡ true) (sym (back c sh)) ic)
    where
      on : (s : ℕ) → s < 4 → μ s ≡ s
      on =
          let r0 = rising 0 1 (omega arith) (omega arith) (h 0 (omega arith)) (h 1 (omega arith)) in
          let r1 = rising 1 2 (omega arith) (omega arith) (h 1 (omega arith)) (h 2 (omega arith)) in
          let r2 = rising 2 3 (omega arith) (omega arith) (h 2 (omega arith)) (h 3 (omega arith)) in
          let r3 = into 3 (omega arith) (h 3 (omega arith)) in
          below_four (λ s. μ s ≡ s) (omega arith) (omega arith) (omega arith) (omega arith)

      same_sign : (s : ℕ) → s < 4 → sign_at (four_signs y0 y1 y2 y3) s ≡ sign_at (four_signs x0 x1 x2 x3) s
      same_sign s l = sames s l (h s l) ∙ ap (sign_at (four_signs x0 x1 x2 x3)) (on s l)

      same_signs : four_signs y0 y1 y2 y3 ≡ four_signs x0 x1 x2 x3
      same_signs = λ i. four_signs (same_sign 0 (omega arith) i) (same_sign 1 (omega arith) i) (same_sign 2 (omega arith) i) (same_sign 3 (omega arith) i)

      back : (c : Corner) → Shared is_weighted c → renamed μ c ≡ c
      back c (shared_whole a l e) = ap Whole (on a l)
      back c (shared_cut a b lt l ea eb) = λ i. Cut (on a (omega arith) i) (on b l i)

  three_case : (f' : ℕ) → f' < 4 → is_weighted f' ≡ false → ((s : ℕ) → s < 4 → (s ≡ f' → ⊥) → is_weighted s ≡ true) → slot_from_face f' 0 < slot_from_face f' 1 → slot_from_face f' 1 < slot_from_face f' 2 → slot_from_face f' 2 < 4 → (slot_from_face f' 0 ≡ f' → ⊥) → (slot_from_face f' 1 ≡ f' → ⊥) → (slot_from_face f' 2 ≡ f' → ⊥) → CommonPiece
  three_case f' hf offset on l0 l1 l2 n0 n1 n2 =
      let e0 = on (slot_from_face f' 0) (omega arith) n0 in
      let e1 = on (slot_from_face f' 1) (omega arith) n1 in
      let e2 = on (slot_from_face f' 2) l2 n2 in
      let m = face_of_three (μ (slot_from_face f' 0)) (μ (slot_from_face f' 1)) (μ (slot_from_face f' 2)) (rising (slot_from_face f' 0) (slot_from_face f' 1) l0 (omega arith) e0 e1) (rising (slot_from_face f' 1) (slot_from_face f' 2) l1 l2 e1 e2) (into (slot_from_face f' 2) l2 e2) in
      face_case f' m.0 hf m.1 offset on (sym m.2) (sym m.3) (sym m.4)

  -- one piece of the first tetrahedron has all shared nodes of the piece q of the second, renamed: by the pattern of shared vertices
  pub choose : CommonPiece
  choose = go (is_weighted 0) (is_weighted 1) (is_weighted 2) (is_weighted 3) refl refl refl refl
    where
      none_here : (s : ℕ) {A : Type 0} → is_weighted s ≡ false → is_weighted s ≡ true → A
      none_here s e f = absurd (both_ways (is_weighted s) e f)

      go : (a b c d : Bool) → is_weighted 0 ≡ a → is_weighted 1 ≡ b → is_weighted 2 ≡ c → is_weighted 3 ≡ d → CommonPiece
      go true true true true e0 e1 e2 e3 = full_case (below_four (λ s. is_weighted s ≡ true) e0 e1 e2 e3)
      go true true true false e0 e1 e2 e3 = three_case 3 (omega arith) e3 (below_four (λ s. (s ≡ 3 → ⊥) → is_weighted s ≡ true) (λ n. e0) (λ n. e1) (λ n. e2) (λ n. absurd (n refl))) (omega arith) (omega arith) (omega arith) (λ e. omega arith) (λ e. omega arith) (λ e. omega arith)
      go true true false true e0 e1 e2 e3 = three_case 2 (omega arith) e2 (below_four (λ s. (s ≡ 2 → ⊥) → is_weighted s ≡ true) (λ n. e0) (λ n. e1) (λ n. absurd (n refl)) (λ n. e3)) (omega arith) (omega arith) (omega arith) (λ e. omega arith) (λ e. omega arith) (λ e. omega arith)
      go true true false false e0 e1 e2 e3 = edge_case 0 1 (omega arith) (omega arith) e0 e1 (only 0 1 (omega arith) (below_four (λ s. is_weighted s ≡ true → (s ≡ 0) ⊎ (s ≡ 1)) (λ e. inl refl) (λ e. inr refl) (none_here 2 e2) (none_here 3 e3))) (le_of_lt (rising 0 1 (omega arith) (omega arith) e0 e1))
      go true false true true e0 e1 e2 e3 = three_case 1 (omega arith) e1 (below_four (λ s. (s ≡ 1 → ⊥) → is_weighted s ≡ true) (λ n. e0) (λ n. absurd (n refl)) (λ n. e2) (λ n. e3)) (omega arith) (omega arith) (omega arith) (λ e. omega arith) (λ e. omega arith) (λ e. omega arith)
      go true false true false e0 e1 e2 e3 = edge_case 0 2 (omega arith) (omega arith) e0 e2 (only 0 2 (omega arith) (below_four (λ s. is_weighted s ≡ true → (s ≡ 0) ⊎ (s ≡ 2)) (λ e. inl refl) (none_here 1 e1) (λ e. inr refl) (none_here 3 e3))) (le_of_lt (rising 0 2 (omega arith) (omega arith) e0 e2))
      go true false false true e0 e1 e2 e3 = edge_case 0 3 (omega arith) (omega arith) e0 e3 (only 0 3 (omega arith) (below_four (λ s. is_weighted s ≡ true → (s ≡ 0) ⊎ (s ≡ 3)) (λ e. inl refl) (none_here 1 e1) (none_here 2 e2) (λ e. inr refl))) (le_of_lt (rising 0 3 (omega arith) (omega arith) e0 e3))
      go true false false false e0 e1 e2 e3 = edge_case 0 0 (omega arith) (omega arith) e0 e0 (only 0 0 (omega arith) (below_four (λ s. is_weighted s ≡ true → (s ≡ 0) ⊎ (s ≡ 0)) (λ e. inl refl) (none_here 1 e1) (none_here 2 e2) (none_here 3 e3))) (omega arith)
      go false true true true e0 e1 e2 e3 = three_case 0 (omega arith) e0 (below_four (λ s. (s ≡ 0 → ⊥) → is_weighted s ≡ true) (λ n. absurd (n refl)) (λ n. e1) (λ n. e2) (λ n. e3)) (omega arith) (omega arith) (omega arith) (λ e. omega arith) (λ e. omega arith) (λ e. omega arith)
      go false true true false e0 e1 e2 e3 = edge_case 1 2 (omega arith) (omega arith) e1 e2 (only 1 2 (omega arith) (below_four (λ s. is_weighted s ≡ true → (s ≡ 1) ⊎ (s ≡ 2)) (none_here 0 e0) (λ e. inl refl) (λ e. inr refl) (none_here 3 e3))) (le_of_lt (rising 1 2 (omega arith) (omega arith) e1 e2))
      go false true false true e0 e1 e2 e3 = edge_case 1 3 (omega arith) (omega arith) e1 e3 (only 1 3 (omega arith) (below_four (λ s. is_weighted s ≡ true → (s ≡ 1) ⊎ (s ≡ 3)) (none_here 0 e0) (λ e. inl refl) (none_here 2 e2) (λ e. inr refl))) (le_of_lt (rising 1 3 (omega arith) (omega arith) e1 e3))
      go false true false false e0 e1 e2 e3 = edge_case 1 1 (omega arith) (omega arith) e1 e1 (only 1 1 (omega arith) (below_four (λ s. is_weighted s ≡ true → (s ≡ 1) ⊎ (s ≡ 1)) (none_here 0 e0) (λ e. inl refl) (none_here 2 e2) (none_here 3 e3))) (omega arith)
      go false false true true e0 e1 e2 e3 = edge_case 2 3 (omega arith) (omega arith) e2 e3 (only 2 3 (omega arith) (below_four (λ s. is_weighted s ≡ true → (s ≡ 2) ⊎ (s ≡ 3)) (none_here 0 e0) (none_here 1 e1) (λ e. inl refl) (λ e. inr refl))) (le_of_lt (rising 2 3 (omega arith) (omega arith) e2 e3))
      go false false true false e0 e1 e2 e3 = edge_case 2 2 (omega arith) (omega arith) e2 e2 (only 2 2 (omega arith) (below_four (λ s. is_weighted s ≡ true → (s ≡ 2) ⊎ (s ≡ 2)) (none_here 0 e0) (none_here 1 e1) (λ e. inl refl) (none_here 3 e3))) (omega arith)
      go false false false true e0 e1 e2 e3 = edge_case 3 3 (omega arith) (omega arith) e3 e3 (only 3 3 (omega arith) (below_four (λ s. is_weighted s ≡ true → (s ≡ 3) ⊎ (s ≡ 3)) (none_here 0 e0) (none_here 1 e1) (none_here 2 e2) (λ e. inl refl))) (omega arith)
      go false false false false e0 e1 e2 e3 = none_case (below_four (λ s. is_weighted s ≡ true → ⊥) (none_here 0 e0) (none_here 1 e1) (none_here 2 e2) (none_here 3 e3))
