-- Triangles with the same nodes, from nodes by slots to keys, and how often a triangle is one of a piece.
use Rattle.std.proofs.Common.{inl, inr, ◌≡◌, ℕ, ◌<◌, Bool, true, false, ◌==◌, List, [], ◌∷◌, map, refl, sym, ap, subst, if◌then◌else◌}
use Rattle.std.specs.Prelude.{int_lt, pos}
use Rattle.std.specs.List.{list_any, list_all}
use Rattle.std.proofs.lemmas.Bool.{eqb-true, eq-eqb, and_parts, or_cases, and_from, or_left, or_right}
use Rattle.definitions.specs.declared.Vertex.{Vertex}
use Rattle.definitions.specs.declared.Corner.{Corner}
use Rattle.definitions.specs.Facets.{holds}
use Rattle.definitions.specs.Pieces.{oriented, swap_last_two, middle}
use Rattle.definitions.specs.Soundness.{is_in, same_nodes, triangles_of}
use Rattle.definitions.specs.Stencils.{same_corner}
use Rattle.definitions.specs.Vectors.{det}
use Rattle.lattice_laws.specs.Ascending.{Has}
use Rattle.lattice_laws.proofs.KeyOrder.{corner_from_same}
use Rattle.lattice_laws.proofs.Lists.{member_where}
use Rattle.lattice_laws.proofs.Members.{has_map, has_append_left, has_append_right}
use Rattle.triangle_laws.proofs.Sums.{hits, hits_of_member}
use Rattle.face_laws.specs.Sides.{corner_triangles, sides, has_side, same_corners}

-- ---- the same nodes

in_subset : (u t : List ℕ) (n : ℕ) → list_all (is_in u) t ≡ true → is_in t n ≡ true → is_in u n ≡ true
in_subset u [] n h k = cc
in_subset u (m ∷ t) n h k =
    let s = and_parts (is_in u m) (list_all (is_in u) t) h in
    elim (or_cases (m == n) (is_in t n) k) [ inl e ↦ subst (λ x. is_in u x ≡ true) (eqb-true m n e) s.0 | inr e ↦ in_subset u t n s.1 e ]

subset_chain : (u t s : List ℕ) → list_all (is_in t) s ≡ true → list_all (is_in u) t ≡ true → list_all (is_in u) s ≡ true
subset_chain u t [] h k = refl
subset_chain u t (n ∷ s) h k = let r = and_parts (is_in t n) (list_all (is_in t) s) h in and_from (is_in u n) _ (in_subset u t n k r.0) (subset_chain u t s r.1 k)

-- two that have the same nodes as a third
pub same_by_third : (s t u : List ℕ) → same_nodes s u ≡ true → same_nodes t u ≡ true → same_nodes s t ≡ true
same_by_third s t u h k =
    let a = and_parts (list_all (is_in u) s) (list_all (is_in s) u) h in
    let b = and_parts (list_all (is_in u) t) (list_all (is_in t) u) k in
    and_from _ _ (subset_chain t u s a.0 b.1) (subset_chain s u t b.0 a.1)

subset_more : (m : ℕ) (t s : List ℕ) → list_all (is_in t) s ≡ true → list_all (is_in (m ∷ t)) s ≡ true
subset_more m t [] h = refl
subset_more m t (n ∷ s) h = let r = and_parts (is_in t n) (list_all (is_in t) s) h in and_from (is_in (m ∷ t) n) _ (or_right (m == n) (is_in t n) r.0) (subset_more m t s r.1)

subset_itself : (t : List ℕ) → list_all (is_in t) t ≡ true
subset_itself [] = refl
subset_itself (n ∷ t) = and_from (is_in (n ∷ t) n) _ (or_left (n == n) (is_in t n) (eq-eqb n n refl)) (subset_more n t t (subset_itself t))

pub same_itself : (t : List ℕ) → same_nodes t t ≡ true
same_itself t = and_from _ _ (subset_itself t) (subset_itself t)

-- ---- from nodes by slots to keys

module _ (key : Corner → ℕ) where
  in_keys : (t : List Corner) (c : Corner) → holds same_corner t c ≡ true → is_in (map key t) (key c) ≡ true
  in_keys [] c h = cc
  in_keys (e ∷ t) c h =
      elim (or_cases (same_corner c e) (holds same_corner t c) h) [
        | inl f ↦ or_left (key e == key c) _ (eq-eqb (key e) (key c) (ap key (sym (corner_from_same c e f))))
        | inr f ↦ or_right (key e == key c) _ (in_keys t c f)
      ]

  subset_keys : (t s : List Corner) → list_all (holds same_corner t) s ≡ true → list_all (is_in (map key t)) (map key s) ≡ true
  subset_keys t [] h = refl
  subset_keys t (c ∷ s) h = let r = and_parts (holds same_corner t c) (list_all (holds same_corner t) s) h in and_from (is_in (map key t) (key c)) _ (in_keys t c r.0) (subset_keys t s r.1)

  pub same_keys : (s t : List Corner) → same_corners s t ≡ true → same_nodes (map key s) (map key t) ≡ true
  same_keys s t h = let r = and_parts (list_all (holds same_corner t) s) (list_all (holds same_corner s) t) h in and_from _ _ (subset_keys t s r.0) (subset_keys s t r.1)

  pub triangles_of_keys : (p : List Corner) → triangles_of (map key p) ≡ map (map key) (corner_triangles p)
  triangles_of_keys (a ∷ b ∷ c ∷ d ∷ []) = refl
  triangles_of_keys [] = refl
  triangles_of_keys (a ∷ []) = refl
  triangles_of_keys (a ∷ b ∷ []) = refl
  triangles_of_keys (a ∷ b ∷ c ∷ []) = refl
  triangles_of_keys (a ∷ b ∷ c ∷ d ∷ e ∷ more) = refl

-- ---- a piece as it is directed

directed : (is_it : List Corner → Bool) (b : Bool) (p : List Corner) → has_side is_it p ≡ true → list_any is_it (corner_triangles (if b then swap_last_two p else p)) ≡ true
directed is_it true p h = (and_parts (list_any is_it (corner_triangles p)) _ h).1
directed is_it false p h = (and_parts (list_any is_it (corner_triangles p)) _ h).0

one_of_sides : (b : Bool) (p t : List Corner) → Has t (corner_triangles (if b then swap_last_two p else p)) → Has t (sides p)
one_of_sides true p t h = has_append_right t (corner_triangles p) (corner_triangles (swap_last_two p)) h
one_of_sides false p t h = has_append_left t (corner_triangles p) (corner_triangles (swap_last_two p)) h

pub oriented_side : (tet : List Vertex) (p t : List Corner) → Has t (corner_triangles (oriented tet p)) → Has t (sides p)
unfolding oriented
oriented_side tet p t h = one_of_sides (int_lt (det (map (middle tet) p)) (pos 0)) p t h

-- how many of a tetrahedron's triangles have the nodes of t
abbrev pub times_in : List ℕ → List ℕ → ℕ
times_in t tet = hits (same_nodes t) (triangles_of tet)

-- a piece that has it has it once at least
pub side_counts : (key : Corner → ℕ) (tet : List Vertex) (t : List ℕ) (is_it : List Corner → Bool) → ((u : List Corner) → is_it u ≡ true → same_nodes t (map key u) ≡ true) → (p : List Corner) → has_side is_it p ≡ true → 0 < times_in t (map key (oriented tet p))
unfolding oriented
side_counts key tet t is_it agree p h =
    let q = oriented tet p in
    let m = member_where is_it (corner_triangles q) (directed is_it (int_lt (det (map (middle tet) p)) (pos 0)) p h) in
    hits_of_member (same_nodes t) (map key m.0) (triangles_of (map key q)) (subst (Has (map key m.0)) (sym (triangles_of_keys key q)) (has_map (map key) m.0 (corner_triangles q) m.1)) (agree m.0 m.2)
