-- The boundary of tetrahedra whose nodes are numbered anew: of the mesh, whose nodes are numbers, from that of the pieces, whose nodes are keys.
use Rattle.std.proofs.Common.{inl, inr, ◌≡◌, ℕ, Bool, true, false, ◌==◌, cond, List, [], ◌∷◌, ◌++◌, map, get_or, refl, sym, ap, ◌∙◌, subst}
use Rattle.std.specs.Prelude.{count_by, filter, slice_index}
use Rattle.std.specs.List.{list_any, list_all, AllByRecursion}
use Rattle.std.proofs.lemmas.Bool.{eqb-true, eq-eqb, and_parts, or_cases, and_from, or_left, or_right}
use Rattle.std.proofs.lemmas.List.{map-append}
use Rattle.std.proofs.lemmas.List.Folds.{list_all-map}
use Rattle.list_words.proofs.Tests.{same_tests}
use Rattle.definitions.specs.Values.{Field}
use Rattle.definitions.specs.States.{Shares, states}
use Rattle.definitions.specs.Mesh.{all_pieces, mesh, node_keys, number_of, occurs}
use Rattle.definitions.specs.Soundness.{all_triangles, boundary, is_in, is_level_key, same_nodes, tets_at_triangle, triangles_of}
use Rattle.lattice_laws.specs.Ascending.{Has}
use Rattle.lattice_laws.proofs.Lists.{member_where}
use Rattle.lattice_laws.proofs.Members.{from_filter, from_flat_map, from_map, all_from_members}
use Rattle.lattice_laws.proofs.Sublists.{has_at}
use Rattle.triangle_laws.proofs.Sums.{total-is, total-map, total-every, bit}
use Rattle.node_laws.proofs.NumbersLeadBack.{numbers_lead_back}
use Rattle.node_laws.proofs.Padding.{states_are_padded}
use Rattle.node_laws.proofs.Standing.{keys_are_below}
use Rattle.face_laws.specs.Laws.{BoundariesAreNumbered, MeshBoundaryIsLevel}
use Rattle.face_laws.proofs.LevelBoundary.{at_level}
use Rattle.node_laws.proofs.Pieces.{occurs_in}

-- ---- lists that are mapped

triangles_mapped : (f : ℕ → ℕ) (tet : List ℕ) → triangles_of (map f tet) ≡ map (map f) (triangles_of tet)
triangles_mapped f (a ∷ b ∷ c ∷ d ∷ []) = refl
triangles_mapped f [] = refl
triangles_mapped f (a ∷ []) = refl
triangles_mapped f (a ∷ b ∷ []) = refl
triangles_mapped f (a ∷ b ∷ c ∷ []) = refl
triangles_mapped f (a ∷ b ∷ c ∷ d ∷ e ∷ more) = refl

all_triangles_mapped : (f : ℕ → ℕ) (tets : List (List ℕ)) → all_triangles (map (map f) tets) ≡ map (map f) (all_triangles tets)
all_triangles_mapped f [] = refl
all_triangles_mapped f (t ∷ tets) = (λ i. triangles_mapped f t i ++ all_triangles_mapped f tets i) ∙ sym (map-append (map f) (triangles_of t) (all_triangles tets))

-- the filter of a mapped list, where the tests agree
filter_mapped : {X Y : Type 0} (f : X → Y) (p : Y → Bool) (q : X → Bool) (xs : List X) → ((x : X) → Has x xs → p (f x) ≡ q x) → filter p (map f xs) ≡ map f (filter q xs)
filter_mapped f p q [] h = refl
filter_mapped f p q (x ∷ xs) h = go (p (f x)) (q x) (h x (inl refl)) (filter_mapped f p q xs (λ y m. h y (inr m)))
  where
    go : (b c : Bool) → b ≡ c → filter p (map f xs) ≡ map f (filter q xs) → cond b (f x ∷ filter p (map f xs)) (filter p (map f xs)) ≡ map f (cond c (x ∷ filter q xs) (filter q xs))
    go true true e k = ap (λ zs. f x ∷ zs) k
    go false false e k = k
    go true false e k = cc
    go false true e k = cc

-- ---- the same nodes, numbered anew

is_in_mapped : (f : ℕ → ℕ) (n : ℕ) (t : List ℕ) → is_in t n ≡ true → is_in (map f t) (f n) ≡ true
is_in_mapped f n [] h = cc
is_in_mapped f n (m ∷ t) h =
    elim (or_cases (m == n) (is_in t n) h) [
      | inl e ↦ or_left (f m == f n) _ (eq-eqb (f m) (f n) (ap f (eqb-true m n e)))
      | inr e ↦ or_right (f m == f n) _ (is_in_mapped f n t e)
    ]

subset_mapped : (f : ℕ → ℕ) (t s : List ℕ) → list_all (is_in t) s ≡ true → list_all (is_in (map f t)) (map f s) ≡ true
subset_mapped f t [] h = refl
subset_mapped f t (n ∷ s) h = let r = and_parts (is_in t n) (list_all (is_in t) s) h in and_from _ _ (is_in_mapped f n t r.0) (subset_mapped f t s r.1)

same_mapped : (f : ℕ → ℕ) (s t : List ℕ) → same_nodes s t ≡ true → same_nodes (map f s) (map f t) ≡ true
same_mapped f s t h = let r = and_parts (list_all (is_in t) s) (list_all (is_in s) t) h in and_from _ _ (subset_mapped f t s r.0) (subset_mapped f s t r.1)

module _ (number back : ℕ → ℕ) where
  -- the numbers of the nodes lead back
  abbrev LeadBack : List ℕ → Type 0
  LeadBack t = AllByRecursion (λ n. back (number n) ≡ n) t

  led_back : (t : List ℕ) → LeadBack t → map back (map number t) ≡ t
  led_back [] h = refl
  led_back (n ∷ t) h = λ i. h.0 i ∷ led_back t h.1 i

  same_numbered : (s t : List ℕ) → LeadBack s → LeadBack t → same_nodes (map number s) (map number t) ≡ same_nodes s t
  same_numbered s t h k =
      same_tests _ _ (λ e. sym (λ i. same_nodes (led_back s h i) (led_back t k i)) ∙ same_mapped back (map number s) (map number t) e) (same_mapped number s t)

  module _ (tets : List (List ℕ)) (all : (t : List ℕ) → Has t (all_triangles tets) → LeadBack t) where
    times_numbered : (t : List ℕ) → Has t (all_triangles tets) → tets_at_triangle (map (map number) tets) (map number t) ≡ tets_at_triangle tets t
    times_numbered t m =
        ap (count_by (same_nodes (map number t))) (all_triangles_mapped number tets)
        ∙ total-is (λ u. bit (same_nodes (map number t) u)) (map (map number) (all_triangles tets))
        ∙ total-map (λ u. bit (same_nodes (map number t) u)) (map number) (all_triangles tets)
        ∙ total-every (λ u. bit (same_nodes (map number t) (map number u))) (λ u. bit (same_nodes t u)) (all_triangles tets)
        (all_from_members (λ u. bit (same_nodes (map number t) (map number u)) ≡ bit (same_nodes t u)) (all_triangles tets) (λ u k. ap bit (same_numbered t u (all t m) (all u k))))
        ∙ sym (total-is (λ u. bit (same_nodes t u)) (all_triangles tets))

    boundary_numbered : boundary (map (map number) tets) ≡ map (map number) (boundary tets)
    boundary_numbered =
        ap (filter (λ t. tets_at_triangle (map (map number) tets) t == 1)) (all_triangles_mapped number tets)
        ∙ filter_mapped (map number) (λ t. tets_at_triangle (map (map number) tets) t == 1) (λ t. tets_at_triangle tets t == 1) (all_triangles tets) (λ t m. ap (λ n. n == 1) (times_numbered t m))

pub boundaries_are_numbered : BoundariesAreNumbered
boundaries_are_numbered number back tets h = boundary_numbered number back tets (λ t m. all_from_members (λ n. back (number n) ≡ n) t (λ n k. h n (occurs_in (all_triangles tets) t n m k)))

-- ---- the mesh

-- a node of a triangle is a node of its tetrahedron
corner_of : (tet t : List ℕ) (n : ℕ) → Has t (triangles_of tet) → Has n t → Has n tet
corner_of (a ∷ b ∷ c ∷ d ∷ []) t n h k = go h
  where
    in_first : Has n (a ∷ c ∷ b ∷ []) → Has n (a ∷ b ∷ c ∷ d ∷ [])
    in_first (inl e) = inl e
    in_first (inr (inl e)) = inr (inr (inl e))
    in_first (inr (inr (inl e))) = inr (inl e)
    in_first (inr (inr (inr e))) = absurd e

    in_second : Has n (a ∷ b ∷ d ∷ []) → Has n (a ∷ b ∷ c ∷ d ∷ [])
    in_second (inl e) = inl e
    in_second (inr (inl e)) = inr (inl e)
    in_second (inr (inr (inl e))) = inr (inr (inr (inl e)))
    in_second (inr (inr (inr e))) = absurd e

    in_third : Has n (a ∷ d ∷ c ∷ []) → Has n (a ∷ b ∷ c ∷ d ∷ [])
    in_third (inl e) = inl e
    in_third (inr (inl e)) = inr (inr (inr (inl e)))
    in_third (inr (inr (inl e))) = inr (inr (inl e))
    in_third (inr (inr (inr e))) = absurd e

    go : Has t (triangles_of (a ∷ b ∷ c ∷ d ∷ [])) → Has n (a ∷ b ∷ c ∷ d ∷ [])
    go (inl e) = in_first (subst (Has n) (sym e) k)
    go (inr (inl e)) = in_second (subst (Has n) (sym e) k)
    go (inr (inr (inl e))) = in_third (subst (Has n) (sym e) k)
    go (inr (inr (inr (inl e)))) = inr (subst (Has n) (sym e) k)
    go (inr (inr (inr (inr e)))) = absurd e
corner_of [] t n h k = absurd h
corner_of (a ∷ []) t n h k = absurd h
corner_of (a ∷ b ∷ []) t n h k = absurd h
corner_of (a ∷ b ∷ c ∷ []) t n h k = absurd h
corner_of (a ∷ b ∷ c ∷ d ∷ e ∷ more) t n h k = absurd h

-- a node of a triangle occurs among the tetrahedra
corner_occurs : (tets : List (List ℕ)) (n : ℕ) → occurs (all_triangles tets) n ≡ true → occurs tets n ≡ true
corner_occurs tets n h =
    let t = member_where (list_any (λ k. k == n)) (all_triangles tets) h in
    let m = member_where (λ k. k == n) t.0 t.2 in
    let f = from_flat_map triangles_of t.0 tets t.1 in
    occurs_in tets f.0 n f.1 (corner_of f.0 t.0 n f.2 (subst (λ k. Has k t.0) (eqb-true m.0 n m.2) m.1))

all_led_back : (p : ℕ → Bool) (number back : ℕ → ℕ) (t : List ℕ) → AllByRecursion (λ n. back (number n) ≡ n) t → list_all p t ≡ true → list_all (λ n. p (back (number n))) t ≡ true
all_led_back p number back [] h k = refl
all_led_back p number back (n ∷ t) h k = let r = and_parts (p n) (list_all p t) k in and_from _ _ (ap p h.0 ∙ r.0) (all_led_back p number back t h.1 r.1)

module _ (f : Field) (s : Shares) where
  abbrev pieces_here : List (List ℕ)
  pieces_here = all_pieces f.dims (states f s)

  abbrev number_here : ℕ → ℕ
  number_here = number_of (node_keys f.dims (states f s))

  abbrev key_of : ℕ → ℕ
  key_of n = slice_index (node_keys f.dims (states f s)) n

  key_again : (n : ℕ) → occurs (all_triangles pieces_here) n ≡ true → key_of (number_here n) ≡ n
  key_again n h =
      let o = corner_occurs pieces_here n h in
      (numbers_lead_back f.dims (states f s)).back n o (keys_are_below f.dims (states f s) n (states_are_padded f s) o)

  level_at : (t : List ℕ) → Has t (boundary (map (map number_here) pieces_here)) → list_all (λ n. is_level_key (states f s) (key_of n)) t ≡ true
  level_at t h =
      let m = from_map (map number_here) t (boundary pieces_here) (subst (Has t) (boundaries_are_numbered number_here key_of pieces_here key_again) h) in
      let level = at_level f.dims (states f s) (states_are_padded f s) m.0 m.1 in
      let there = from_filter (λ t. tets_at_triangle pieces_here t == 1) m.0 (all_triangles pieces_here) m.1 in
      let back = all_from_members (λ n. key_of (number_here n) ≡ n) m.0 (λ n k. key_again n (occurs_in (all_triangles pieces_here) m.0 n there.0 k)) in
      ap (list_all (λ n. is_level_key (states f s) (key_of n))) (sym m.2)
      ∙ list_all-map (λ n. is_level_key (states f s) (key_of n)) number_here m.0
      ∙ all_led_back (is_level_key (states f s)) number_here key_of m.0 back level

  in_mesh : (t : List ℕ) → Has t (boundary (mesh f s).tets) → list_all (λ n. is_level_key (states f s) (key_of n)) t ≡ true
  unfolding mesh
  in_mesh t h = level_at t h

-- the nodes of the boundary of the mesh are level
pub mesh_boundary_is_level : MeshBoundaryIsLevel
mesh_boundary_is_level f s m e lt = in_mesh f s (get_or (boundary (mesh f s).tets) m e) (has_at (boundary (mesh f s).tets) m e lt)
