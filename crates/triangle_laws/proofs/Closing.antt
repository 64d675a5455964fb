-- Boundary triangles close up: each tetrahedron does, and inner triangles come in pairs of opposite directions.
use Rattle.std.specs.Prelude.{ℕ, ◌+◌, ◌*◌, Bool, true, false, ◌&&◌, ◌||◌, ◌==◌, List, [], ◌∷◌, flat_map}
use Rattle.std.proofs.Common.{◌≡◌, refl, sym, ap, ◌∙◌, arith, cond}
use Rattle.std.specs.List.{AllByRecursion}
use Rattle.std.proofs.Common.{inl, inr, ◌⊎◌}
use Rattle.std.proofs.lemmas.Bool.{eqb-true, and_parts, or_cases}
use Rattle.std.proofs.lemmas.Bool.Decides.{nat_tests}
use Rattle.definitions.specs.Soundness.{triangles_of, all_triangles, tets_at_triangle, boundary, directed_edges, edge_count}
use Rattle.lattice_laws.proofs.Sublists.{all_from_place}
use Rattle.triangle_laws.specs.Boundary.{turned, IsPaired}
use Rattle.triangle_laws.specs.Laws.{PairedBoundariesClose}
use Rattle.triangle_laws.proofs.Sums.{total, total-is, total-same, total-swap, total-flat_map, total-filter}

-- Elements are paired by R, which is symmetric; f of an element is g of its partner; each element has as many partners as `inner` says, 1 or 0.
module _ {X : Type 0} (R : X → X → Bool) (symmetric : (x y : X) → R x y ≡ R y x) (f g : X → ℕ) (turned : (x y : X) → R x y ≡ true → f x ≡ g y) where
  cell : (x y : X) → cond (R x y) (f x) 0 ≡ cond (R y x) (g y) 0
  cell x y = go (R x y) (R y x) refl (sym (symmetric x y))
    where
      go : (b c : Bool) → R x y ≡ b → c ≡ R x y → cond b (f x) 0 ≡ cond c (g y) 0
      go true true e h = turned x y e
      go false false e h = refl
      go true false e h = cc
      go false true e h = cc

  pairs : (xs : List X) → total (λ x. total (λ y. cond (R x y) (f x) 0) xs) xs ≡ total (λ x. total (λ y. cond (R x y) (g x) 0) xs) xs
  pairs xs = total-same _ _ (λ x. total-same _ _ (λ y. cell x y) xs) xs ∙ total-swap (λ x y. cond (R y x) (g y) 0) xs xs

partners : {X : Type 0} (R : X → X → Bool) (f : X → ℕ) (x : X) (xs : List X) → total (λ y. cond (R x y) (f x) 0) xs ≡ f x * total (λ y. cond (R x y) 1 0) xs
partners R f x [] = omega arith
partners R f x (y ∷ ys) = go (R x y) (partners R f x ys)
  where
    go : (b : Bool) → total (λ y. cond (R x y) (f x) 0) ys ≡ f x * total (λ y. cond (R x y) 1 0) ys → cond b (f x) 0 + total (λ y. cond (R x y) (f x) 0) ys ≡ f x * (cond b 1 0 + total (λ y. cond (R x y) 1 0) ys)
    go true h = omega arith
    go false h = omega arith

-- ---- triangles
-- 1 where the edge from x to y is that from a to b
abbrev edge_bit : ℕ → ℕ → ℕ → ℕ → ℕ
edge_bit a b x y = cond (x == a && y == b) 1 0

-- how often a triangle has the edge from a to b
abbrev edges_of_triangle : ℕ → ℕ → List ℕ → ℕ
edges_of_triangle a b (x ∷ y ∷ z ∷ []) = edge_bit a b x y + (edge_bit a b y z + edge_bit a b z x)
edges_of_triangle a b _ = 0

and-flip : (p q : Bool) → (p && q) ≡ (q && p)
and-flip true true = refl
and-flip true false = refl
and-flip false true = refl
and-flip false false = refl

edge_flip : (a b x y : ℕ) → edge_bit a b x y ≡ edge_bit b a y x
edge_flip a b x y = ap (λ (c : Bool). cond c 1 0) (and-flip (x == a) (y == b))

-- four triangles of a tetrahedron close up
tet_closes : (a b w x y z : ℕ) → total (edges_of_triangle a b) (triangles_of (w ∷ x ∷ y ∷ z ∷ [])) ≡ total (edges_of_triangle b a) (triangles_of (w ∷ x ∷ y ∷ z ∷ []))
tet_closes a b w x y z =
    omega (arith, edge_flip a b w x, edge_flip a b x w, edge_flip a b w y, edge_flip a b y w, edge_flip a b w z, edge_flip a b z w, edge_flip a b x y, edge_flip a b y x, edge_flip a b x z, edge_flip a b z x, edge_flip a b y z, edge_flip a b z y)

any_tet_closes : (a b : ℕ) (t : List ℕ) → total (edges_of_triangle a b) (triangles_of t) ≡ total (edges_of_triangle b a) (triangles_of t)
any_tet_closes a b (w ∷ x ∷ y ∷ z ∷ []) = tet_closes a b w x y z
any_tet_closes a b t = refl

all_close : (a b : ℕ) (tets : List (List ℕ)) → total (edges_of_triangle a b) (all_triangles tets) ≡ total (edges_of_triangle b a) (all_triangles tets)
all_close a b tets = total-flat_map (edges_of_triangle a b) triangles_of tets ∙ total-same _ _ (any_tet_closes a b) tets ∙ sym (total-flat_map (edges_of_triangle b a) triangles_of tets)

edges_of_triangle-are : (a b : ℕ) (t : List ℕ) → total (λ (e : ℕ × ℕ). cond (e.0 == a && e.1 == b) 1 0) (directed_edges t) ≡ edges_of_triangle a b t
edges_of_triangle-are a b (x ∷ y ∷ z ∷ []) = omega arith
edges_of_triangle-are a b t = refl

edge_count-is : (a b : ℕ) (ts : List (List ℕ)) → edge_count ts a b ≡ total (edges_of_triangle a b) ts
edge_count-is a b ts = total-is (λ (e : ℕ × ℕ). cond (e.0 == a && e.1 == b) 1 0) (flat_map directed_edges ts) ∙ total-flat_map (λ (e : ℕ × ℕ). cond (e.0 == a && e.1 == b) 1 0) directed_edges ts ∙ total-same _ _ (edges_of_triangle-are a b) ts

turned_edges : (a b : ℕ) (t u : List ℕ) → turned t u ≡ true → edges_of_triangle a b t ≡ edges_of_triangle b a u
turned_edges a b (p ∷ q ∷ r ∷ []) (x ∷ y ∷ z ∷ []) h = go (or_cases (x == p && (y == r && z == q)) _ h)
  where
    go3 : (x' y' z' : ℕ) → ((x == x') && ((y == y') && (z == z'))) ≡ true → (x ≡ x') × (y ≡ y') × (z ≡ z')
    go3 x' y' z' e = let f = and_parts (x == x') _ e in let g = and_parts (y == y') _ f.1 in (eqb-true x x' f.0, eqb-true y y' g.0, eqb-true z z' g.1)

    is_same : (x' y' z' : ℕ) → (x ≡ x') × (y ≡ y') × (z ≡ z') → edges_of_triangle b a (x ∷ y ∷ z ∷ []) ≡ edge_bit b a x' y' + (edge_bit b a y' z' + edge_bit b a z' x')
    is_same x' y' z' e = λ i. edge_bit b a (e.0 i) (e.1 i) + (edge_bit b a (e.1 i) (e.2 i) + edge_bit b a (e.2 i) (e.0 i))

    go : ((x == p && (y == r && z == q)) ≡ true) ⊎ (((x == r && (y == q && z == p)) || (x == q && (y == p && z == r))) ≡ true) → edges_of_triangle a b (p ∷ q ∷ r ∷ []) ≡ edges_of_triangle b a (x ∷ y ∷ z ∷ [])
    go (inl e) = let s = is_same p r q (go3 p r q e) in omega (arith, edge_flip a b p q, edge_flip a b q r, edge_flip a b r p)
    go (inr e) = go2 (or_cases (x == r && (y == q && z == p)) _ e)
      where
        go2 : ((x == r && (y == q && z == p)) ≡ true) ⊎ ((x == q && (y == p && z == r)) ≡ true) → edges_of_triangle a b (p ∷ q ∷ r ∷ []) ≡ edges_of_triangle b a (x ∷ y ∷ z ∷ [])
        go2 (inl e) = let s = is_same r q p (go3 r q p e) in omega (arith, edge_flip a b p q, edge_flip a b q r, edge_flip a b r p)
        go2 (inr e) = let s = is_same q p r (go3 q p r e) in omega (arith, edge_flip a b p q, edge_flip a b q r, edge_flip a b r p)
turned_edges a b t u h = cc

-- a test of two numbers either way
pub eqb-flip : (m n : ℕ) → (m == n) ≡ (n == m)
eqb-flip m n = grind (arith, nat_tests)

turned_sym : (t u : List ℕ) → turned t u ≡ turned u t
turned_sym (a ∷ b ∷ c ∷ []) (x ∷ y ∷ z ∷ []) =
    (λ i. (eqb-flip x a i && (eqb-flip y c i && eqb-flip z b i)) || ((eqb-flip x c i && (eqb-flip y b i && eqb-flip z a i)) || (eqb-flip x b i && (eqb-flip y a i && eqb-flip z c i))))
    ∙ shuffle (a == x) (c == y) (b == z) (c == x) (b == y) (a == z) (b == x) (a == y) (c == z)
  where
    one : (p q r : Bool) → (p && (q && r)) ≡ (p && (r && q))
    one true q r = and-flip q r
    one false q r = refl

    two : (p q r : Bool) → (p && (q && r)) ≡ (r && (q && p))
    two true true true = refl
    two true true false = refl
    two true false true = refl
    two true false false = refl
    two false true true = refl
    two false true false = refl
    two false false true = refl
    two false false false = refl

    three : (p q r : Bool) → (p && (q && r)) ≡ (q && (p && r))
    three true true r = refl
    three true false r = refl
    three false true r = refl
    three false false r = refl

    shuffle : (p q r s t u w m n : Bool) → ((p && (q && r)) || ((s && (t && u)) || (w && (m && n)))) ≡ ((p && (r && q)) || ((u && (t && s)) || (m && (w && n))))
    shuffle p q r s t u w m n = λ i. one p q r i || (two s t u i || three w m n i)
turned_sym [] (x ∷ y ∷ z ∷ []) = refl
turned_sym (a ∷ []) (x ∷ y ∷ z ∷ []) = refl
turned_sym (a ∷ b ∷ []) (x ∷ y ∷ z ∷ []) = refl
turned_sym (a ∷ b ∷ c ∷ d ∷ l) (x ∷ y ∷ z ∷ []) = refl
turned_sym t u = refl

-- a sum over the elements that pass, and over the others
split : (f : List ℕ → ℕ) (p : List ℕ → Bool) (ts : List (List ℕ)) → total f ts ≡ total (λ t. cond (p t) (f t) 0) ts + total (λ t. f t * cond (p t) 0 1) ts
split f p [] = refl
split f p (t ∷ ts) = go (p t) (split f p ts)
  where
    go : (b : Bool) → total f ts ≡ total (λ t. cond (p t) (f t) 0) ts + total (λ t. f t * cond (p t) 0 1) ts → f t + total f ts ≡ (cond b (f t) 0 + total (λ t. cond (p t) (f t) 0) ts) + (f t * cond b 0 1 + total (λ t. f t * cond (p t) 0 1) ts)
    go true h = omega arith
    go false h = omega arith

-- the inner triangles, by their partners
inner : (tets : List (List ℕ)) (f : List ℕ → ℕ) (ts : List (List ℕ)) → AllByRecursion (IsPaired tets) ts
    → total (λ t. f t * cond (tets_at_triangle tets t == 1) 0 1) ts ≡ total (λ t. total (λ u. cond (turned t u) (f t) 0) (all_triangles tets)) ts
inner tets f [] h = refl
inner tets f (t ∷ ts) h =
    let i = inner tets f ts h.1 in
    let j = partners turned f t (all_triangles tets) in
    let l : f t * total (λ u. cond (turned t u) 1 0) (all_triangles tets) ≡ f t * cond (tets_at_triangle tets t == 1) 0 1 = ap (λ n. f t * n) (sym (total-is (λ u. cond (turned t u) 1 0) (all_triangles tets)) ∙ h.0) in
    omega arith

-- where all triangles are paired, boundary triangles close up
pub paired_boundaries_close : PairedBoundariesClose
paired_boundaries_close tets h a b =
    let f = edges_of_triangle a b in
    let g = edges_of_triangle b a in
    let ts = all_triangles tets in
    let p = λ (t : List ℕ). tets_at_triangle tets t == 1 in
    let paired = all_from_place (IsPaired tets) ts h in
    let boundary_forth = edge_count-is a b (boundary tets) ∙ total-filter f p ts in
    let boundary_back = edge_count-is b a (boundary tets) ∙ total-filter g p ts in
    let split_forth = split f p ts in
    let split_back = split g p ts in
    let whole = all_close a b tets in
    let inner_forth = inner tets f ts paired in
    let inner_back = inner tets g ts paired in
    let inner_close = pairs turned turned_sym f g (turned_edges a b) ts in
    omega arith
