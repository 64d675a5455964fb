-- A face with a vertex that is no padding has a lattice tetrahedron on both sides: one computation over six shapes and four faces.
use Rattle.std.proofs.Common.{inl, inr, ◌≡◌, ℕ, zero, suc, ◌+◌, ◌-◌, ◌<◌, Bool, true, not, ◌&&◌, ◌==◌, nat_lt, List, [], ◌∷◌, map, length, refl, sym, ap, ◌∙◌, subst, arith}
use Rattle.std.specs.Prelude.{IsTrue}
use Rattle.std.specs.List.{list_all, AllByRecursion}
use Rattle.std.proofs.Math.IntN.{ℤ, pos, ◌+ℤ◌}
use Rattle.std.proofs.lemmas.Int.{ints}
use Rattle.std.proofs.lemmas.Bool.{eqb-true, ltb-true, and_parts, or_cases, not-true, both_ways, and_from}
use Rattle.std.proofs.lemmas.Bool.Decides.{nat_tests}
use Rattle.std.proofs.lemmas.List.{length-map}
use Rattle.definitions.specs.declared.Dims.{Dims}
use Rattle.definitions.specs.declared.Vertex.{Vertex}
use Rattle.definitions.specs.Lattice.{InDomain, vertex, before, are_neighbours}
use Rattle.definitions.specs.Tetrahedra.{IsLatticeTet}
use Rattle.definitions.specs.Pieces.{slot}
use Rattle.lattice_laws.specs.Ascending.{Ascends, Has}
use Rattle.lattice_laws.specs.FiniteTests.{below}
use Rattle.lattice_laws.specs.Kinds.{Kind, kind_146, kind_256, kind_347, kind_357, kind_467, kind_567, slot_1, slot_2, slot_3, offset, vector_of, KindOfTet, tet_of_kind}
use Rattle.lattice_laws.specs.NumberedTetrahedra.{IsInner}
use Rattle.lattice_laws.specs.Vectors.{Vector, ◌+ᵥ◌, x_of, y_of, z_of}
use Rattle.lattice_laws.proofs.FiniteTests.{below_at}
use Rattle.lattice_laws.proofs.Lists.{all_at_member}
use Rattle.lattice_laws.proofs.Sublists.{all_by_place, pairs_by_place}
use Rattle.lattice_laws.proofs.Directions.{Offset, before_by_offset}
use Rattle.lattice_laws.proofs.EdgeTetrahedra.{neighbours_by_offsets, within_from_test}
use Rattle.lattice_laws.proofs.SixKinds.{kind_of_tet}
use Rattle.stencil_laws.specs.Faces.{each_pair}
use Rattle.face_laws.specs.Shapes.{Standing, stand, shapes, standing_at, shape_across, slot_across, stands_near, stands_later, same_standing, same_standings, is_across, without}
use Rattle.face_laws.specs.Laws.{OtherSide, FacesHaveTwoSides}

-- ---- all six shapes, faces and vertices

all_across : list_all (λ os. below 4 (λ n. below 4 (λ m. is_across os n m))) shapes ≡ true
all_across = refl

across_at : (os : List Standing) (n m : ℕ) → Has os shapes → n < 4 → m < 4 → is_across os n m ≡ true
across_at os n m h ln lm = below_at 4 (λ m. is_across os n m) (below_at 4 (λ n. below 4 (λ m. is_across os n m)) (all_at_member (λ os. below 4 (λ n. below 4 (λ m. is_across os n m))) shapes os all_across h) n ln) m lm

-- ---- what the tests say

all_from_test : {X : Type 0} (p : X → Bool) (xs : List X) → list_all p xs ≡ true → AllByRecursion (λ x. p x ≡ true) xs
all_from_test p [] h = tt
all_from_test p (x ∷ xs) h = let s = and_parts (p x) (list_all p xs) h in (s.0, all_from_test p xs s.1)

pairs_from_test : {X : Type 0} (R : X → X → Bool) (xs : List X) → each_pair R xs ≡ true → Ascends (λ x y. R x y ≡ true) xs
pairs_from_test R [] h = tt
pairs_from_test R (x ∷ xs) h = let s = and_parts (list_all (R x) xs) (each_pair R xs) h in (all_from_test (R x) xs s.0, pairs_from_test R xs s.1)

standing_from_test : (o p : Standing) → same_standing o p ≡ true → o ≡ p
standing_from_test o p h =
    let s = and_parts (o.h == p.h) _ h in
    let t = and_parts (o.y == p.y) (o.x == p.x) s.1 in
    let eh = eqb-true o.h p.h s.0 in
    let ey = eqb-true o.y p.y t.0 in
    let ex = eqb-true o.x p.x t.1 in
    λ i. record { h = eh i; y = ey i; x = ex i }

standings_from_test : (os ps : List Standing) → same_standings os ps ≡ true → os ≡ ps
standings_from_test [] [] h = refl
standings_from_test [] (p ∷ ps) h = cc
standings_from_test (o ∷ os) [] h = cc
standings_from_test (o ∷ os) (p ∷ ps) h = let s = and_parts (same_standing o p) (same_standings os ps) h in λ i. standing_from_test o p s.0 i ∷ standings_from_test os ps s.1 i

-- ---- four vertices that stand near one that is no padding

module _ (d : Dims) (u p : Vertex) (q : Standing) (inside : InDomain d u) (inner : IsInner d p) (there : Offset u p q.h q.y q.x) where
  stand_offset : (o : Standing) → stands_near q o ≡ true → Offset u (stand u o) o.h o.y o.x
  stand_offset o e =
      let w = within_from_test o q e in
      let a = there.by_h in let b = there.by_y in let c = there.by_x in
      let i = inner.h_low in let j = inner.y_low in let k = inner.x_low in
      let h = w.h_down in let y = w.y_down in let x = w.x_down in
      record { by_h = omega arith; by_y = omega arith; by_x = omega arith }

  stand_inside : (o : Standing) → stands_near q o ≡ true → InDomain d (stand u o)
  stand_inside o e =
      let w = within_from_test o q e in
      let f = stand_offset o e in
      let a = there.by_h in let b = there.by_y in let c = there.by_x in
      let i = inner.h_high in let j = inner.y_high in let k = inner.x_high in
      let l = w.h_up in let m = w.y_up in let n = w.x_up in
      let v = w.y_even in let t = w.x_even in
      let r = inside.y_alike in let s = inside.x_alike in
      let h = f.by_h in let y = f.by_y in let x = f.by_x in
      record { h_below = omega arith; y_below = omega arith; x_below = omega arith; y_alike = omega arith; x_alike = omega arith }

  all_inside : (os : List Standing) → AllByRecursion (λ o. stands_near q o ≡ true) os → AllByRecursion (InDomain d) (map (stand u) os)
  all_inside [] h = tt
  all_inside (o ∷ os) h = (stand_inside o h.0, all_inside os h.1)

  module _ (R : Vertex → Vertex → Type 0) (r : (o p : Standing) → stands_near q o ≡ true → stands_near q p ≡ true → stands_later o p ≡ true → R (stand u o) (stand u p)) where
    all_related : (o : Standing) → stands_near q o ≡ true → (os : List Standing) → AllByRecursion (λ o. stands_near q o ≡ true) os → AllByRecursion (λ p. stands_later o p ≡ true) os → AllByRecursion (R (stand u o)) (map (stand u) os)
    all_related o e [] h k = tt
    all_related o e (p ∷ os) h k = (r o p e h.0 k.0, all_related o e os h.1 k.1)

    pairs_related : (os : List Standing) → AllByRecursion (λ o. stands_near q o ≡ true) os → Ascends (λ o p. stands_later o p ≡ true) os → Ascends R (map (stand u) os)
    pairs_related [] h k = tt
    pairs_related (o ∷ os) h k = (all_related o h.0 os h.1 k.0, pairs_related os h.1 k.1)

  is_tet : (os : List Standing) → length os ≡ 4 → AllByRecursion (λ o. stands_near q o ≡ true) os → Ascends (λ o p. stands_later o p ≡ true) os → IsLatticeTet d (map (stand u) os)
  is_tet os len near later = record {
    four = length-map os (stand u) ∙ len;
    within = all_by_place (InDomain d) (map (stand u) os) (all_inside os near);
    ordered = pairs_by_place (λ v w. IsTrue (before v w)) (map (stand u) os)
        (pairs_related (λ v w. IsTrue (before v w))
        (λ o p ho hp l. before_by_offset u (stand u o) (stand u p) o.h o.y o.x p.h p.y p.x (stand_offset o ho) (stand_offset p hp) ∙ (and_parts (are_neighbours o p) (before o p) l).1) os near later);
    neighbours = pairs_by_place (λ v w. IsTrue (are_neighbours v w)) (map (stand u) os)
        (pairs_related (λ v w. IsTrue (are_neighbours v w))
        (λ o p ho hp l. neighbours_by_offsets u (stand u o) (stand u p) o p (stand_offset o ho) (stand_offset p hp) ∙ (and_parts (are_neighbours o p) (before o p) l).0) os near later);
  }

-- ---- a lattice tetrahedron has one of the shapes

offset_from : (t u : Vertex) (s : Vector) (o : Standing) → vector_of u ≡ vector_of t +ᵥ s → s.z +ℤ pos 2 ≡ pos o.h → s.y +ℤ pos 2 ≡ pos o.y → s.x +ℤ pos 2 ≡ pos o.x → Offset t u o.h o.y o.x
offset_from t u s o e eh ey ex =
    let z = ap z_of e in let y = ap y_of e in let x = ap x_of e in
    record { by_h = go u.h t.h o.h s.z z eh; by_y = go u.y t.y o.y s.y y ey; by_x = go u.x t.x o.x s.x x ex }
  where
    go : (m n o : ℕ) (s : ℤ) → pos m ≡ pos n +ℤ s → s +ℤ pos 2 ≡ pos o → m + 2 ≡ n + o
    go m n o s e f = omega (arith, ints)

record HasShape (t u v w : Vertex) : Type 0 where
  a : Standing
  b : Standing
  c : Standing
  listed : Has (vertex 2 2 2 ∷ a ∷ b ∷ c ∷ []) shapes
  at_u : Offset t u a.h a.y a.x
  at_v : Offset t v b.h b.y b.x
  at_w : Offset t w c.h c.y c.x

-- a vector as a standing
abbrev AreAlike : Vector → Standing → Type 0
AreAlike s o = (s.z +ℤ pos 2 ≡ pos o.h) × (s.y +ℤ pos 2 ≡ pos o.y) × (s.x +ℤ pos 2 ≡ pos o.x)

shape_of_kind : (t u v w : Vertex) → KindOfTet t u v w → HasShape t u v w
shape_of_kind t u v w (tet_of_kind κ e f g) = go κ e f g
  where
    build : (a b c : Standing) (r s q : Vector) → Has (vertex 2 2 2 ∷ a ∷ b ∷ c ∷ []) shapes → AreAlike r a → AreAlike s b → AreAlike q c → vector_of u ≡ vector_of t +ᵥ r → vector_of v ≡ vector_of t +ᵥ s → vector_of w ≡ vector_of t +ᵥ q → HasShape t u v w
    build a b c r s q h x y z e f g = record {
      a = a;
      b = b;
      c = c;
      listed = h;
      at_u = offset_from t u r a e x.0 x.1 x.2;
      at_v = offset_from t v s b f y.0 y.1 y.2;
      at_w = offset_from t w q c g z.0 z.1 z.2;
    }

    go : (κ : Kind) → vector_of u ≡ vector_of t +ᵥ offset κ slot_1 → vector_of v ≡ vector_of t +ᵥ offset κ slot_2 → vector_of w ≡ vector_of t +ᵥ offset κ slot_3 → HasShape t u v w
    go kind_146 = build (vertex 2 2 4) (vertex 3 1 3) (vertex 3 3 3) (offset kind_146 slot_1) (offset kind_146 slot_2) (offset kind_146 slot_3) (inl refl) (refl, refl, refl) (refl, refl, refl) (refl, refl, refl)
    go kind_256 = build (vertex 2 4 2) (vertex 3 3 1) (vertex 3 3 3) (offset kind_256 slot_1) (offset kind_256 slot_2) (offset kind_256 slot_3) (inr (inl refl)) (refl, refl, refl) (refl, refl, refl) (refl, refl, refl)
    go kind_347 = build (vertex 3 1 1) (vertex 3 1 3) (vertex 4 2 2) (offset kind_347 slot_1) (offset kind_347 slot_2) (offset kind_347 slot_3) (inr (inr (inl refl))) (refl, refl, refl) (refl, refl, refl) (refl, refl, refl)
    go kind_357 = build (vertex 3 1 1) (vertex 3 3 1) (vertex 4 2 2) (offset kind_357 slot_1) (offset kind_357 slot_2) (offset kind_357 slot_3) (inr (inr (inr (inl refl)))) (refl, refl, refl) (refl, refl, refl) (refl, refl, refl)
    go kind_467 = build (vertex 3 1 3) (vertex 3 3 3) (vertex 4 2 2) (offset kind_467 slot_1) (offset kind_467 slot_2) (offset kind_467 slot_3) (inr (inr (inr (inr (inl refl))))) (refl, refl, refl) (refl, refl, refl) (refl, refl, refl)
    go kind_567 = build (vertex 3 3 1) (vertex 3 3 3) (vertex 4 2 2) (offset kind_567 slot_1) (offset kind_567 slot_2) (offset kind_567 slot_3) (inr (inr (inr (inr (inr (inl refl)))))) (refl, refl, refl) (refl, refl, refl) (refl, refl, refl)

-- a vertex by how it stands
stand_is : (t u : Vertex) (o : Standing) → Offset t u o.h o.y o.x → u ≡ stand t o
stand_is t u o f =
    let a = f.by_h in let b = f.by_y in let c = f.by_x in
    let h : u.h ≡ t.h + o.h - 2 = omega arith in
    let y : u.y ≡ t.y + o.y - 2 = omega arith in
    let x : u.x ≡ t.x + o.x - 2 = omega arith in
    λ i. record { h = h i; y = y i; x = x i }

-- two that are one vertex stand alike
same_from_vertex : (t : Vertex) (o p : Standing) → Offset t (stand t o) o.h o.y o.x → Offset t (stand t p) p.h p.y p.x → stand t o ≡ stand t p → same_standing o p ≡ true
same_from_vertex t o p f g e =
    let a = f.by_h in let b = f.by_y in let c = f.by_x in
    let i = g.by_h in let j = g.by_y in let k = g.by_x in
    let h = ap (λ (v : Vertex). v.h) e in
    let y = ap (λ (v : Vertex). v.y) e in
    let x = ap (λ (v : Vertex). v.x) e in
    and_from (o.h == p.h) _ (test o.h p.h (omega arith)) (and_from (o.y == p.y) (o.x == p.x) (test o.y p.y (omega arith)) (test o.x p.x (omega arith)))
  where
    test : (m n : ℕ) → m ≡ n → (m == n) ≡ true
    test m n e = grind (arith, nat_tests)

same_from_vertices : (t : Vertex) (os ps : List Standing) → AllByRecursion (λ o. Offset t (stand t o) o.h o.y o.x) os → AllByRecursion (λ o. Offset t (stand t o) o.h o.y o.x) ps → map (stand t) os ≡ map (stand t) ps → length os ≡ length ps → same_standings os ps ≡ true
same_from_vertices t [] [] h k e l = refl
same_from_vertices t [] (p ∷ ps) h k e l = absurd (omega arith)
same_from_vertices t (o ∷ os) [] h k e l = absurd (omega arith)
same_from_vertices t (o ∷ os) (p ∷ ps) h k e l =
    and_from (same_standing o p) _ (same_from_vertex t o p h.0 k.0 (ap (λ vs. first vs) e)) (same_from_vertices t os ps h.1 k.1 (ap (λ vs. rest vs) e) (omega arith))
  where
    first : List Vertex → Vertex
    first [] = vertex 0 0 0
    first (v ∷ vs) = v

    rest : List Vertex → List Vertex
    rest [] = []
    rest (v ∷ vs) = vs

pub map_without : {X Y : Type 0} (f : X → Y) (n : ℕ) (xs : List X) → without n (map f xs) ≡ map f (without n xs)
map_without f n [] = refl
map_without f zero (x ∷ xs) = refl
map_without f (suc n) (x ∷ xs) = ap (λ ys. f x ∷ ys) (map_without f n xs)

-- ---- across

module _ (d : Dims) (t u v w : Vertex) (n m : ℕ) (tet : IsLatticeTet d (t ∷ u ∷ v ∷ w ∷ [])) (ln : n < 4) (lm : m < 4) (ne : m ≡ n → ⊥) (inner : IsInner d (slot (t ∷ u ∷ v ∷ w ∷ []) m)) where
  abbrev vertices_here : List Vertex
  vertices_here = t ∷ u ∷ v ∷ w ∷ []

  before_at : (i j : ℕ) → i < j → j < 4 → before (slot vertices_here i) (slot vertices_here j) ≡ true
  before_at i j lt le = tet.ordered i j (vertex 0 0 0) lt le

  near_at : (i j : ℕ) → i < j → j < 4 → are_neighbours (slot vertices_here i) (slot vertices_here j) ≡ true
  near_at i j lt le = tet.neighbours i j (vertex 0 0 0) lt le

  shape : HasShape t u v w
  shape =
      shape_of_kind t u v w
      (kind_of_tet t u v w (before_at 0 1 (omega arith) (omega arith)) (before_at 0 2 (omega arith) (omega arith)) (before_at 0 3 (omega arith) (omega arith)) (before_at 1 2 (omega arith) (omega arith)) (before_at 1 3 (omega arith) (omega arith)) (before_at 2 3 (omega arith) (omega arith))
      (near_at 0 1 (omega arith) (omega arith)) (near_at 0 2 (omega arith) (omega arith)) (near_at 0 3 (omega arith) (omega arith)) (near_at 1 2 (omega arith) (omega arith)) (near_at 1 3 (omega arith) (omega arith)) (near_at 2 3 (omega arith) (omega arith)))

  abbrev here : List Standing
  here = vertex 2 2 2 ∷ shape.a ∷ shape.b ∷ shape.c ∷ []

  itself : Offset t t 2 2 2
  itself = record { by_h = refl; by_y = refl; by_x = refl }

  there : (k : ℕ) → k < 4 → Offset t (slot vertices_here k) (standing_at here k).h (standing_at here k).y (standing_at here k).x
  there zero h = itself
  there (suc zero) h = shape.at_u
  there (suc (suc zero)) h = shape.at_v
  there (suc (suc (suc zero))) h = shape.at_w
  there (suc (suc (suc (suc k)))) h = absurd (omega arith)

  is_stand : vertices_here ≡ map (stand t) here
  is_stand = λ i. stand_is t t (vertex 2 2 2) itself i ∷ stand_is t u shape.a shape.at_u i ∷ stand_is t v shape.b shape.at_v i ∷ stand_is t w shape.c shape.at_w i ∷ []

  own_offset : (x : Vertex) (o : Standing) → Offset t x o.h o.y o.x → Offset t (stand t o) o.h o.y o.x
  own_offset x o f = subst (λ y. Offset t y o.h o.y o.x) (stand_is t x o f) f

  own_offsets : AllByRecursion (λ o. Offset t (stand t o) o.h o.y o.x) here
  own_offsets = (own_offset t (vertex 2 2 2) itself, (own_offset u shape.a shape.at_u, (own_offset v shape.b shape.at_v, (own_offset w shape.c shape.at_w, tt))))

  abbrev over : List Standing
  over = shape_across here n

  abbrev stands_at : Standing
  stands_at = standing_at here m

  tests : ((length over == 4 && (list_all (stands_near stands_at) over && each_pair stands_later over)) && (nat_lt (slot_across here n) 4 && (same_standings (without (slot_across here n) over) (without n here) && not (same_standings over here)))) ≡ true
  tests = elim (or_cases (m == n) _ (across_at here n m shape.listed ln lm)) [ inl e ↦ absurd (ne (eqb-true m n e)) | inr e ↦ e ]

  module _ (inside : InDomain d t) where
    near_over : AllByRecursion (λ o. stands_near stands_at o ≡ true) over
    near_over = all_from_test (stands_near stands_at) over (and_parts (list_all (stands_near stands_at) over) _ (and_parts (length over == 4) _ (and_parts _ _ tests).0).1).0

    offsets_over : (os : List Standing) → AllByRecursion (λ o. stands_near stands_at o ≡ true) os → AllByRecursion (λ o. Offset t (stand t o) o.h o.y o.x) os
    offsets_over [] h = tt
    offsets_over (o ∷ os) h = (stand_offset d t (slot vertices_here m) stands_at inside inner (there m lm) o h.0, offsets_over os h.1)

    other_side : OtherSide d vertices_here n
    other_side =
        let s = and_parts _ _ tests in
        let a = and_parts (length over == 4) _ s.0 in
        let len = eqb-true (length over) 4 a.0 in
        let later = pairs_from_test stands_later over (and_parts (list_all (stands_near stands_at) over) _ a.1).1 in
        let b = and_parts (nat_lt (slot_across here n) 4) _ s.1 in
        let c = and_parts (same_standings (without (slot_across here n) over) (without n here)) _ b.1 in
        record {
          other = map (stand t) over;
          lattice = is_tet d t (slot vertices_here m) stands_at inside inner (there m lm) over len near_over later;
          lacks = slot_across here n;
          lacks_low = ltb-true (slot_across here n) 4 b.0;
          same_face =
              map_without (stand t) (slot_across here n) over
              ∙ ap (map (stand t)) (standings_from_test _ _ c.0)
              ∙ sym (map_without (stand t) n here)
              ∙ ap (without n) (sym is_stand);
          differs = λ e. both_ways (same_standings over here) (not-true _ c.1) (same_from_vertices t over here (offsets_over over near_over) own_offsets (e ∙ is_stand) len);
        }

-- a face with a vertex that is no padding has another lattice tetrahedron
pub faces_have_two_sides : FacesHaveTwoSides
faces_have_two_sides d (t ∷ u ∷ v ∷ w ∷ []) n m tet ln lm ne inner = other_side d t u v w n m tet ln lm ne inner (tet.within 0 (vertex 0 0 0) (omega arith))
faces_have_two_sides d [] n m tet ln lm ne inner = absurd (let e = tet.four in omega arith)
faces_have_two_sides d (t ∷ []) n m tet ln lm ne inner = absurd (let e = tet.four in omega arith)
faces_have_two_sides d (t ∷ u ∷ []) n m tet ln lm ne inner = absurd (let e = tet.four in omega arith)
faces_have_two_sides d (t ∷ u ∷ v ∷ []) n m tet ln lm ne inner = absurd (let e = tet.four in omega arith)
faces_have_two_sides d (t ∷ u ∷ v ∷ w ∷ x ∷ more) n m tet ln lm ne inner = absurd (let e = tet.four in omega arith)
