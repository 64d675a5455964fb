-- Two tetrahedra that have a triangle in one direction, and meet in their common nodes, have the same nodes.
use Rattle.std.proofs.Common.{◌≡◌, ◌≢◌, ℕ, ◌+◌, ◌<◌, Bool, true, false, ◌==◌, cond, List, [], ◌∷◌, map, length, refl, sym, ap, ◌∙◌, arith}
use Rattle.std.specs.Prelude.{sum}
use Rattle.std.proofs.Math.IntN.{ℤ, pos, ◌+ℤ◌, ◌*ℤ◌}
use Rattle.std.proofs.lemmas.Bool.{eqb-true, eq-eqb, ne_eqb}
use Rattle.std.proofs.lemmas.List.{length-map}
use Rattle.std.proofs.lemmas.List.Sums.{sum-map}
use Rattle.definitions.specs.declared.Place.{Place}
use Rattle.definitions.specs.Vectors.{place_at}
use Rattle.definitions.specs.Soundness.{corner_places, weighted_place, weight_of, Meet}
use Rattle.triangle_laws.specs.Overlap.{Overlap}
use Rattle.triangle_laws.proofs.Sums.{total, total-is}
use Rattle.triangle_laws.proofs.Overlaps.{shared_triangles_overlap}
use Rattle.triangle_laws.proofs.Orders.{IsOrder, integer_total, AreDifferent, different}

-- ---- numbers of nodes as weights

-- the numbers of four nodes, 0 at any other
abbrev at_four : ℕ → ℕ → ℕ → ℕ → ℕ → ℕ → ℕ → ℕ → ℕ → ℕ
at_four a b c d p q r s n = cond (n == a) p (cond (n == b) q (cond (n == c) r (cond (n == d) s 0)))

-- a number is itself
pub same_test : (n : ℕ) → (n == n) ≡ true
same_test n = eq-eqb n n refl

module _ (a b c d p q r s : ℕ) (k : AreDifferent a b c d) where
  at_a : at_four a b c d p q r s a ≡ p
  at_a = ap (λ t. cond t p (cond (a == b) q (cond (a == c) r (cond (a == d) s 0)))) (same_test a)

  at_b : at_four a b c d p q r s b ≡ q
  at_b = ap (λ t. cond t p (cond (b == b) q (cond (b == c) r (cond (b == d) s 0)))) (ne_eqb b a (λ e. k.ab (sym e))) ∙ ap (λ t. cond t q (cond (b == c) r (cond (b == d) s 0))) (same_test b)

  at_c : at_four a b c d p q r s c ≡ r
  at_c =
      ap (λ t. cond t p (cond (c == b) q (cond (c == c) r (cond (c == d) s 0)))) (ne_eqb c a (λ e. k.ac (sym e)))
      ∙ ap (λ t. cond t q (cond (c == c) r (cond (c == d) s 0))) (ne_eqb c b (λ e. k.bc (sym e)))
      ∙ ap (λ t. cond t r (cond (c == d) s 0)) (same_test c)

  at_d : at_four a b c d p q r s d ≡ s
  at_d =
      ap (λ t. cond t p (cond (d == b) q (cond (d == c) r (cond (d == d) s 0)))) (ne_eqb d a (λ e. k.ad (sym e)))
      ∙ ap (λ t. cond t q (cond (d == c) r (cond (d == d) s 0))) (ne_eqb d b (λ e. k.bd (sym e)))
      ∙ ap (λ t. cond t r (cond (d == d) s 0)) (ne_eqb d c (λ e. k.cd (sym e)))
      ∙ ap (λ t. cond t s 0) (same_test d)

-- ---- sums over the nodes of a tetrahedron

sum_of_map : (f : ℕ → ℕ) (ns : List ℕ) → sum (map f ns) ≡ total f ns
sum_of_map f ns = sum-map f ns ∙ total-is f ns

weight_by_total : (f : ℕ → ℕ) (n : ℕ) (ns : List ℕ) → weight_of ns (map f ns) n ≡ total (λ m. cond (m == n) (f m) 0) ns
weight_by_total f n [] = refl
weight_by_total f n (m ∷ ns) = ap (λ t. cond (m == n) (f m) 0 + t) (weight_by_total f n ns)

place_by_total : (places : List Place) (f : ℕ → ℕ) (ns : List ℕ) → weighted_place (corner_places places ns) (map f ns)
    ≡ record { x = integer_total (λ m. pos (f m) *ℤ (place_at places m).x) ns; y = integer_total (λ m. pos (f m) *ℤ (place_at places m).y) ns; z = integer_total (λ m. pos (f m) *ℤ (place_at places m).z) ns }
place_by_total places f [] = refl
place_by_total places f (m ∷ ns) = λ i. record {
  x = pos (f m) *ℤ (place_at places m).x +ℤ (place_by_total places f ns i).x;
  y = pos (f m) *ℤ (place_at places m).y +ℤ (place_by_total places f ns i).y;
  z = pos (f m) *ℤ (place_at places m).z +ℤ (place_by_total places f ns i).z;
}

-- ---- a node of the one among those of the other

-- the last node of a tetrahedron with a weight, in one whose first three nodes are the same, is its last
last_weight : (a b c d e x y z w : ℕ) (p q r s : ℕ) → a ≢ e → b ≢ e → c ≢ e → 0 < w
    → cond (a == e) p 0 + cond (b == e) q 0 + cond (c == e) r 0 + cond (d == e) s 0 ≡ cond (a == e) x 0 + cond (b == e) y 0 + cond (c == e) z 0 + cond (e == e) w 0 → d ≡ e
last_weight a b c d e x y z w p q r s na nb nc lt h = eqb-true d e (go (a == e) (b == e) (c == e) (d == e) (e == e) (ne_eqb a e na) (ne_eqb b e nb) (ne_eqb c e nc) (same_test e) h)
  where
    go : (ta tb tc td te : Bool) → ta ≡ false → tb ≡ false → tc ≡ false → te ≡ true → cond ta p 0 + cond tb q 0 + cond tc r 0 + cond td s 0 ≡ cond ta x 0 + cond tb y 0 + cond tc z 0 + cond te w 0 → td ≡ true
    go false false false true true ea eb ec ee k = refl
    go false false false false true ea eb ec ee k = absurd (omega arith)
    go true tb tc td te ea eb ec ee k = cc
    go false true tc td te ea eb ec ee k = cc
    go false false true td te ea eb ec ee k = cc
    go false false false td false ea eb ec ee k = cc

module _ (places : List Place) (s t : List ℕ) (a b c d e : ℕ) (o : IsOrder places s a b c d) (o' : IsOrder places t a b c e) (meet : Meet places s t) (four : length s ≡ 4) (four' : length t ≡ 4) where
  abbrev point : Overlap (place_at places a) (place_at places b) (place_at places c) (place_at places d) (place_at places e)
  point = shared_triangles_overlap (place_at places a) (place_at places b) (place_at places c) (place_at places d) (place_at places e) o.positive o'.positive

  abbrev first_weights : ℕ → ℕ
  first_weights = at_four a b c d point.n point.n point.n point.top

  abbrev second_weights : ℕ → ℕ
  second_weights = at_four a b c e point.x point.y point.z point.last

  -- the weights of the nodes
  abbrev first_a : first_weights a ≡ point.n
  first_a = at_a a b c d point.n point.n point.n point.top (different places s a b c d o)

  abbrev first_b : first_weights b ≡ point.n
  first_b = at_b a b c d point.n point.n point.n point.top (different places s a b c d o)

  abbrev first_c : first_weights c ≡ point.n
  first_c = at_c a b c d point.n point.n point.n point.top (different places s a b c d o)

  abbrev first_d : first_weights d ≡ point.top
  first_d = at_d a b c d point.n point.n point.n point.top (different places s a b c d o)

  abbrev second_a : second_weights a ≡ point.x
  second_a = at_a a b c e point.x point.y point.z point.last (different places t a b c e o')

  abbrev second_b : second_weights b ≡ point.y
  second_b = at_b a b c e point.x point.y point.z point.last (different places t a b c e o')

  abbrev second_c : second_weights c ≡ point.z
  second_c = at_c a b c e point.x point.y point.z point.last (different places t a b c e o')

  abbrev second_e : second_weights e ≡ point.last
  second_e = at_d a b c e point.x point.y point.z point.last (different places t a b c e o')

  same_sums : sum (map first_weights s) ≡ sum (map second_weights t)
  same_sums =
      sum_of_map first_weights s ∙ o.counts first_weights ∙ (λ i. first_a i + first_b i + first_c i + first_d i)
      ∙ point.sums
      ∙ sym (sum_of_map second_weights t ∙ o'.counts second_weights ∙ (λ i. second_a i + second_b i + second_c i + second_e i))

  -- a coordinate of the one point
  abbrev first_part : (Place → ℤ) → ℕ → ℤ
  first_part g m = pos (first_weights m) *ℤ g (place_at places m)

  abbrev second_part : (Place → ℤ) → ℕ → ℤ
  second_part g m = pos (second_weights m) *ℤ g (place_at places m)

  first_coordinate : (g : Place → ℤ) → integer_total (first_part g) s
      ≡ pos point.n *ℤ g (place_at places a) +ℤ pos point.n *ℤ g (place_at places b) +ℤ pos point.n *ℤ g (place_at places c) +ℤ pos point.top *ℤ g (place_at places d)
  first_coordinate g =
      o.sums (first_part g)
      ∙ (λ i. pos (first_a i) *ℤ g (place_at places a) +ℤ pos (first_b i) *ℤ g (place_at places b) +ℤ pos (first_c i) *ℤ g (place_at places c) +ℤ pos (first_d i) *ℤ g (place_at places d))

  second_coordinate : (g : Place → ℤ) → integer_total (second_part g) t
      ≡ pos point.x *ℤ g (place_at places a) +ℤ pos point.y *ℤ g (place_at places b) +ℤ pos point.z *ℤ g (place_at places c) +ℤ pos point.last *ℤ g (place_at places e)
  second_coordinate g =
      o'.sums (second_part g)
      ∙ (λ i. pos (second_a i) *ℤ g (place_at places a) +ℤ pos (second_b i) *ℤ g (place_at places b) +ℤ pos (second_c i) *ℤ g (place_at places c) +ℤ pos (second_e i) *ℤ g (place_at places e))

  abbrev first_point : Place
  first_point = weighted_place (corner_places places s) (map first_weights s)

  abbrev second_point : Place
  second_point = weighted_place (corner_places places t) (map second_weights t)

  same_coordinate : (g : Place → ℤ)
      → pos point.n *ℤ g (place_at places a) +ℤ pos point.n *ℤ g (place_at places b) +ℤ pos point.n *ℤ g (place_at places c) +ℤ pos point.top *ℤ g (place_at places d)
      ≡ pos point.x *ℤ g (place_at places a) +ℤ pos point.y *ℤ g (place_at places b) +ℤ pos point.z *ℤ g (place_at places c) +ℤ pos point.last *ℤ g (place_at places e)
      → integer_total (first_part g) s ≡ integer_total (second_part g) t
  same_coordinate g e = first_coordinate g ∙ e ∙ sym (second_coordinate g)

  same_point : first_point ≡ second_point
  same_point =
      place_by_total places first_weights s
      ∙ (λ i. record { x = same_coordinate (λ p. p.x) point.at_x i; y = same_coordinate (λ p. p.y) point.at_y i; z = same_coordinate (λ p. p.z) point.at_z i })
      ∙ sym (place_by_total places second_weights t)

  -- the last node of the second has a weight in the first
  pub same_last : d ≡ e
  same_last =
      let ends = different places t a b c e o' in
      let w = meet (map first_weights s) (map second_weights t) (length-map s first_weights ∙ four) (length-map t second_weights ∙ four') same_sums same_point e in
      let v = sym (weight_by_total first_weights e s ∙ o.counts (λ m. cond (m == e) (first_weights m) 0)) ∙ w ∙ weight_by_total second_weights e t ∙ o'.counts (λ m. cond (m == e) (second_weights m) 0) in
      last_weight a b c d e (second_weights a) (second_weights b) (second_weights c) (second_weights e) (first_weights a) (first_weights b) (first_weights c) (first_weights d)
      ends.ad ends.bd ends.cd (raise (second_weights e) point.last second_e point.above) v
    where
      raise : (m n : ℕ) → m ≡ n → 0 < n → 0 < m
      raise m n e h = omega arith
