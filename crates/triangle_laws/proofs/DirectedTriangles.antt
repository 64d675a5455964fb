-- A triangle with a direction is in at most one tetrahedron.
use Rattle.std.proofs.Common.{◌≡◌, ◌⊎◌, inl, inr, ℕ, ◌+◌, ◌<◌, ◌≤◌, Bool, true, false, ◌&&◌, ◌||◌, ◌==◌, cond, List, [], ◌∷◌, length, get_or, refl, sym, ◌∙◌, subst, arith}
use Rattle.std.specs.Prelude.{pos}
use Rattle.std.specs.List.{list_all}
use lib.Signed.{◌<ℤ◌}
use Rattle.std.proofs.lemmas.Bool.{eqb-true, and_parts, or_cases, and_from, both_ways}
use Rattle.definitions.specs.declared.Place.{Place}
use Rattle.definitions.specs.Vectors.{place_at}
use Rattle.definitions.specs.Soundness.{IsPositive, Meet, is_in, same_nodes, triangles_of, all_triangles}
use Rattle.lattice_laws.proofs.Sublists.{all_from_place, pairs_from_place}
use Rattle.lattice_laws.proofs.Volumes.{det_by_rows}
use Rattle.triangle_laws.specs.Boundary.{turned}
use Rattle.triangle_laws.specs.Overlap.{volume_of}
use Rattle.triangle_laws.specs.Laws.{AreConforming}
use Rattle.triangle_laws.proofs.Orders.{IsOrder, AreDifferent, own_order, first_turned, last_turned, last_turned_back, others_turned, different}
use Rattle.triangle_laws.proofs.SharedTriangles.{same_test, same_last}
use Rattle.triangle_laws.proofs.Sums.{total-flat_map, bit, miss, hits, any_from_hits, all_from_misses, at_most_once, one_of_four}

-- ---- nodes of a tetrahedron

bit_of : (b : Bool) → b ≡ true → bit b ≡ 1
bit_of true e = refl
bit_of false e = cc

miss_of : (b : Bool) → b ≡ true → miss b ≡ 0
miss_of true e = refl
miss_of false e = cc

true_bit : (b : Bool) → bit b ≡ 1 → b ≡ true
true_bit true e = refl
true_bit false e = absurd (omega arith)

module _ (places : List Place) (tet : List ℕ) (a b c d : ℕ) (o : IsOrder places tet a b c d) where
  -- a node that is one of the four is in the tetrahedron
  in_tet : (n : ℕ) → 0 < cond (a == n) 1 0 + cond (b == n) 1 0 + cond (c == n) 1 0 + cond (d == n) 1 0 → is_in tet n ≡ true
  in_tet n h = any_from_hits (λ m. m == n) tet (above (hits (λ m. m == n) tet) _ (o.counts (λ m. cond (m == n) 1 0)) h)
    where
      above : (m n : ℕ) → m ≡ n → 0 < n → 0 < m
      above m n e h = omega arith

  has_a : is_in tet a ≡ true
  has_a = let e = bit_of (a == a) (same_test a) in in_tet a (omega arith)

  has_b : is_in tet b ≡ true
  has_b = let e = bit_of (b == b) (same_test b) in in_tet b (omega arith)

  has_c : is_in tet c ≡ true
  has_c = let e = bit_of (c == c) (same_test c) in in_tet c (omega arith)

  has_d : is_in tet d ≡ true
  has_d = let e = bit_of (d == d) (same_test d) in in_tet d (omega arith)

  -- what holds of the four holds of its nodes
  all_of_four : (p : ℕ → Bool) → p a ≡ true → p b ≡ true → p c ≡ true → p d ≡ true → list_all p tet ≡ true
  all_of_four p ea eb ec ed = all_from_misses p tet (o.counts (λ m. cond (p m) 0 1) ∙ (λ i. miss_of (p a) ea i + miss_of (p b) eb i + miss_of (p c) ec i + miss_of (p d) ed i))

  -- its fourth node is determined
  same_fourth : (e : ℕ) → IsOrder places tet a b c e → d ≡ e
  same_fourth e q =
      let bit = λ (m : ℕ). cond (m == e) 1 0 in
      eqb-true d e (true_bit (d == e) (cancel (bit a) (bit b) (bit c) (bit d) (bit e) (sym (o.counts bit) ∙ q.counts bit) (bit_of (e == e) (same_test e))))
    where
      cancel : (p q r s t : ℕ) → p + q + r + s ≡ p + q + r + t → t ≡ 1 → s ≡ 1
      cancel p q r s t h k = omega arith

-- two tetrahedra with four nodes in common
pub nodes_agree : (places : List Place) (s t : List ℕ) (a b c d : ℕ) → IsOrder places s a b c d → IsOrder places t a b c d → same_nodes s t ≡ true
nodes_agree places s t a b c d o q =
    and_from _ _
    (all_of_four places s a b c d o (is_in t) (has_a places t a b c d q) (has_b places t a b c d q) (has_c places t a b c d q) (has_d places t a b c d q))
    (all_of_four places t a b c d q (is_in s) (has_a places s a b c d o) (has_b places s a b c d o) (has_c places s a b c d o) (has_d places s a b c d o))

-- ---- a triangle of a tetrahedron

-- the order of the nodes that begins with the triangle turned
turned_order : (places : List Place) (tet : List ℕ) (a b c x y z d : ℕ) → turned (a ∷ b ∷ c ∷ []) (x ∷ y ∷ z ∷ []) ≡ true → IsOrder places tet x z y d → IsOrder places tet a b c d
turned_order places tet a b c x y z d h o = go (or_cases (x == a && (y == c && z == b)) _ h)
  where
    three : (p q r : ℕ) → ((x == p) && ((y == q) && (z == r))) ≡ true → IsOrder places tet p r q d
    three p q r e =
        let f = and_parts (x == p) _ e in
        let g = and_parts (y == q) _ f.1 in
        subst (λ n. IsOrder places tet n r q d) (eqb-true x p f.0)
        (subst (λ n. IsOrder places tet x n q d) (eqb-true z r g.1) (subst (λ n. IsOrder places tet x z n d) (eqb-true y q g.0) o))

    go : ((x == a && (y == c && z == b)) ≡ true) ⊎ (((x == c && (y == b && z == a)) || (x == b && (y == a && z == c))) ≡ true) → IsOrder places tet a b c d
    go (inl e) = three a c b e
    go (inr e) = elim (or_cases (x == c && (y == b && z == a)) _ e) [
      | inl f ↦ first_turned places tet c a b d (three c b a f)
      | inr f ↦ first_turned places tet c a b d (first_turned places tet b c a d (three b a c f))
    ]

-- how many of a tetrahedron's triangles are a b c turned
abbrev turned_in : ℕ → ℕ → ℕ → List ℕ → ℕ
turned_in a b c tet = hits (turned (a ∷ b ∷ c ∷ [])) (triangles_of tet)

module _ (places : List Place) (p q r s : ℕ) (positive : pos 0 <ℤ volume_of (place_at places p) (place_at places q) (place_at places r) (place_at places s)) (a b c : ℕ) where
  abbrev four_nodes : List ℕ
  four_nodes = p ∷ q ∷ r ∷ s ∷ []

  own : IsOrder places four_nodes p q r s
  own = own_order places p q r s positive

  own_different : AreDifferent p q r s
  own_different = different places four_nodes p q r s own

  without_s : turned (a ∷ b ∷ c ∷ []) (p ∷ r ∷ q ∷ []) ≡ true → IsOrder places four_nodes a b c s
  without_s e = turned_order places four_nodes a b c p r q s e own

  without_r : turned (a ∷ b ∷ c ∷ []) (p ∷ q ∷ s ∷ []) ≡ true → IsOrder places four_nodes a b c r
  without_r e = turned_order places four_nodes a b c p q s r e (last_turned_back places four_nodes p q r s own)

  without_q : turned (a ∷ b ∷ c ∷ []) (p ∷ s ∷ r ∷ []) ≡ true → IsOrder places four_nodes a b c q
  without_q e = turned_order places four_nodes a b c p s r q e (last_turned places four_nodes p q r s own)

  without_p : turned (a ∷ b ∷ c ∷ []) (q ∷ r ∷ s ∷ []) ≡ true → IsOrder places four_nodes a b c p
  without_p e = turned_order places four_nodes a b c q r s p e (others_turned places four_nodes p q r s own)

  one_triangle : turned_in a b c four_nodes ≤ 1
  one_triangle =
      one_of_four (turned (a ∷ b ∷ c ∷ []) (p ∷ r ∷ q ∷ [])) (turned (a ∷ b ∷ c ∷ []) (p ∷ q ∷ s ∷ [])) (turned (a ∷ b ∷ c ∷ []) (p ∷ s ∷ r ∷ [])) (turned (a ∷ b ∷ c ∷ []) (q ∷ r ∷ s ∷ []))
      (λ e f. own_different.cd (sym (same_fourth places four_nodes a b c s (without_s e) r (without_r f))))
      (λ e f. own_different.bd (sym (same_fourth places four_nodes a b c s (without_s e) q (without_q f))))
      (λ e f. own_different.ad (sym (same_fourth places four_nodes a b c s (without_s e) p (without_p f))))
      (λ e f. own_different.bc (sym (same_fourth places four_nodes a b c r (without_r e) q (without_q f))))
      (λ e f. own_different.ac (sym (same_fourth places four_nodes a b c r (without_r e) p (without_p f))))
      (λ e f. own_different.ab (sym (same_fourth places four_nodes a b c q (without_q e) p (without_p f))))

  order_found : 0 < turned_in a b c four_nodes → (d : ℕ) × IsOrder places four_nodes a b c d
  order_found h =
      go (turned (a ∷ b ∷ c ∷ []) (p ∷ r ∷ q ∷ [])) (turned (a ∷ b ∷ c ∷ []) (p ∷ q ∷ s ∷ [])) (turned (a ∷ b ∷ c ∷ []) (p ∷ s ∷ r ∷ [])) (turned (a ∷ b ∷ c ∷ []) (q ∷ r ∷ s ∷ []))
      (λ e. (s, without_s e)) (λ e. (r, without_r e)) (λ e. (q, without_q e)) (λ e. (p, without_p e)) h
    where
      go : {A : Type 0} (b1 b2 b3 b4 : Bool) → (b1 ≡ true → A) → (b2 ≡ true → A) → (b3 ≡ true → A) → (b4 ≡ true → A) → 0 < cond b1 1 0 + (cond b2 1 0 + (cond b3 1 0 + (cond b4 1 0 + 0))) → A
      go true b2 b3 b4 f1 f2 f3 f4 k = f1 refl
      go false true b3 b4 f1 f2 f3 f4 k = f2 refl
      go false false true b4 f1 f2 f3 f4 k = f3 refl
      go false false false true f1 f2 f3 f4 k = f4 refl
      go false false false false f1 f2 f3 f4 k = absurd (omega arith)

-- ---- a tetrahedron as a list of four

-- four numbers whose tetrahedron has a volume above zero
pub data IsFour (places : List Place) : List ℕ → Type 0 where
  is_four : (p q r s : ℕ) → pos 0 <ℤ volume_of (place_at places p) (place_at places q) (place_at places r) (place_at places s) → IsFour places (p ∷ q ∷ r ∷ s ∷ [])

pub as_four : (places : List Place) (tet : List ℕ) → length tet ≡ 4 → IsPositive places tet → IsFour places tet
as_four places (p ∷ q ∷ r ∷ s ∷ []) len h = is_four p q r s (subst (λ v. pos 0 <ℤ v) (det_by_rows (place_at places p) (place_at places q) (place_at places r) (place_at places s)) h)
as_four places [] len h = absurd (omega arith)
as_four places (p ∷ []) len h = absurd (omega arith)
as_four places (p ∷ q ∷ []) len h = absurd (omega arith)
as_four places (p ∷ q ∷ r ∷ []) len h = absurd (omega arith)
as_four places (p ∷ q ∷ r ∷ s ∷ t ∷ more) len h = absurd (omega arith)

module _ (places : List Place) (a b c : ℕ) where
  at_most_one : (tet : List ℕ) → IsFour places tet → turned_in a b c tet ≤ 1
  at_most_one tet (is_four p q r s positive) = one_triangle places p q r s positive a b c

  found_order : (tet : List ℕ) → IsFour places tet → 0 < turned_in a b c tet → (d : ℕ) × IsOrder places tet a b c d
  found_order tet (is_four p q r s positive) h = order_found places p q r s positive a b c h

  -- not in two
  not_in_two : (s t : List ℕ) → length s ≡ 4 → length t ≡ 4 → IsPositive places s → IsPositive places t → Meet places s t → same_nodes s t ≡ false → 0 < turned_in a b c s → 0 < turned_in a b c t → ⊥
  not_in_two s t ls lt ps pt m different hs ht =
      let x = found_order s (as_four places s ls ps) hs in
      let y = found_order t (as_four places t lt pt) ht in
      let e = same_last places s t a b c x.0 y.0 x.1 y.1 m ls lt in
      both_ways (same_nodes s t) different (nodes_agree places s t a b c y.0 (subst (λ n. IsOrder places s a b c n) e x.1) y.1)

-- In all tetrahedra together a triangle with a direction stands at most once.
pub at_most_one_turned : (places : List Place) (tets : List (List ℕ)) → AreConforming places tets → (a b c : ℕ) → hits (turned (a ∷ b ∷ c ∷ [])) (all_triangles tets) ≤ 1
at_most_one_turned places tets k a b c =
    subst (λ n. n ≤ 1) (sym (total-flat_map (λ u. cond (turned (a ∷ b ∷ c ∷ []) u) 1 0) triangles_of tets))
    (at_most_once (turned_in a b c) tets
    (all_from_place (λ t. turned_in a b c t ≤ 1) tets (λ n d lt. at_most_one places a b c (get_or tets n d) (as_four places (get_or tets n d) (k.four n d lt) (k.positive n d lt))))
    (pairs_from_place (λ s t. 0 < turned_in a b c s → 0 < turned_in a b c t → ⊥) tets
    (λ i j d lt len.
    not_in_two places a b c (get_or tets i d) (get_or tets j d) (k.four i d (before i j (length tets) lt len)) (k.four j d len) (k.positive i d (before i j (length tets) lt len)) (k.positive j d len)
    (k.meet i d (before i j (length tets) lt len) j d len) (k.different i j d lt len))))
  where
    before : (i j n : ℕ) → i < j → j < n → i < n
    before i j n h l = omega arith
