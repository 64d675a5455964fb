-- Where all weights of a point are above 0, no other tetrahedron of the mesh holds it.
use Rattle.std.specs.Prelude.{ℕ, zero, suc, ◌+◌, ◌*◌, ◌<◌, ◌≤◌, ⊤, Bool, true, false, ◌&&◌, ◌||◌, ◌==◌, List, [], ◌∷◌, length, sum, if◌then◌else◌}
use Rattle.std.specs.List.{list_all, list_any}
use Rattle.std.proofs.Common.{◌≡◌, ◌≢◌, refl, sym, ap, subst, ◌∙◌, arith, inl, inr, ◌⊎◌, get_or}
use Rattle.std.proofs.Math.IntN.{ℤ, pos, ◌+ℤ◌, ◌*ℤ◌, nat_abs}
use Rattle.std.proofs.lemmas.Int.{ints}
use Rattle.std.proofs.lemmas.List.{get_or-map, length-map}
use Rattle.std.proofs.lemmas.Bool.{eqb-true, eq-eqb}
use lib.Signed.{◌<ℤ◌, ◌≤ℤ◌}
use borrow.Author.Differences.{at_most_in}
use Rattle.definitions.specs.declared.Place.{Place}
use Rattle.definitions.specs.Places.{place}
use Rattle.definitions.specs.Values.{Field}
use Rattle.definitions.specs.States.{Shares, IsShares}
use Rattle.definitions.specs.Vectors.{det, place_at}
use Rattle.definitions.specs.Mesh.{mesh}
use Rattle.definitions.specs.Soundness.{Meet, corner_places, is_in, same_nodes, weight_of, weighted_place}
use Rattle.exact.specs.Polynomials.{variable, constant, plus, times}
use Rattle.exact.proofs.Ring.{ring}
use Rattle.exact.proofs.IntegerOrder.{size_of_nonnegative}
use Rattle.lattice_laws.specs.Ascending.{Has}
use Rattle.lattice_laws.specs.Vectors.{Vector, ◌*ᵥ◌}
use Rattle.lattice_laws.proofs.Lists.{compared}
use Rattle.lattice_laws.proofs.Volumes.{det_by_rows}
use Rattle.triangle_laws.specs.Overlap.{volume_of}
use Rattle.triangle_laws.proofs.Orders.{different, own_order}
use Rattle.lattice_laws.proofs.Lists.{four_of}
use Rattle.sound_laws.proofs.Different.{tets_differ}
use Rattle.sound_laws.proofs.Meeting.{tets_meet}
use Rattle.sound_laws.proofs.Positive.{tets_are_positive}
use Rattle.mesh_probe.specs.declared.hold.Hold.{Hold}
use Rattle.mesh_probe.specs.Answers.{IsHold, IsOnly, number_of_hold}
use Rattle.mesh_probe.specs.Holding.{Holds, places_of, weight, weights}
use Rattle.mesh_probe.specs.Laws.{InnerPointsAreHeldOnce}
use Rattle.mesh_probe.proofs.FirstHold.{four_nodes}
use Rattle.mesh_probe.proofs.WeightSums.{weights_add_up, weights_give_x, weights_give_y, weights_give_z}

-- ---- four different numbers among four are all of them
abbrev remove : ℕ → List ℕ → List ℕ
remove x [] = []
remove x (y ∷ ys) = if y == x then ys else y ∷ remove x ys

abbrev Different : List ℕ → Type 0
Different [] = ⊤
Different (x ∷ xs) = ((j : ℕ) → Has j xs → j ≡ x → ⊥) × Different xs

removed_length : (x : ℕ) (ys : List ℕ) → Has x ys → length ys ≡ suc (length (remove x ys))
removed_length x [] m = absurd m
removed_length x (y ∷ ys) m = go (λ k. removed_length x ys k) (y == x) refl
  where
    go : (Has x ys → length ys ≡ suc (length (remove x ys))) → (b : Bool) → (y == x) ≡ b → suc (length ys) ≡ suc (length (if b then ys else y ∷ remove x ys))
    go further true e = refl
    go further false e = ap suc (rest m)
      where
        rest : (y ≡ x) ⊎ Has x ys → length ys ≡ suc (length (remove x ys))
        rest (inl q) = absurd (never (sym e ∙ eq-eqb y x q))
          where
            never : false ≡ true → ⊥
            never h = cc
        rest (inr k) = further k

has_other : (k x : ℕ) (ys : List ℕ) → Has k ys → (k ≡ x → ⊥) → Has k (remove x ys)
has_other k x [] m no_same = absurd m
has_other k x (y ∷ ys) m no_same = go (λ h. has_other k x ys h no_same) (y == x) refl m
  where
    go : (Has k ys → Has k (remove x ys)) → (b : Bool) → (y == x) ≡ b → (y ≡ k) ⊎ Has k ys → Has k (if b then ys else y ∷ remove x ys)
    go further true e (inl q) = absurd (no_same (sym q ∙ eqb-true y x e))
    go further true e (inr h) = h
    go further false e (inl q) = inl q
    go further false e (inr h) = inr (further h)

from_removed : (k x : ℕ) (ys : List ℕ) → Has k ys → (k ≡ x) ⊎ Has k (remove x ys)
from_removed k x [] m = absurd m
from_removed k x (y ∷ ys) m = go (λ h. from_removed k x ys h) (y == x) refl m
  where
    go : (Has k ys → (k ≡ x) ⊎ Has k (remove x ys)) → (b : Bool) → (y == x) ≡ b → (y ≡ k) ⊎ Has k ys → (k ≡ x) ⊎ Has k (if b then ys else y ∷ remove x ys)
    go further true e (inl q) = inl (sym q ∙ eqb-true y x e)
    go further true e (inr h) = inr h
    go further false e (inl q) = inr (inl q)
    go further false e (inr h) = again (further h)
      where
        again : (k ≡ x) ⊎ Has k (remove x ys) → (k ≡ x) ⊎ ((y ≡ k) ⊎ Has k (remove x ys))
        again (inl q) = inl q
        again (inr g) = inr (inr g)

all_of_them : (xs ys : List ℕ) → Different xs → ((k : ℕ) → Has k xs → Has k ys) → length ys ≤ length xs → (k : ℕ) → Has k ys → Has k xs
all_of_them [] [] different within le k m = m
all_of_them [] (y ∷ ys) different within le k m = absurd (omega arith)
all_of_them (x ∷ xs) ys different within le k m = go (λ w l. all_of_them xs (remove x ys) different.1 w l k) (from_removed k x ys m)
  where
    shorter : length (remove x ys) ≤ length xs
    shorter = let e = removed_length x ys (within x (inl refl)) in omega arith

    go : (((j : ℕ) → Has j xs → Has j (remove x ys)) → length (remove x ys) ≤ length xs → Has k (remove x ys) → Has k xs) → (k ≡ x) ⊎ Has k (remove x ys) → (x ≡ k) ⊎ Has k xs
    go further (inl e) = inl (sym e)
    go further (inr h) = inr (further (λ j n. has_other j x ys (within j (inr n)) (different.0 j n)) shorter h)

-- ---- members by tests
test_of_has : (xs : List ℕ) (k : ℕ) → Has k xs → is_in xs k ≡ true
test_of_has [] k m = absurd m
test_of_has (x ∷ xs) k m = go (λ h. test_of_has xs k h) (x == k) refl m
  where
    go : (Has k xs → is_in xs k ≡ true) → (b : Bool) → (x == k) ≡ b → (x ≡ k) ⊎ Has k xs → (b || list_any (λ m. m == k) xs) ≡ true
    go further true q h = refl
    go further false q (inl e) = absurd (never (sym q ∙ eq-eqb x k e))
      where
        never : false ≡ true → ⊥
        never h = cc
    go further false q (inr h) = further h

all_in : (xs ys : List ℕ) → ((k : ℕ) → Has k xs → Has k ys) → list_all (is_in ys) xs ≡ true
all_in [] ys h = refl
all_in (x ∷ xs) ys h = (λ i. (test_of_has ys x (h x (inl refl)) i) && all_in xs ys (λ k m. h k (inr m)) i)

-- ---- weights
weighted_has : (tet ws : List ℕ) (k : ℕ) → 0 < weight_of tet ws k → Has k tet
weighted_has [] ws k lt = absurd (omega arith)
weighted_has (m ∷ tet) [] k lt = absurd (omega arith)
weighted_has (m ∷ tet) (w ∷ ws) k lt = go (λ h. weighted_has tet ws k h) (m == k) refl lt
  where
    go : (0 < weight_of tet ws k → Has k tet) → (b : Bool) → (m == k) ≡ b → 0 < (if b then w else 0) + weight_of tet ws k → (m ≡ k) ⊎ Has k tet
    go further true e h = inl (eqb-true m k e)
    go further false e h = inr (further (omega arith))

-- a node has the weights that stand with it
own_weight : (tet ws : List ℕ) (i : ℕ) → i < length tet → i < length ws → get_or ws i 0 ≤ weight_of tet ws (get_or tet i 0)
own_weight [] ws i h g = absurd (omega arith)
own_weight (m ∷ tet) [] i h g = absurd (omega arith)
own_weight (m ∷ tet) (w ∷ ws) zero h g = subst (λ b. w ≤ (if b then w else 0) + weight_of tet ws m) (sym (eq-eqb m m refl)) (omega arith)
own_weight (m ∷ tet) (w ∷ ws) (suc i) h g = let e = own_weight tet ws i (omega arith) (omega arith) in more (get_or ws i 0) (if m == get_or tet i 0 then w else 0) (weight_of tet ws (get_or tet i 0)) e
  where
    more : (a b c : ℕ) → a ≤ c → a ≤ b + c
    more a b c h = omega arith

scaled_place : (N u0 u1 u2 u3 : ℕ) (a b c d q : ℤ) → pos u0 *ℤ a +ℤ pos u1 *ℤ b +ℤ pos u2 *ℤ c +ℤ pos u3 *ℤ d ≡ pos (u0 + u1 + u2 + u3) *ℤ q
    → (pos (N * u0) *ℤ a) +ℤ ((pos (N * u1) *ℤ b) +ℤ ((pos (N * u2) *ℤ c) +ℤ ((pos (N * u3) *ℤ d) +ℤ pos 0))) ≡ pos (N * (u0 + u1 + u2 + u3)) *ℤ q
scaled_place N u0 u1 u2 u3 a b c d q e =
    ring (pos N ∷ pos u0 ∷ pos u1 ∷ pos u2 ∷ pos u3 ∷ a ∷ b ∷ c ∷ d ∷ []) (plus (times (times (variable 0) (variable 1)) (variable 5)) (plus (times (times (variable 0) (variable 2)) (variable 6)) (plus (times (times (variable 0) (variable 3)) (variable 7)) (plus (times (times (variable 0) (variable 4)) (variable 8)) (constant (pos 0))))))
    (times (variable 0) (plus (plus (plus (times (variable 1) (variable 5)) (times (variable 2) (variable 6))) (times (variable 3) (variable 7))) (times (variable 4) (variable 8)))) refl
    ∙ (λ i. pos N *ℤ e i)
    ∙ ring (pos N ∷ pos (u0 + u1 + u2 + u3) ∷ q ∷ []) (times (variable 0) (times (variable 1) (variable 2))) (times (times (variable 0) (variable 1)) (variable 2)) refl

-- a point as the sum of a tetrahedron's nodes by natural weights
record IsWeighted (a b c d p : Vector) (u0 u1 u2 u3 : ℕ) : Type 0 where
  first : pos u0 ≡ volume_of p b c d
  second : pos u1 ≡ volume_of a p c d
  third : pos u2 ≡ volume_of a b p d
  fourth : pos u3 ≡ volume_of a b c p
  total : pos (u0 + u1 + u2 + u3) ≡ volume_of a b c d
  place_by : (N : ℕ) → weighted_place (a ∷ b ∷ c ∷ d ∷ []) (N * u0 ∷ N * u1 ∷ N * u2 ∷ N * u3 ∷ []) ≡ pos (N * (u0 + u1 + u2 + u3)) *ᵥ p

is_weighted : (a b c d p : Vector) → Holds (a ∷ b ∷ c ∷ d ∷ []) p → IsWeighted a b c d p (nat_abs (volume_of p b c d)) (nat_abs (volume_of a p c d)) (nat_abs (volume_of a b p d)) (nat_abs (volume_of a b c p))
is_weighted a b c d p h =
    go (volume_of p b c d) (volume_of a p c d) (volume_of a b p d) (volume_of a b c p) refl refl refl refl
    (subst (λ (t : ℤ). pos 0 ≤ℤ t) (det_by_rows p b c d) (h 0 (omega arith))) (subst (λ (t : ℤ). pos 0 ≤ℤ t) (det_by_rows a p c d) (h 1 (omega arith)))
    (subst (λ (t : ℤ). pos 0 ≤ℤ t) (det_by_rows a b p d) (h 2 (omega arith))) (subst (λ (t : ℤ). pos 0 ≤ℤ t) (det_by_rows a b c p) (h 3 (omega arith)))
    (weights_add_up a b c d p) (weights_give_x a b c d p) (weights_give_y a b c d p) (weights_give_z a b c d p)
  where
    go : (w0 w1 w2 w3 : ℤ) → w0 ≡ volume_of p b c d → w1 ≡ volume_of a p c d → w2 ≡ volume_of a b p d → w3 ≡ volume_of a b c p → pos 0 ≤ℤ w0 → pos 0 ≤ℤ w1 → pos 0 ≤ℤ w2 → pos 0 ≤ℤ w3 → w0 +ℤ w1 +ℤ w2 +ℤ w3 ≡ volume_of a b c d
        → w0 *ℤ a.x +ℤ w1 *ℤ b.x +ℤ w2 *ℤ c.x +ℤ w3 *ℤ d.x ≡ volume_of a b c d *ℤ p.x → w0 *ℤ a.y +ℤ w1 *ℤ b.y +ℤ w2 *ℤ c.y +ℤ w3 *ℤ d.y ≡ volume_of a b c d *ℤ p.y → w0 *ℤ a.z +ℤ w1 *ℤ b.z +ℤ w2 *ℤ c.z +ℤ w3 *ℤ d.z ≡ volume_of a b c d *ℤ p.z
        → IsWeighted a b c d p (nat_abs w0) (nat_abs w1) (nat_abs w2) (nat_abs w3)
    go w0 w1 w2 w3 e0 e1 e2 e3 h0 h1 h2 h3 sum ex ey ez =
        let s0 = size_of_nonnegative w0 h0 in
        let s1 = size_of_nonnegative w1 h1 in
        let s2 = size_of_nonnegative w2 h2 in
        let s3 = size_of_nonnegative w3 h3 in
        let total : pos (nat_abs w0 + nat_abs w1 + nat_abs w2 + nat_abs w3) ≡ volume_of a b c d = (λ i. s0 i +ℤ s1 i +ℤ s2 i +ℤ s3 i) ∙ sum in
        let at = λ (x y z u q : ℤ) (e : w0 *ℤ x +ℤ w1 *ℤ y +ℤ w2 *ℤ z +ℤ w3 *ℤ u ≡ volume_of a b c d *ℤ q). (λ i. s0 i *ℤ x +ℤ s1 i *ℤ y +ℤ s2 i *ℤ z +ℤ s3 i *ℤ u) ∙ e ∙ (λ i. sym total i *ℤ q) in
        record {
          first = s0 ∙ e0;
          second = s1 ∙ e1;
          third = s2 ∙ e2;
          fourth = s3 ∙ e3;
          total = total;
          place_by = λ N. λ i. place
              (scaled_place N (nat_abs w0) (nat_abs w1) (nat_abs w2) (nat_abs w3) a.x b.x c.x d.x p.x (at a.x b.x c.x d.x p.x ex) i)
              (scaled_place N (nat_abs w0) (nat_abs w1) (nat_abs w2) (nat_abs w3) a.y b.y c.y d.y p.y (at a.y b.y c.y d.y p.y ey) i)
              (scaled_place N (nat_abs w0) (nat_abs w1) (nat_abs w2) (nat_abs w3) a.z b.z c.z d.z p.z (at a.z b.z c.z d.z p.z ez) i);
        }

-- ---- the law
module _ (f : Field) (s : Shares) (is : IsShares s) (p : Place) (t0 t1 t2 t3 : ℕ) where
  abbrev P : ℕ → Place
  P = place_at (mesh f s).places

  abbrev D : ℤ
  D = volume_of (P t0) (P t1) (P t2) (P t3)

  -- the nodes of a tetrahedron with a volume are four
  four_differ : pos 0 <ℤ D → Different (t0 ∷ t1 ∷ t2 ∷ t3 ∷ [])
  four_differ h =
      let o = different (mesh f s).places (t0 ∷ t1 ∷ t2 ∷ t3 ∷ []) t0 t1 t2 t3 (own_order (mesh f s).places t0 t1 t2 t3 h) in
      (first o.ab o.ac o.ad, (second o.bc o.bd, (third o.cd, (λ j m. absurd m, tt))))
    where
      first : t0 ≢ t1 → t0 ≢ t2 → t0 ≢ t3 → (j : ℕ) → Has j (t1 ∷ t2 ∷ t3 ∷ []) → j ≡ t0 → ⊥
      first b c d j (inl e) g = b (sym (e ∙ g))
      first b c d j (inr (inl e)) g = c (sym (e ∙ g))
      first b c d j (inr (inr (inl e))) g = d (sym (e ∙ g))
      first b c d j (inr (inr (inr m))) g = absurd m

      second : t1 ≢ t2 → t1 ≢ t3 → (j : ℕ) → Has j (t2 ∷ t3 ∷ []) → j ≡ t1 → ⊥
      second c d j (inl e) g = c (sym (e ∙ g))
      second c d j (inr (inl e)) g = d (sym (e ∙ g))
      second c d j (inr (inr m)) g = absurd m

      third : t2 ≢ t3 → (j : ℕ) → Has j (t3 ∷ []) → j ≡ t2 → ⊥
      third d j (inl e) g = d (sym (e ∙ g))
      third d j (inr m) g = absurd m

  module _ (r0 r1 r2 r3 : ℕ) (meet : Meet (mesh f s).places (t0 ∷ t1 ∷ t2 ∷ t3 ∷ []) (r0 ∷ r1 ∷ r2 ∷ r3 ∷ [])) where
    -- the nodes of one that has the point inside are among those of another that holds it
    nodes_within : (u0 u1 u2 u3 w0 w1 w2 w3 : ℕ) → IsWeighted (P t0) (P t1) (P t2) (P t3) p u0 u1 u2 u3 → IsWeighted (P r0) (P r1) (P r2) (P r3) p w0 w1 w2 w3
        → 0 < u0 → 0 < u1 → 0 < u2 → 0 < u3 → 0 < w0 + w1 + w2 + w3 → (k : ℕ) → Has k (t0 ∷ t1 ∷ t2 ∷ t3 ∷ []) → Has k (r0 ∷ r1 ∷ r2 ∷ r3 ∷ [])
    nodes_within u0 u1 u2 u3 w0 w1 w2 w3 a b h0 h1 h2 h3 hw = go
      where
        same : (k : ℕ) → weight_of (t0 ∷ t1 ∷ t2 ∷ t3 ∷ []) ((w0 + w1 + w2 + w3) * u0 ∷ (w0 + w1 + w2 + w3) * u1 ∷ (w0 + w1 + w2 + w3) * u2 ∷ (w0 + w1 + w2 + w3) * u3 ∷ []) k
            ≡ weight_of (r0 ∷ r1 ∷ r2 ∷ r3 ∷ []) ((u0 + u1 + u2 + u3) * w0 ∷ (u0 + u1 + u2 + u3) * w1 ∷ (u0 + u1 + u2 + u3) * w2 ∷ (u0 + u1 + u2 + u3) * w3 ∷ []) k
        same =
            meet ((w0 + w1 + w2 + w3) * u0 ∷ (w0 + w1 + w2 + w3) * u1 ∷ (w0 + w1 + w2 + w3) * u2 ∷ (w0 + w1 + w2 + w3) * u3 ∷ []) ((u0 + u1 + u2 + u3) * w0 ∷ (u0 + u1 + u2 + u3) * w1 ∷ (u0 + u1 + u2 + u3) * w2 ∷ (u0 + u1 + u2 + u3) * w3 ∷ []) refl refl
            (sums (w0 + w1 + w2 + w3) u0 u1 u2 u3 ∙ swap (w0 + w1 + w2 + w3) (u0 + u1 + u2 + u3) ∙ sym (sums (u0 + u1 + u2 + u3) w0 w1 w2 w3))
            (a.place_by (w0 + w1 + w2 + w3) ∙ ap (λ n. pos n *ᵥ p) (swap (w0 + w1 + w2 + w3) (u0 + u1 + u2 + u3)) ∙ sym (b.place_by (u0 + u1 + u2 + u3)))
          where
            swap : (m n : ℕ) → m * n ≡ n * m
            swap m n = omega arith

            sums : (N a b c d : ℕ) → sum (N * a ∷ N * b ∷ N * c ∷ N * d ∷ []) ≡ N * (a + b + c + d)
            sums N a b c d = apart N a b c d
              where
                apart : (N a b c d : ℕ) → 0 + N * a + N * b + N * c + N * d ≡ N * (a + b + c + d)
                apart N a b c d = omega arith

        above : (N u w : ℕ) → 0 < N → 0 < u → N * u ≤ w → 0 < w
        above (suc N) (suc u) w h g l = omega arith
        above zero u w h g l = absurd (omega arith)
        above (suc N) zero w h g l = absurd (omega arith)

        at : (k N u : ℕ) → 0 < N → 0 < u → N * u ≤ weight_of (t0 ∷ t1 ∷ t2 ∷ t3 ∷ []) ((w0 + w1 + w2 + w3) * u0 ∷ (w0 + w1 + w2 + w3) * u1 ∷ (w0 + w1 + w2 + w3) * u2 ∷ (w0 + w1 + w2 + w3) * u3 ∷ []) k → Has k (r0 ∷ r1 ∷ r2 ∷ r3 ∷ [])
        at k N u h g l = weighted_has (r0 ∷ r1 ∷ r2 ∷ r3 ∷ []) ((u0 + u1 + u2 + u3) * w0 ∷ (u0 + u1 + u2 + u3) * w1 ∷ (u0 + u1 + u2 + u3) * w2 ∷ (u0 + u1 + u2 + u3) * w3 ∷ []) k (subst (λ n. 0 < n) (same k) (above N u _ h g l))

        own : (i : ℕ) → i < 4 → get_or ((w0 + w1 + w2 + w3) * u0 ∷ (w0 + w1 + w2 + w3) * u1 ∷ (w0 + w1 + w2 + w3) * u2 ∷ (w0 + w1 + w2 + w3) * u3 ∷ []) i 0
            ≤ weight_of (t0 ∷ t1 ∷ t2 ∷ t3 ∷ []) ((w0 + w1 + w2 + w3) * u0 ∷ (w0 + w1 + w2 + w3) * u1 ∷ (w0 + w1 + w2 + w3) * u2 ∷ (w0 + w1 + w2 + w3) * u3 ∷ []) (get_or (t0 ∷ t1 ∷ t2 ∷ t3 ∷ []) i 0)
        own i h = own_weight (t0 ∷ t1 ∷ t2 ∷ t3 ∷ []) ((w0 + w1 + w2 + w3) * u0 ∷ (w0 + w1 + w2 + w3) * u1 ∷ (w0 + w1 + w2 + w3) * u2 ∷ (w0 + w1 + w2 + w3) * u3 ∷ []) i h h

        go : (k : ℕ) → Has k (t0 ∷ t1 ∷ t2 ∷ t3 ∷ []) → Has k (r0 ∷ r1 ∷ r2 ∷ r3 ∷ [])
        go k (inl e) = subst (λ n. Has n (r0 ∷ r1 ∷ r2 ∷ r3 ∷ [])) e (at t0 (w0 + w1 + w2 + w3) u0 hw h0 (own 0 (omega arith)))
        go k (inr (inl e)) = subst (λ n. Has n (r0 ∷ r1 ∷ r2 ∷ r3 ∷ [])) e (at t1 (w0 + w1 + w2 + w3) u1 hw h1 (own 1 (omega arith)))
        go k (inr (inr (inl e))) = subst (λ n. Has n (r0 ∷ r1 ∷ r2 ∷ r3 ∷ [])) e (at t2 (w0 + w1 + w2 + w3) u2 hw h2 (own 2 (omega arith)))
        go k (inr (inr (inr (inl e)))) = subst (λ n. Has n (r0 ∷ r1 ∷ r2 ∷ r3 ∷ [])) e (at t3 (w0 + w1 + w2 + w3) u3 hw h3 (own 3 (omega arith)))
        go k (inr (inr (inr (inr m)))) = absurd m

abs_positive : (x : ℤ) → pos 0 <ℤ x → 0 < nat_abs x
abs_positive x h = omega (arith, ints)

natural_positive : (n : ℕ) (x : ℤ) → pos n ≡ x → pos 0 <ℤ x → 0 < n
natural_positive n x e h = omega (arith, ints)

at_least : (x : ℤ) → pos 0 <ℤ x → pos 0 ≤ℤ x
at_least x h = at_most_in _ _ (omega (arith, ints))

module _ (f : Field) (s : Shares) (is : IsShares s) (p : Place) where
  same_both : (t0 t1 t2 t3 r0 r1 r2 r3 : ℕ) → Meet (mesh f s).places (t0 ∷ t1 ∷ t2 ∷ t3 ∷ []) (r0 ∷ r1 ∷ r2 ∷ r3 ∷ [])
      → pos 0 <ℤ det (corner_places (mesh f s).places (t0 ∷ t1 ∷ t2 ∷ t3 ∷ [])) → pos 0 <ℤ det (corner_places (mesh f s).places (r0 ∷ r1 ∷ r2 ∷ r3 ∷ []))
      → ((i : ℕ) → i < 4 → pos 0 <ℤ weight (corner_places (mesh f s).places (t0 ∷ t1 ∷ t2 ∷ t3 ∷ [])) p i) → Holds (corner_places (mesh f s).places (r0 ∷ r1 ∷ r2 ∷ r3 ∷ [])) p
      → (same_nodes (t0 ∷ t1 ∷ t2 ∷ t3 ∷ []) (r0 ∷ r1 ∷ r2 ∷ r3 ∷ []) ≡ true) × (same_nodes (r0 ∷ r1 ∷ r2 ∷ r3 ∷ []) (t0 ∷ t1 ∷ t2 ∷ t3 ∷ []) ≡ true)
  same_both t0 t1 t2 t3 r0 r1 r2 r3 meet pt pr inner holds =
      let Q = place_at (mesh f s).places in
      let a = is_weighted (Q t0) (Q t1) (Q t2) (Q t3) p (λ i h. at_least _ (inner i h)) in
      let b = is_weighted (Q r0) (Q r1) (Q r2) (Q r3) p holds in
      let within = nodes_within f s is p t0 t1 t2 t3 r0 r1 r2 r3 meet _ _ _ _ _ _ _ _ a b
      (abs_positive _ (subst (λ (t : ℤ). pos 0 <ℤ t) (det_by_rows p (Q t1) (Q t2) (Q t3)) (inner 0 (omega arith))))
      (abs_positive _ (subst (λ (t : ℤ). pos 0 <ℤ t) (det_by_rows (Q t0) p (Q t2) (Q t3)) (inner 1 (omega arith))))
      (abs_positive _ (subst (λ (t : ℤ). pos 0 <ℤ t) (det_by_rows (Q t0) (Q t1) p (Q t3)) (inner 2 (omega arith))))
      (abs_positive _ (subst (λ (t : ℤ). pos 0 <ℤ t) (det_by_rows (Q t0) (Q t1) (Q t2) p) (inner 3 (omega arith))))
      (natural_positive _ _ b.total (subst (λ (t : ℤ). pos 0 <ℤ t) (det_by_rows (Q r0) (Q r1) (Q r2) (Q r3)) pr))
      in
      let back = all_of_them (t0 ∷ t1 ∷ t2 ∷ t3 ∷ []) (r0 ∷ r1 ∷ r2 ∷ r3 ∷ []) (four_differ f s is p t0 t1 t2 t3 (subst (λ (t : ℤ). pos 0 <ℤ t) (det_by_rows (Q t0) (Q t1) (Q t2) (Q t3)) pt)) within (omega arith) in
      let there = all_in (t0 ∷ t1 ∷ t2 ∷ t3 ∷ []) (r0 ∷ r1 ∷ r2 ∷ r3 ∷ []) within in
      let here = all_in (r0 ∷ r1 ∷ r2 ∷ r3 ∷ []) (t0 ∷ t1 ∷ t2 ∷ t3 ∷ []) back in
      ((λ i. there i && here i), (λ i. here i && there i))

  same_lists : (xs ys : List ℕ) → length xs ≡ 4 → length ys ≡ 4 → Meet (mesh f s).places xs ys → pos 0 <ℤ det (corner_places (mesh f s).places xs) → pos 0 <ℤ det (corner_places (mesh f s).places ys)
      → ((i : ℕ) → i < 4 → pos 0 <ℤ weight (corner_places (mesh f s).places xs) p i) → Holds (corner_places (mesh f s).places ys) p → (same_nodes xs ys ≡ true) × (same_nodes ys xs ≡ true)
  same_lists xs ys hx hy = go (four_of xs hx) (four_of ys hy)
    where
      go : (a : ℕ) × (b : ℕ) × (c : ℕ) × (d : ℕ) × (xs ≡ a ∷ b ∷ c ∷ d ∷ []) → (a : ℕ) × (b : ℕ) × (c : ℕ) × (d : ℕ) × (ys ≡ a ∷ b ∷ c ∷ d ∷ []) → Meet (mesh f s).places xs ys → pos 0 <ℤ det (corner_places (mesh f s).places xs) → pos 0 <ℤ det (corner_places (mesh f s).places ys)
          → ((i : ℕ) → i < 4 → pos 0 <ℤ weight (corner_places (mesh f s).places xs) p i) → Holds (corner_places (mesh f s).places ys) p → (same_nodes xs ys ≡ true) × (same_nodes ys xs ≡ true)
      go (t0, t1, t2, t3, e) (r0, r1, r2, r3, g) meet px py inner holds =
          subst (λ x. (same_nodes x ys ≡ true) × (same_nodes ys x ≡ true)) (sym e)
          (subst (λ y. (same_nodes (t0 ∷ t1 ∷ t2 ∷ t3 ∷ []) y ≡ true) × (same_nodes y (t0 ∷ t1 ∷ t2 ∷ t3 ∷ []) ≡ true)) (sym g)
          (same_both t0 t1 t2 t3 r0 r1 r2 r3 (subst (λ y. Meet (mesh f s).places (t0 ∷ t1 ∷ t2 ∷ t3 ∷ []) y) g (subst (λ x. Meet (mesh f s).places x ys) e meet))
          (subst (λ x. pos 0 <ℤ det (corner_places (mesh f s).places x)) e px) (subst (λ y. pos 0 <ℤ det (corner_places (mesh f s).places y)) g py)
          (subst (λ x. (i : ℕ) → i < 4 → pos 0 <ℤ weight (corner_places (mesh f s).places x) p i) e inner) (subst (λ y. Holds (corner_places (mesh f s).places y) p) g holds)))

pub inner_points_are_held_once : InnerPointsAreHeldOnce
inner_points_are_held_once f s is p m n lm ln inner holds = go (compared m n)
  where
    same : (same_nodes (get_or (mesh f s).tets m []) (get_or (mesh f s).tets n []) ≡ true) × (same_nodes (get_or (mesh f s).tets n []) (get_or (mesh f s).tets m []) ≡ true)
    same =
        same_lists f s is p (get_or (mesh f s).tets m []) (get_or (mesh f s).tets n []) (four_nodes f s is p m lm) (four_nodes f s is p n ln) (tets_meet f s is m [] lm n [] ln)
        (tets_are_positive f s is m [] lm) (tets_are_positive f s is n [] ln) inner holds

    never : true ≡ false → ⊥
    never h = cc

    go : (m < n) ⊎ ((m ≡ n) ⊎ (n < m)) → m ≡ n
    go (inl lt) = absurd (never (sym same.0 ∙ tets_differ f s m n [] lt ln))
    go (inr (inl e)) = e
    go (inr (inr lt)) = absurd (never (sym same.1 ∙ tets_differ f s n m [] lt lm))

-- so the first one that holds a point is the only one where its weights are above 0
pub is_only : (f : Field) (s : Shares) → IsShares s → (p : Place) (hold : Hold) → IsHold f s p hold → IsOnly f s p hold
is_only f s is p hold h positive n ln holds = sym (inner_points_are_held_once f s is p (number_of_hold f s hold) n h.first.within ln inner holds)
  where
    tet : List Place
    tet = places_of f s (number_of_hold f s hold)

    at : (i : ℕ) → i < 4 → get_or (weights tet p) i (pos 0) ≡ weight tet p i
    at zero lt = refl
    at (suc zero) lt = refl
    at (suc (suc zero)) lt = refl
    at (suc (suc (suc zero))) lt = refl
    at (suc (suc (suc (suc i)))) lt = absurd (omega arith)

    four : length hold.weights ≡ 4
    four = sym (length-map hold.weights pos) ∙ ap length h.weights_are

    above : (k : ℕ) → 0 < k → pos 0 <ℤ pos k
    above k lt = omega (arith, ints)

    inner : (i : ℕ) → i < 4 → pos 0 <ℤ weight tet p i
    inner i lt =
        let here : i < length hold.weights = subst (λ k. i < k) (sym four) lt in
        subst (λ (w : ℤ). pos 0 <ℤ w) (sym (get_or-map pos hold.weights i 0 (pos 0) here) ∙ ap (λ ws. get_or ws i (pos 0)) h.weights_are ∙ at i lt) (above (get_or hold.weights i 0) (positive i 0 here))
