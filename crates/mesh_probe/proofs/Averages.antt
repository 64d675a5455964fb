-- Weighted averages stand between bounds of what is averaged.
use Rattle.std.proofs.Common.{◌≡◌, Bool, true, false, not, ◌&&◌, [], ◌∷◌, refl, ap, ◌∙◌, subst, arith, inl, inr, ◌⊎◌}
use Rattle.std.proofs.Math.IntN.{ℤ, pos, ◌+ℤ◌, ◌*ℤ◌, neg_ℤ, nat_abs}
use Rattle.std.specs.Prelude.{int_lt}
use Rattle.std.proofs.lemmas.Int.{ints}
use Rattle.std.proofs.lemmas.Bool.{and_parts}
use lib.Signed.{◌<ℤ◌, ◌≤ℤ◌}
use borrow.Author.Differences.{at_most_in, below_in}
use Rattle.exact.specs.Polynomials.{variable, plus, times, negate}
use Rattle.exact.proofs.Ring.{ring}
use Rattle.exact.proofs.IntegerOrder.{less_or_at_most, product_positive, size_of_nonnegative, times_monotone}
use Rattle.mesh_probe.specs.Boxes.{are_above, are_below, is_between}

-- four weights, none below 0 and their sum above it, by which a number is the average of four others
pub record IsAverage (k l m n q : ℤ) : Type 0 where
  pub a : ℤ
  pub b : ℤ
  pub c : ℤ
  pub d : ℤ
  pub all : ℤ
  pub a_low : pos 0 ≤ℤ a
  pub b_low : pos 0 ≤ℤ b
  pub c_low : pos 0 ≤ℤ c
  pub d_low : pos 0 ≤ℤ d
  pub positive : pos 0 <ℤ all
  pub sum : a +ℤ b +ℤ c +ℤ d ≡ all
  pub place : a *ℤ k +ℤ b *ℤ l +ℤ c *ℤ m +ℤ d *ℤ n ≡ all *ℤ q

scaled : (w x y : ℤ) → pos 0 ≤ℤ w → x ≤ℤ y → (w *ℤ x) ≤ℤ (w *ℤ y)
scaled w x y h i = subst (λ (m : ℤ). (m *ℤ x) ≤ℤ (m *ℤ y)) (size_of_nonnegative w h) (times_monotone (nat_abs w) x y i)

pub lower : (k l m n q low : ℤ) → IsAverage k l m n q → low ≤ℤ k → low ≤ℤ l → low ≤ℤ m → low ≤ℤ n → low ≤ℤ q
lower k l m n q low w hk hl hm hn = go (less_or_at_most q low)
  where
    all_low : w.a *ℤ low +ℤ w.b *ℤ low +ℤ w.c *ℤ low +ℤ w.d *ℤ low ≡ w.all *ℤ low
    all_low =
        ring (w.a ∷ w.b ∷ w.c ∷ w.d ∷ low ∷ []) (plus (plus (plus (times (variable 0) (variable 4)) (times (variable 1) (variable 4))) (times (variable 2) (variable 4))) (times (variable 3) (variable 4)))
        (times (plus (plus (plus (variable 0) (variable 1)) (variable 2)) (variable 3)) (variable 4)) refl
        ∙ ap (λ (t : ℤ). t *ℤ low) w.sum

    above : (x y : ℤ) → x <ℤ y → pos 0 <ℤ (y +ℤ neg_ℤ x)
    above x y h = below_in _ _ (omega (arith, ints))

    expand : w.all *ℤ (low +ℤ neg_ℤ q) ≡ w.all *ℤ low +ℤ neg_ℤ (w.all *ℤ q)
    expand = ring (w.all ∷ low ∷ q ∷ []) (times (variable 0) (plus (variable 1) (negate (variable 2)))) (plus (times (variable 0) (variable 1)) (negate (times (variable 0) (variable 2)))) refl

    never : (p0 p1 p2 p3 n0 n1 n2 n3 dl dq : ℤ) → p0 ≤ℤ n0 → p1 ≤ℤ n1 → p2 ≤ℤ n2 → p3 ≤ℤ n3 → p0 +ℤ p1 +ℤ p2 +ℤ p3 ≡ dl → n0 +ℤ n1 +ℤ n2 +ℤ n3 ≡ dq → pos 0 <ℤ (dl +ℤ neg_ℤ dq) → ⊥
    never p0 p1 p2 p3 n0 n1 n2 n3 dl dq h0 h1 h2 h3 e g lt = omega (arith, ints)

    go : (q <ℤ low) ⊎ (low ≤ℤ q) → low ≤ℤ q
    go (inr h) = h
    go (inl h) =
        absurd (never (w.a *ℤ low) (w.b *ℤ low) (w.c *ℤ low) (w.d *ℤ low) (w.a *ℤ k) (w.b *ℤ l) (w.c *ℤ m) (w.d *ℤ n) (w.all *ℤ low) (w.all *ℤ q)
        (scaled w.a low k w.a_low hk) (scaled w.b low l w.b_low hl) (scaled w.c low m w.c_low hm) (scaled w.d low n w.d_low hn) all_low w.place
        (subst (λ (t : ℤ). pos 0 <ℤ t) expand (product_positive w.all (low +ℤ neg_ℤ q) w.positive (above q low h))))

turned : (x y : ℤ) → x ≤ℤ y → neg_ℤ y ≤ℤ neg_ℤ x
turned x y h = at_most_in _ _ (omega (arith, ints))

turned_back : (x y : ℤ) → neg_ℤ y ≤ℤ neg_ℤ x → x ≤ℤ y
turned_back x y h = at_most_in _ _ (omega (arith, ints))

average_turned : (k l m n q : ℤ) → IsAverage k l m n q → IsAverage (neg_ℤ k) (neg_ℤ l) (neg_ℤ m) (neg_ℤ n) (neg_ℤ q)
average_turned k l m n q w = record {
  a = w.a;
  b = w.b;
  c = w.c;
  d = w.d;
  all = w.all;
  a_low = w.a_low;
  b_low = w.b_low;
  c_low = w.c_low;
  d_low = w.d_low;
  positive = w.positive;
  sum = w.sum;
  place =
      ring (w.a ∷ w.b ∷ w.c ∷ w.d ∷ k ∷ l ∷ m ∷ n ∷ []) (plus (plus (plus (times (variable 0) (negate (variable 4))) (times (variable 1) (negate (variable 5)))) (times (variable 2) (negate (variable 6)))) (times (variable 3) (negate (variable 7))))
      (negate (plus (plus (plus (times (variable 0) (variable 4)) (times (variable 1) (variable 5))) (times (variable 2) (variable 6))) (times (variable 3) (variable 7)))) refl
      ∙ ap neg_ℤ w.place ∙ ring (w.all ∷ q ∷ []) (negate (times (variable 0) (variable 1))) (times (variable 0) (negate (variable 1))) refl;
}

pub upper : (k l m n q high : ℤ) → IsAverage k l m n q → k ≤ℤ high → l ≤ℤ high → m ≤ℤ high → n ≤ℤ high → q ≤ℤ high
upper k l m n q high w hk hl hm hn =
    turned_back q high (lower (neg_ℤ k) (neg_ℤ l) (neg_ℤ m) (neg_ℤ n) (neg_ℤ q) (neg_ℤ high) (average_turned k l m n q w) (turned k high hk) (turned l high hl) (turned m high hm) (turned n high hn))

-- so an average is neither below all four nor above them
average_not_below : (k l m n q : ℤ) → IsAverage k l m n q → are_above k l m n q ≡ true → ⊥
average_not_below k l m n q w e =
    let h = and_parts _ _ e in
    let g = and_parts _ _ h.0 in
    let f = and_parts _ _ g.0 in
    never q (lower k l m n q (q +ℤ pos 1) w (next q k f.0) (next q l f.1) (next q m g.1) (next q n h.1))
  where
    next : (x y : ℤ) → int_lt x y ≡ true → (x +ℤ pos 1) ≤ℤ y
    next x y e = at_most_in _ _ (grind (arith, ints))

    never : (x : ℤ) → (x +ℤ pos 1) ≤ℤ x → ⊥
    never x h = omega (arith, ints)

average_not_above : (k l m n q : ℤ) → IsAverage k l m n q → are_below k l m n q ≡ true → ⊥
average_not_above k l m n q w e =
    let h = and_parts _ _ e in
    let g = and_parts _ _ h.0 in
    let f = and_parts _ _ g.0 in
    never q (upper k l m n q (q +ℤ neg_ℤ (pos 1)) w (before k q f.0) (before l q f.1) (before m q g.1) (before n q h.1))
  where
    before : (x y : ℤ) → int_lt x y ≡ true → x ≤ℤ (y +ℤ neg_ℤ (pos 1))
    before x y e = at_most_in _ _ (grind (arith, ints))

    never : (x : ℤ) → x ≤ℤ (x +ℤ neg_ℤ (pos 1)) → ⊥
    never x h = omega (arith, ints)

pub average_between : (k l m n q : ℤ) → IsAverage k l m n q → is_between k l m n q ≡ true
average_between k l m n q w = go (are_above k l m n q) (are_below k l m n q) (average_not_below k l m n q w) (average_not_above k l m n q w)
  where
    go : (above below : Bool) → (above ≡ true → ⊥) → (below ≡ true → ⊥) → (not above && not below) ≡ true
    go true below h g = absurd (h refl)
    go false true h g = absurd (g refl)
    go false false h g = refl
