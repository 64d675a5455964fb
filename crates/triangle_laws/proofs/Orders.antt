-- A tetrahedron from each of its triangles: its nodes in an order that has the triangle first and keeps the direction.
use Rattle.std.proofs.Common.{◌≡◌, ◌≢◌, ℕ, ◌+◌, List, [], ◌∷◌, sym, ◌∙◌, subst, arith}
use Rattle.std.proofs.Math.IntN.{ℤ, pos, ◌+ℤ◌}
use Rattle.std.proofs.lemmas.Int.{ints}
use lib.Signed.{◌<ℤ◌}
use Rattle.definitions.specs.declared.Place.{Place}
use Rattle.definitions.specs.Vectors.{place_at}
use Rattle.triangle_laws.specs.Overlap.{volume_of}
use Rattle.triangle_laws.proofs.Sums.{total}
use Rattle.triangle_laws.proofs.Volumes.{turn_first, turn_last, flat}

-- a sum of integers
abbrev pub integer_total : (ℕ → ℤ) → List ℕ → ℤ
integer_total f [] = pos 0
integer_total f (n ∷ ns) = f n +ℤ integer_total f ns

-- The tetrahedron has the nodes a b c d, in this order or one that it makes by an even exchange: sums over its nodes are sums over these.
pub record IsOrder (places : List Place) (tet : List ℕ) (a b c d : ℕ) : Type 0 where
  pub counts : (f : ℕ → ℕ) → total f tet ≡ f a + f b + f c + f d
  pub sums : (f : ℕ → ℤ) → integer_total f tet ≡ f a +ℤ f b +ℤ f c +ℤ f d
  pub positive : pos 0 <ℤ volume_of (place_at places a) (place_at places b) (place_at places c) (place_at places d)

-- four different numbers
pub record AreDifferent (a b c d : ℕ) : Type 0 where
  pub ab : a ≢ b
  pub ac : a ≢ c
  pub ad : a ≢ d
  pub bc : b ≢ c
  pub bd : b ≢ d
  pub cd : c ≢ d

not_flat : (v : ℤ) → v ≡ pos 0 → pos 0 <ℤ v → ⊥
not_flat v e h = absurd (omega (arith, ints))

add_four : (p q r s : ℕ) → p + (q + (r + (s + 0))) ≡ p + q + r + s
add_four p q r s = omega arith

add_four_integers : (p q r s : ℤ) → p +ℤ (q +ℤ (r +ℤ (s +ℤ pos 0))) ≡ p +ℤ q +ℤ r +ℤ s
add_four_integers p q r s = omega (arith, ints)

-- the first three nodes turned, and the last three
module _ (places : List Place) (tet : List ℕ) (a b c d : ℕ) (o : IsOrder places tet a b c d) where
  pub first_turned : IsOrder places tet b c a d
  first_turned = record {
    counts = λ f. o.counts f ∙ add (f a) (f b) (f c) (f d);
    sums = λ f. o.sums f ∙ add_integers (f a) (f b) (f c) (f d);
    positive = subst (λ v. pos 0 <ℤ v) (sym (turn_first (place_at places a) (place_at places b) (place_at places c) (place_at places d))) o.positive;
  }
    where
      add : (p q r s : ℕ) → p + q + r + s ≡ q + r + p + s
      add p q r s = omega arith

      add_integers : (p q r s : ℤ) → p +ℤ q +ℤ r +ℤ s ≡ q +ℤ r +ℤ p +ℤ s
      add_integers p q r s = omega (arith, ints)

  pub last_turned : IsOrder places tet a c d b
  last_turned = record {
    counts = λ f. o.counts f ∙ add (f a) (f b) (f c) (f d);
    sums = λ f. o.sums f ∙ add_integers (f a) (f b) (f c) (f d);
    positive = subst (λ v. pos 0 <ℤ v) (sym (turn_last (place_at places a) (place_at places b) (place_at places c) (place_at places d))) o.positive;
  }
    where
      add : (p q r s : ℕ) → p + q + r + s ≡ p + r + s + q
      add p q r s = omega arith

      add_integers : (p q r s : ℤ) → p +ℤ q +ℤ r +ℤ s ≡ p +ℤ r +ℤ s +ℤ q
      add_integers p q r s = omega (arith, ints)

  first_two_differ : a ≢ b
  first_two_differ e =
      not_flat (volume_of (place_at places a) (place_at places a) (place_at places c) (place_at places d)) (flat (place_at places a) (place_at places c) (place_at places d))
      (subst (λ n. pos 0 <ℤ volume_of (place_at places a) (place_at places n) (place_at places c) (place_at places d)) (sym e) o.positive)

-- the orders that begin with the two other triangles turned
module _ (places : List Place) (tet : List ℕ) (a b c d : ℕ) (o : IsOrder places tet a b c d) where
  pub last_turned_back : IsOrder places tet a d b c
  last_turned_back = last_turned places tet a c d b (last_turned places tet a b c d o)

  pub others_turned : IsOrder places tet b d c a
  others_turned = last_turned_back_of (first_turned places tet a b c d o)
    where
      last_turned_back_of : IsOrder places tet b c a d → IsOrder places tet b d c a
      last_turned_back_of q = last_turned places tet b a d c (last_turned places tet b c a d q)

  -- its nodes differ
  pub different : AreDifferent a b c d
  different = record {
    ab = first_two_differ places tet a b c d o;
    ac = first_two_differ places tet a c d b (last_turned places tet a b c d o);
    ad = first_two_differ places tet a d b c last_turned_back;
    bc = first_two_differ places tet b c a d (first_turned places tet a b c d o);
    bd = first_two_differ places tet b d c a others_turned;
    cd = first_two_differ places tet c d a b (first_turned places tet a c d b (last_turned places tet a b c d o));
  }

-- a tetrahedron's own order
pub own_order : (places : List Place) (a b c d : ℕ)
    → pos 0 <ℤ volume_of (place_at places a) (place_at places b) (place_at places c) (place_at places d)
    → IsOrder places (a ∷ b ∷ c ∷ d ∷ []) a b c d
own_order places a b c d h = record {
  counts = λ f. add_four (f a) (f b) (f c) (f d);
  sums = λ f. add_four_integers (f a) (f b) (f c) (f d);
  positive = h;
}
