-- The square of the cosine at each edge of a tetrahedron, by the normals of its faces.
use Rattle.std.proofs.Common.{◌≡◌, ℕ, zero, suc, ◌*◌, ◌<◌, ◌≤◌, ◌^◌, refl, ap, sym, ◌∙◌, subst, arith, List, ℤ, pos, negsuc, ◌*ℤ◌, unsigned_abs, w8, w64, to_z, of_z}
use Rattle.std.proofs.Math.IntN.{◌+ℤ◌, neg_ℤ, *ℤ_comm}
use Rattle.std.proofs.lemmas.Int.{ints, to_z-of_z, fits_signed_from_abs}
use Rattle.exact.proofs.IntegerLaws.{neg_mul}
use Rattle.std.proofs.Math.Nat.{mul_comm}
use Rattle.std.specs.Int.{int_signum}
use Rattle.definitions.specs.declared.Place.{Place}
use Rattle.definitions.specs.declared.Cosine.{Cosine}
use Rattle.definitions.specs.Vectors.{dot, place_at}
use Rattle.dihedral.specs.Fractions.{IsFraction, square_between, opposite, normal_at, square_at}
use Rattle.dihedral.specs.declared.pair.Pair.{Pair}
use Rattle.dihedral.specs.Pairs.{IsPairOf, square_of}
use Rattle.dihedral.specs.TetAngles.{edge_at}
use Rattle.dihedral.proofs.FaceNormals.{normal-turned, normal-swapped}

dot-turned : (m n : Place) → dot m n ≡ dot n m
dot-turned m n = λ i. (*ℤ_comm m.x n.x i +ℤ *ℤ_comm m.y n.y i) +ℤ *ℤ_comm m.z n.z i

square_between-turned : (m n : Place) → square_between m n ≡ square_between n m
square_between-turned m n =
    λ i. record { sign = int_signum (dot-turned m n i); num = unsigned_abs (dot-turned m n i) * unsigned_abs (dot-turned m n i); den = mul_comm (unsigned_abs (dot m m)) (unsigned_abs (dot n n)) i }

dot-opposite : (m n : Place) → dot (opposite m) n ≡ neg_ℤ (dot m n)
dot-opposite m n = let x = neg_mul m.x n.x in let y = neg_mul m.y n.y in let z = neg_mul m.z n.z in sum (m.x *ℤ n.x) (m.y *ℤ n.y) (m.z *ℤ n.z) _ _ _ x y z
  where
    sum : (x y z a b c : ℤ) → a ≡ neg_ℤ x → b ≡ neg_ℤ y → c ≡ neg_ℤ z → (a +ℤ b) +ℤ c ≡ neg_ℤ ((x +ℤ y) +ℤ z)
    sum x y z a b c p q r = omega (arith, ints)

negated_twice : (x : ℤ) → neg_ℤ (neg_ℤ x) ≡ x
negated_twice x = omega (arith, ints)

size-negated : (x : ℤ) → unsigned_abs (neg_ℤ x) ≡ unsigned_abs x
size-negated x = omega (arith, ints)

dot-opposites : (m : Place) → dot (opposite m) (opposite m) ≡ dot m m
dot-opposites m = dot-opposite m (opposite m) ∙ ap neg_ℤ (dot-turned m (opposite m) ∙ dot-opposite m m) ∙ negated_twice (dot m m)

abbrev square_of_product : ℤ → ℕ → Cosine
square_of_product product den = record { sign = int_signum product; num = unsigned_abs product * unsigned_abs product; den = den }

-- the square from the product of two normals that point outwards
pub square_between-opposite : (m n : Place) (d : ℤ) → d ≡ dot m n → record { sign = int_signum (neg_ℤ d); num = unsigned_abs d * unsigned_abs d; den = unsigned_abs (dot m m) * unsigned_abs (dot n n) } ≡ square_between (opposite m) n
square_between-opposite m n d e =
    ap (λ t. record { sign = int_signum (neg_ℤ d); num = t * t; den = unsigned_abs (dot m m) * unsigned_abs (dot n n) }) (sym (size-negated d))
    ∙ ap (λ t. square_of_product (neg_ℤ t) (unsigned_abs (dot m m) * unsigned_abs (dot n n))) e
    ∙ ap (λ t. square_of_product t (unsigned_abs (dot m m) * unsigned_abs (dot n n))) (sym (dot-opposite m n))
    ∙ ap (λ t. square_of_product (dot (opposite m) n) (unsigned_abs t * unsigned_abs (dot n n))) (sym (dot-opposites m))

square_of_product-fraction : (product : ℤ) (den : ℕ) → 1 ≤ den → IsFraction (square_of_product product den)
square_of_product-fraction (pos zero) den h = record { sign = omega arith; zero = ((λ e. refl), (λ e. refl)); den = h }
square_of_product-fraction (pos (suc n)) den h = record { sign = omega arith; zero = ((λ e. absurd (omega (arith, ints))), (λ e. absurd (omega arith))); den = h }
square_of_product-fraction (negsuc n) den h = record { sign = omega arith; zero = ((λ e. absurd (omega (arith, ints))), (λ e. absurd (omega arith))); den = h }

pub square_between-fraction : (m n : Place) → 1 ≤ unsigned_abs (dot m m) * unsigned_abs (dot n n) → IsFraction (square_between (opposite m) n)
square_between-fraction m n h = square_of_product-fraction (dot (opposite m) n) _ (subst (λ (t : ℤ). 1 ≤ unsigned_abs t * unsigned_abs (dot n n)) (sym (dot-opposites m)) h)

-- two faces by their products
pub pair_fraction : (d : ℤ) (den : ℕ) → 1 ≤ den → IsFraction (record { sign = int_signum (neg_ℤ d); num = unsigned_abs d * unsigned_abs d; den = den })
pair_fraction d den h = subst (λ (t : ℕ). IsFraction (record { sign = int_signum (neg_ℤ d); num = t * t; den = den })) (size-negated d) (square_of_product-fraction (neg_ℤ d) den h)

pub pair_square : (p : Pair) (m n : Place) → IsPairOf m n p → square_of p ≡ square_between (opposite m) n
pair_square p m n h =
    (λ i. record { sign = int_signum (neg_ℤ p.product); num = unsigned_abs p.product * unsigned_abs p.product; den = unsigned_abs (h.one i) * unsigned_abs (h.other i) }) ∙ square_between-opposite m n p.product h.product

pub pair_square-turned : (p : Pair) (m n : Place) → IsPairOf n m p → square_of p ≡ square_between (opposite m) n
pair_square-turned p m n h =
    (λ i. record { sign = int_signum (neg_ℤ p.product); num = unsigned_abs p.product * unsigned_abs p.product; den = (mul_comm p.one p.other ∙ (λ j. unsigned_abs (h.other j) * unsigned_abs (h.one j))) i })
    ∙ square_between-opposite m n p.product (h.product ∙ dot-turned n m)

-- a number that fits, as the code holds it
pub held : (x : ℤ) → unsigned_abs x ≤ 9 * 2 ^ 58 → to_z w64 (of_z w64 x) ≡ x
held x h = to_z-of_z w64 x (fits_signed_from_abs w64 x (omega arith))

-- the sign that the code makes
pub sign_back : (s e : ℤ) → s ≡ int_signum e → to_z w8 (of_z w8 s) ≡ int_signum e
sign_back s e h = to_z-of_z w8 s (fits_signed_from_abs w8 s (subst (λ (t : ℤ). unsigned_abs t < 2 ^ 7) (sym h) (small e))) ∙ h
  where
    small : (e : ℤ) → unsigned_abs (int_signum e) < 2 ^ 7
    small (pos n) = omega arith
    small (negsuc n) = omega arith

module _ (tet : List Place) where
  abbrev swapped : (i j l : ℕ) → normal_at tet i l j ≡ opposite (normal_at tet i j l)
  swapped i j l = normal-swapped (place_at tet i) (place_at tet j) (place_at tet l)

  abbrev turned : (i j l : ℕ) → normal_at tet j l i ≡ normal_at tet i j l
  turned i j l = normal-turned (place_at tet i) (place_at tet j) (place_at tet l)

  pub edge_0 : square_at tet (edge_at 0) ≡ square_between (opposite (normal_at tet 0 2 1)) (normal_at tet 0 1 3)
  edge_0 = ap (λ m. square_between m (normal_at tet 0 1 3)) (swapped 0 2 1)

  pub edge_1 : square_at tet (edge_at 1) ≡ square_between (opposite (normal_at tet 0 3 2)) (normal_at tet 0 2 1)
  edge_1 = square_between-turned (normal_at tet 0 2 1) (normal_at tet 0 2 3) ∙ ap (λ m. square_between m (normal_at tet 0 2 1)) (swapped 0 3 2)

  pub edge_2 : square_at tet (edge_at 2) ≡ square_between (opposite (normal_at tet 0 1 3)) (normal_at tet 0 3 2)
  edge_2 = ap (λ m. square_between m (normal_at tet 0 3 2)) (swapped 0 1 3)

  pub edge_3 : square_at tet (edge_at 3) ≡ square_between (opposite (normal_at tet 0 2 1)) (normal_at tet 1 2 3)
  edge_3 = ap (λ m. square_between m (normal_at tet 1 2 3)) (turned 0 1 2 ∙ swapped 0 2 1)

  pub edge_4 : square_at tet (edge_at 4) ≡ square_between (opposite (normal_at tet 1 2 3)) (normal_at tet 0 1 3)
  edge_4 = square_between-turned (normal_at tet 1 3 0) (normal_at tet 1 3 2) ∙ ap (λ m. square_between m (normal_at tet 1 3 0)) (swapped 1 2 3) ∙ ap (λ n. square_between (opposite (normal_at tet 1 2 3)) n) (turned 0 1 3)

  pub edge_5 : square_at tet (edge_at 5) ≡ square_between (opposite (normal_at tet 0 3 2)) (normal_at tet 1 2 3)
  edge_5 = ap (λ m. square_between m (normal_at tet 2 3 1)) (turned 0 2 3 ∙ swapped 0 3 2) ∙ ap (λ n. square_between (opposite (normal_at tet 0 3 2)) n) (turned 1 2 3)
