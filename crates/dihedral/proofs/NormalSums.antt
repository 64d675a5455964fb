-- The normals of a tetrahedron's faces add up to nothing: those of three faces tell of the fourth.
use Rattle.std.proofs.Common.{◌≡◌, ℕ, ◌*◌, ◌^◌, ◌≤◌, refl, sym, subst, ◌∙◌, arith, [], ◌∷◌, List, ℤ, pos, ◌<ℤ◌, ◌≤ℤ◌, unsigned_abs, w64, to_z, of_z}
use Rattle.std.proofs.lemmas.Int.{ints}
use Rattle.std.proofs.Math.IntN.{◌+ℤ◌, neg_ℤ}
use Rattle.definitions.specs.declared.Place.{Place}
use Rattle.definitions.specs.Places.{place}
use Rattle.definitions.specs.Vectors.{dot}
use Rattle.exact.specs.Coordinates.{Coordinates, dot_expression, first, second, third}
use Rattle.exact.specs.Polynomials.{Expression, plus, negate}
use Rattle.exact.proofs.Ring.{ring}
use Rattle.dihedral.specs.Fractions.{normal}
use Rattle.dihedral.specs.declared.faces.Faces.{Faces}
use Rattle.dihedral.specs.TetFaces.{HaveNormals, closing}
use Rattle.dihedral.proofs.FaceNormals.{dot_nonnegative, minor_of, minor_expression}
use Rattle.dihedral.proofs.FaceSquares.{held}

abbrev opposite_sum : Expression → Expression → Expression → Expression
opposite_sum a b c = negate (plus (plus a b) c)

closed_minor : (a b c d e f g h : ℤ) → neg_ℤ ((minor_of a b g h e f +ℤ minor_of a b c d g h) +ℤ minor_of a b e f c d) ≡ minor_of c d e f g h
closed_minor a b c d e f g h = ring (a ∷ b ∷ c ∷ d ∷ e ∷ f ∷ g ∷ h ∷ []) (opposite_sum (minor_expression 0 1 6 7 4 5) (minor_expression 0 1 2 3 6 7) (minor_expression 0 1 4 5 2 3)) (minor_expression 2 3 4 5 6 7) refl

pub closing-is : (a b c d : Place) → closing (normal a d c) (normal a b d) (normal a c b) ≡ normal b c d
closing-is a b c d =
    λ i. place (closed_minor a.y a.z b.y b.z c.y c.z d.y d.z i) (closed_minor a.z a.x b.z b.x c.z c.x d.z d.x i) (closed_minor a.x a.y b.x b.y c.x c.y d.x d.y i)

abbrev closing_expression : Coordinates → Coordinates → Coordinates → Coordinates
closing_expression l m n = record { x = opposite_sum l.x m.x n.x; y = opposite_sum l.y m.y n.y; z = opposite_sum l.z m.z n.z }

-- the products of what closes three vectors
module _ (l m n : Place) where
  abbrev nine : List ℤ
  nine = l.x ∷ l.y ∷ l.z ∷ m.x ∷ m.y ∷ m.z ∷ n.x ∷ n.y ∷ n.z ∷ []

  abbrev closed : Coordinates
  closed = closing_expression first second third

  dot-first : neg_ℤ ((dot l l +ℤ dot m l) +ℤ dot l n) ≡ dot l (closing l m n)
  dot-first = ring nine (opposite_sum (dot_expression first first) (dot_expression second first) (dot_expression first third)) (dot_expression first closed) refl

  dot-second : neg_ℤ ((dot m m +ℤ dot m l) +ℤ dot n m) ≡ dot m (closing l m n)
  dot-second = ring nine (opposite_sum (dot_expression second second) (dot_expression second first) (dot_expression third second)) (dot_expression second closed) refl

  dot-third : neg_ℤ ((dot n n +ℤ dot l n) +ℤ dot n m) ≡ dot n (closing l m n)
  dot-third = ring nine (opposite_sum (dot_expression third third) (dot_expression first third) (dot_expression third second)) (dot_expression third closed) refl

  dot-closing : neg_ℤ ((dot l (closing l m n) +ℤ dot m (closing l m n)) +ℤ dot n (closing l m n)) ≡ dot (closing l m n) (closing l m n)
  dot-closing = ring nine (opposite_sum (dot_expression first closed) (dot_expression second closed) (dot_expression third closed)) (dot_expression closed closed) refl

  -- the same, as the code holds the numbers
  abbrev as_held : ℤ → ℤ
  as_held p = to_z w64 (of_z w64 p)

  held_is : (p d : ℤ) → unsigned_abs p ≤ 3 * 2 ^ 58 → p ≡ d → as_held p ≡ d
  held_is p d h e = held p (omega arith) ∙ e

  pub product-first : (r p q : ℤ) (s : ℕ) → r ≡ neg_ℤ ((pos s +ℤ as_held p) +ℤ as_held q) → pos s ≡ dot l l → unsigned_abs p ≤ 2 ^ 58 → p ≡ dot m l → unsigned_abs q ≤ 2 ^ 58 → q ≡ dot l n → r ≡ dot l (closing l m n)
  product-first r p q s e f h a k b = e ∙ (λ i. neg_ℤ ((f i +ℤ held_is p (dot m l) (omega arith) a i) +ℤ held_is q (dot l n) (omega arith) b i)) ∙ dot-first

  pub product-second : (r p q : ℤ) (s : ℕ) → r ≡ neg_ℤ ((pos s +ℤ as_held p) +ℤ as_held q) → pos s ≡ dot m m → unsigned_abs p ≤ 2 ^ 58 → p ≡ dot m l → unsigned_abs q ≤ 2 ^ 58 → q ≡ dot n m → r ≡ dot m (closing l m n)
  product-second r p q s e f h a k b = e ∙ (λ i. neg_ℤ ((f i +ℤ held_is p (dot m l) (omega arith) a i) +ℤ held_is q (dot n m) (omega arith) b i)) ∙ dot-second

  pub product-third : (r p q : ℤ) (s : ℕ) → r ≡ neg_ℤ ((pos s +ℤ as_held p) +ℤ as_held q) → pos s ≡ dot n n → unsigned_abs p ≤ 2 ^ 58 → p ≡ dot l n → unsigned_abs q ≤ 2 ^ 58 → q ≡ dot n m → r ≡ dot n (closing l m n)
  product-third r p q s e f h a k b = e ∙ (λ i. neg_ℤ ((f i +ℤ held_is p (dot l n) (omega arith) a i) +ℤ held_is q (dot n m) (omega arith) b i)) ∙ dot-third

  pub square-closing : (p q r : ℤ) → unsigned_abs p ≤ 3 * 2 ^ 58 → p ≡ dot l (closing l m n) → unsigned_abs q ≤ 3 * 2 ^ 58 → q ≡ dot m (closing l m n) → unsigned_abs r ≤ 3 * 2 ^ 58 → r ≡ dot n (closing l m n)
      → neg_ℤ ((as_held p +ℤ as_held q) +ℤ as_held r) ≡ dot (closing l m n) (closing l m n)
  square-closing p q r h a k b o d =
      (λ i. neg_ℤ ((held_is p (dot l (closing l m n)) h a i +ℤ held_is q (dot m (closing l m n)) k b i) +ℤ held_is r (dot n (closing l m n)) o d i)) ∙ dot-closing

-- the square of a vector that is not 0
pub above_zero : (n : Place) (z : ℤ) → 1 ≤ unsigned_abs (dot n n) → z ≡ dot n n → pos 0 <ℤ z
above_zero n z h e = subst (λ (t : ℤ). pos 0 <ℤ t) (sym e) (above (dot n n) (dot_nonnegative n) h)
  where
    above : (x : ℤ) → pos 0 ≤ℤ x → 1 ≤ unsigned_abs x → pos 0 <ℤ x
    above x h k = omega (arith, ints)

-- the faces of a tetrahedron by the normals of three
pub by_three : (a b c d l m n : Place) (f : Faces) → l ≡ normal a d c → m ≡ normal a b d → n ≡ normal a c b → HaveNormals (closing l m n) l m n f → HaveNormals (normal b c d) (normal a d c) (normal a b d) (normal a c b) f
by_three a b c d l m n f p q r h =
    let one = subst (λ (t : Place). HaveNormals (closing t m n) t m n f) p h in
    let two = subst (λ (t : Place). HaveNormals (closing (normal a d c) t n) (normal a d c) t n f) q one in
    let three = subst (λ (t : Place). HaveNormals (closing (normal a d c) (normal a b d) t) (normal a d c) (normal a b d) t f) r two in
    subst (λ (t : Place). HaveNormals t (normal a d c) (normal a b d) (normal a c b) f) (closing-is a b c d) three
