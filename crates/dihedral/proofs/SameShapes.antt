-- The angles of a tetrahedron follow from its shape.
use Rattle.std.proofs.Common.{◌≡◌, ◌⊎◌, inl, inr, ℕ, zero, suc, ◌<◌, ◌≤◌, sym, ◌∙◌, subst, arith, List, [], ◌∷◌, Option, pos, ◌<ℤ◌, ℤ}
use Rattle.std.specs.Prelude.{◌-ℤ◌, slice_index_or, All, length}
use Rattle.std.proofs.lemmas.Int.{ints}
use Rattle.std.proofs.lemmas.List.{get_or_past}
use Rattle.definitions.specs.declared.Extremes.{Extremes}
use Rattle.definitions.specs.declared.Place.{Place}
use Rattle.definitions.specs.Angles.{edge_cosine, signed_square}
use Rattle.definitions.specs.Places.{place}
use Rattle.definitions.specs.Vectors.{cross, det, det_of, minus, place_at}
use Rattle.dihedral.specs.declared.shape.Shape.{Shape}
use Rattle.dihedral.specs.Shapes.{Between, Covers, CoversShape, IsShapeOf, Widens}
use Rattle.dihedral.specs.TetAngles.{edge_at}
use Rattle.dihedral.proofs.AnglesAreFractions.{cosine_den}

-- from a third place
moved : (p q o : Place) → minus q p ≡ minus (minus q o) (minus p o)
moved p q o = λ i. place (along p.x q.x o.x i) (along p.y q.y o.y i) (along p.z q.z o.z i)
  where
    along : (a b c : ℤ) → b -ℤ a ≡ (b -ℤ c) -ℤ (a -ℤ c)
    along a b c = omega (arith, ints)

nowhere : (p q : Place) → minus p p ≡ minus q q
nowhere p q = λ i. place (none p.x q.x i) (none p.y q.y i) (none p.z q.z i)
  where
    none : (a b : ℤ) → a -ℤ a ≡ b -ℤ b
    none a b = omega (arith, ints)

module _ (t u : List Place) (s : Shape) (a : IsShapeOf t s) (b : IsShapeOf u s) where
  from_first : (n : ℕ) → n < 4 → minus (place_at t n) (place_at t 0) ≡ minus (place_at u n) (place_at u 0)
  from_first zero h = nowhere (place_at t 0) (place_at u 0)
  from_first (suc zero) h = sym a.second ∙ b.second
  from_first (suc (suc zero)) h = sym a.third ∙ b.third
  from_first (suc (suc (suc zero))) h = sym a.fourth ∙ b.fourth
  from_first (suc (suc (suc (suc n)))) h = absurd (omega arith)

  between : (i j : ℕ) → i < 4 → j < 4 → minus (place_at t j) (place_at t i) ≡ minus (place_at u j) (place_at u i)
  between i j hi hj = moved (place_at t i) (place_at t j) (place_at t 0) ∙ (λ k. minus (from_first j hj k) (from_first i hi k)) ∙ sym (moved (place_at u i) (place_at u j) (place_at u 0))

  at_edge : (p q r s : ℕ) → p < 4 → q < 4 → r < 4 → s < 4 → edge_cosine t (p ∷ q ∷ r ∷ s ∷ []) ≡ edge_cosine u (p ∷ q ∷ r ∷ s ∷ [])
  unfolding edge_cosine
  at_edge p q r s hp hq hr hs = λ k. signed_square (cross (between p q hp hq k) (between p r hp hr k)) (cross (between p q hp hq k) (between p s hp hs k))

  pub same_angles : (k : ℕ) → k < 6 → edge_cosine t (edge_at k) ≡ edge_cosine u (edge_at k)
  same_angles zero h = at_edge 0 1 2 3 (omega arith) (omega arith) (omega arith) (omega arith)
  same_angles (suc zero) h = at_edge 0 2 1 3 (omega arith) (omega arith) (omega arith) (omega arith)
  same_angles (suc (suc zero)) h = at_edge 0 3 1 2 (omega arith) (omega arith) (omega arith) (omega arith)
  same_angles (suc (suc (suc zero))) h = at_edge 1 2 0 3 (omega arith) (omega arith) (omega arith) (omega arith)
  same_angles (suc (suc (suc (suc zero)))) h = at_edge 1 3 0 2 (omega arith) (omega arith) (omega arith) (omega arith)
  same_angles (suc (suc (suc (suc (suc zero))))) h = at_edge 2 3 0 1 (omega arith) (omega arith) (omega arith) (omega arith)
  same_angles (suc (suc (suc (suc (suc (suc k)))))) h = absurd (omega arith)

-- a tetrahedron that is covered covers its shape
pub covers_shape : (o : Option Extremes) (t : List Place) (s : Shape) → IsShapeOf t s → Covers o t → CoversShape o s
covers_shape o t s a h u b p k lt = subst (Between o) (same_angles t u s a b k lt) (h k lt)

pub covers_wider : (o n : Option Extremes) (s : Shape) → Widens o n → CoversShape o s → CoversShape n s
covers_wider o n s w h t a p k lt = w (edge_cosine t (edge_at k)) (cosine_den t p k lt) (h t a p k lt)

-- no tetrahedron with a volume has all nodes at one place
pub covers_point : (o : Option Extremes) (s : Shape) → s.second ≡ place (pos 0) (pos 0) (pos 0) → s.third ≡ place (pos 0) (pos 0) (pos 0) → s.fourth ≡ place (pos 0) (pos 0) (pos 0) → CoversShape o s
covers_point o s e f g t a p k lt =
    let flat : det t ≡ pos 0 = λ i. det_of ((sym a.second ∙ e) i) ((sym a.third ∙ f) i) ((sym a.fourth ∙ g) i) in
    absurd (none (det t) flat p)
  where
    none : (z : ℤ) → z ≡ pos 0 → pos 0 <ℤ z → ⊥
    none z e h = omega (arith, ints)

-- the shape that is remembered at a place
known : (o : Option Extremes) (seen : List Shape) (k : ℕ) (d s : Shape) (t : List Place) → All (CoversShape o) seen → k < length seen → slice_index_or seen k d ≡ s → IsShapeOf t s → pos 0 <ℤ det t → Covers o t
known o seen k d s t all lt e a p = all k d lt t (subst (IsShapeOf t) (sym e) a) p

-- the same where the place may be past the end: there is the shape of four nodes at one place
pub known_or_point : (o : Option Extremes) (seen : List Shape) (k : ℕ) (d s : Shape) (t : List Place) → All (CoversShape o) seen → d.second ≡ place (pos 0) (pos 0) (pos 0) → d.third ≡ place (pos 0) (pos 0) (pos 0) → d.fourth ≡ place (pos 0) (pos 0) (pos 0) →
    slice_index_or seen k d ≡ s → IsShapeOf t s → pos 0 <ℤ det t → Covers o t
known_or_point o seen k d s t all e f g h a p = go (either k (length seen))
  where
    either : (a b : ℕ) → (a < b) ⊎ (b ≤ a)
    either a b = grind arith

    go : (k < length seen) ⊎ (length seen ≤ k) → Covers o t
    go (inl lt) = known o seen k d s t all lt h a p
    go (inr le) = covers_point o d e f g t (subst (IsShapeOf t) (sym h ∙ get_or_past seen k d le) a) p

pub all_wider : (o n : Option Extremes) (seen : List Shape) → Widens o n → All (CoversShape o) seen → All (CoversShape n) seen
all_wider o n seen w all k d lt = covers_wider o n (slice_index_or seen k d) w (all k d lt)
