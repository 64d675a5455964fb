-- Each rational point is in a lattice tetrahedron.
use Rattle.std.proofs.Common.{◌≡◌, ℕ, suc, ◌+◌, ◌*◌, ◌-◌, ◌/◌, ◌%◌, ◌<◌, [], ◌∷◌, refl, sym, ap, subst, ◌∙◌, arith}
use Rattle.std.proofs.Math.IntN.{ℤ, pos, negsuc, ◌+ℤ◌, ◌*ℤ◌, neg_ℤ}
use Rattle.std.proofs.lemmas.Int.{ints}
use Rattle.std.proofs.lemmas.Nat.{div-add-mod'}
use lib.Signed.{◌≤ℤ◌}
use Rattle.exact.specs.Polynomials.{variable, constant, plus, times, negate}
use Rattle.exact.proofs.Ring.{ring}
use Rattle.lattice_laws.specs.Vectors.{Vector, vector, ◌+ᵥ◌, ◌*ᵥ◌}
use Rattle.moved_lattice.specs.Laws.{EveryPointIsHeld}
use Rattle.moved_lattice.proofs.LatticeVertices.{even_lattice, sum_lattice}
use Rattle.moved_lattice.proofs.PointForms.{form_at, weights, holds_by_forms}
use Rattle.moved_lattice.proofs.Cells.{Located, located_in_cube}

floor_below_zero : (a m q r : ℕ) → q * m + r ≡ a → r < m → negsuc a ≡ pos m *ℤ negsuc q +ℤ pos (m - suc r)
floor_below_zero a m q r e h = omega (arith, ints)

floor : (a : ℤ) (m : ℕ) → 0 < m → (i : ℤ) × (r : ℕ) × (a ≡ pos m *ℤ i +ℤ pos r) × (r < m)
floor (pos a) m h =
    let e = div-add-mod' a m in
    (pos (a / m), a % m, ap pos (let f : a ≡ m * (a / m) + a % m = omega arith in f), omega arith)
floor (negsuc a) m h =
    let e = div-add-mod' a m in
    (negsuc (a / m), m - suc (a % m), floor_below_zero a m (a / m) (a % m) e (omega arith), omega arith)

moved : (a i o : ℤ) (r n : ℕ) → a ≡ pos (n + n) *ℤ i +ℤ pos r → a +ℤ neg_ℤ (pos n *ℤ (pos 2 *ℤ i +ℤ o)) ≡ pos r +ℤ neg_ℤ (pos n *ℤ o)
moved a i o r n e =
    ap (λ t. t +ℤ neg_ℤ (pos n *ℤ (pos 2 *ℤ i +ℤ o))) e
    ∙ ring (i ∷ o ∷ pos r ∷ pos n ∷ []) (plus (plus (times (plus (variable 3) (variable 3)) (variable 0)) (variable 2)) (negate (times (variable 3) (plus (times (constant (pos 2)) (variable 0)) (variable 1))))) (plus (variable 2) (negate (times (variable 3) (variable 1)))) refl

from_cube : (p : Vector) (n : ℕ) (a : Vector) (x y z : ℕ) → p.x ≡ pos (n + n) *ℤ a.x +ℤ pos x → p.y ≡ pos (n + n) *ℤ a.y +ℤ pos y → p.z ≡ pos (n + n) *ℤ a.z +ℤ pos z
    → Located (vector (pos x) (pos y) (pos z)) n → Located p n
from_cube p n a x y z ex ey ez l = record {
  at = pos 2 *ᵥ a +ᵥ l.at;
  lattice = sum_lattice (pos 2 *ᵥ a) l.at (even_lattice a) l.lattice;
  kind = l.kind;
  forms = λ s. subst (λ (q : Vector). pos 0 ≤ℤ form_at l.kind s q (pos n)) (sym (λ i. vector (moved p.x a.x l.at.x x n ex i) (moved p.y a.y l.at.y y n ey i) (moved p.z a.z l.at.z z n ez i))) (l.forms s);
}

-- each point is in a lattice tetrahedron: in its cube of side 2, by the greatest and the second coordinate from its centre
pub locate : (p : Vector) (n : ℕ) → 0 < n → Located p n
locate p n h = go (floor p.x (n + n) h2) (floor p.y (n + n) h2) (floor p.z (n + n) h2)
  where
    h2 : 0 < n + n
    h2 = omega arith

    go : (i : ℤ) × (r : ℕ) × (p.x ≡ pos (n + n) *ℤ i +ℤ pos r) × (r < n + n) → (i : ℤ) × (r : ℕ) × (p.y ≡ pos (n + n) *ℤ i +ℤ pos r) × (r < n + n) → (i : ℤ) × (r : ℕ) × (p.z ≡ pos (n + n) *ℤ i +ℤ pos r) × (r < n + n) → Located p n
    go fx fy fz = from_cube p n (vector fx.0 fy.0 fz.0) fx.1 fy.1 fz.1 fx.2 fy.2 fz.2
        (located_in_cube fx.1 fy.1 fz.1 n (omega arith) (omega arith) (omega arith))

-- so each point has weights in a lattice tetrahedron
pub every_point : EveryPointIsHeld
every_point p n h =
    let t = locate p n h in
    (t.at, t.kind, weights t.kind t.at p n, t.lattice, holds_by_forms t.kind t.at p n t.forms)
