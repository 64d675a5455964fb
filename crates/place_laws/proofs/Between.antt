-- Between two vertices of the lattice all places are inside.
use Rattle.std.proofs.Common.{◌≡◌, ℕ, suc, ◌+◌, ◌*◌, ◌<◌, ◌≤◌, arith, sym, ◌∙◌, ap, subst, false, Some, ℤ, pos, negsuc, ◌+ℤ◌, neg_ℤ}
use Rattle.std.specs.Prelude.{◌-ℤ◌, ◌*ℤ◌}
use Rattle.std.proofs.lemmas.Int.{ints}
use Rattle.std.proofs.Math.Nat.{mul-le-mul_left}
use Rattle.std.proofs.Math.IntN.{pos-*ℤ-pos, negsuc-*ℤ-pos, *ℤ-zero}
use Rattle.definitions.specs.declared.Dims.{Dims}
use Rattle.definitions.specs.declared.Vertex.{Vertex}
use Rattle.definitions.specs.Lattice.{InDomain, Step, moved, vertex_of_ints, directed}
use Rattle.definitions.specs.Cuts.{scale}
use Rattle.definitions.specs.Places.{along, lattice_place}
use Rattle.place_laws.specs.Inside.{IsOnAxis, StandsInside}

-- a coordinate of a vertex, moved by k parts of a step that leads to another
abbrev moved_by : ℕ → ℤ → ℕ → ℤ
moved_by v s k = ((pos v -ℤ pos 2) *ℤ pos scale) +ℤ (s *ℤ pos k)

-- m parts of a step forwards or back, by the product of their sizes
forwards : (n v w p q : ℕ) → pos w ≡ pos v +ℤ pos p → w < 2 * n + 3 → q ≤ p * 4096 → IsOnAxis n (((pos v -ℤ pos 2) *ℤ pos 4096) +ℤ pos q)
forwards n v w p q e hw h = record { low = omega (arith, ints); high = omega (arith, ints) }

backwards : (n v w p q : ℕ) → pos w ≡ pos v +ℤ neg_ℤ (pos p) → v < 2 * n + 3 → q ≤ p * 4096 → IsOnAxis n (((pos v -ℤ pos 2) *ℤ pos 4096) +ℤ neg_ℤ (pos q))
backwards n v w p q e hv h = record { low = omega (arith, ints); high = omega (arith, ints) }

pub on_axis : (n v w k : ℕ) (s : ℤ) → pos w ≡ pos v +ℤ s → v < 2 * n + 3 → w < 2 * n + 3 → k ≤ 4096 → IsOnAxis n (moved_by v s k)
on_axis n v w k (pos p) e hv hw h =
    subst (λ z. IsOnAxis n (((pos v -ℤ pos 2) *ℤ pos 4096) +ℤ z)) (sym (pos-*ℤ-pos p k)) (forwards n v w p (p * k) e hw (mul-le-mul_left p h))
on_axis n v w k (negsuc p) e hv hw h =
    subst (λ z. IsOnAxis n (((pos v -ℤ pos 2) *ℤ pos 4096) +ℤ z)) (sym (negsuc-*ℤ-pos p k)) (backwards n v w (suc p) (suc p * k) e hv (mul-le-mul_left (suc p) h))

-- where a step leads, by coordinates
pub record LeadsBy (v w : Vertex) (s : Step) : Type 0 where
  pub h : pos w.h ≡ pos v.h +ℤ s.h
  pub y : pos w.y ≡ pos v.y +ℤ s.y
  pub x : pos w.x ≡ pos v.x +ℤ s.x

from_ints : (h y x : ℤ) (w : Vertex) → vertex_of_ints h y x ≡ Some w → (pos w.h ≡ h) × (pos w.y ≡ y) × (pos w.x ≡ x)
from_ints (pos h) (pos y) (pos x) w e = (cc, cc, cc)
from_ints (pos h) (pos y) (negsuc x) w e = cc
from_ints (pos h) (negsuc y) x w e = cc
from_ints (negsuc h) y x w e = cc

pub leads_by : (v w : Vertex) (s : Step) → moved v s ≡ Some w → LeadsBy v w s
leads_by v w s e = let r = from_ints (pos v.h +ℤ s.h) (pos v.y +ℤ s.y) (pos v.x +ℤ s.x) w e in record { h = r.0; y = r.1; x = r.2 }

-- k parts of a step from a vertex of the domain to another
pub between : (d : Dims) (v w : Vertex) (s : Step) (k : ℕ) → InDomain d v → InDomain d w → LeadsBy v w s → k ≤ 4096 → StandsInside d (along (lattice_place v) s k)
between d v w s k hv hw l h = record {
  x = on_axis d.nx v.x w.x k s.x l.x hv.x_below hw.x_below h;
  y = on_axis d.ny v.y w.y k s.y l.y hv.y_below hw.y_below h;
  z = on_axis d.nz v.h w.h k s.h l.h hv.h_below hw.h_below h;
}

at_vertex : (n v : ℕ) → v < 2 * n + 3 → IsOnAxis n ((pos v -ℤ pos 2) *ℤ pos 4096)
at_vertex n v h = record { low = omega (arith, ints); high = omega (arith, ints) }

pub vertex_inside : (d : Dims) (v : Vertex) → InDomain d v → StandsInside d (lattice_place v)
vertex_inside d v h = record { x = at_vertex d.nx v.x h.x_below; y = at_vertex d.ny v.y h.y_below; z = at_vertex d.nz v.h h.h_below }

-- no part of a step
no_part : (z s : ℤ) → z ≡ z +ℤ (s *ℤ pos 0)
no_part z s = let e : z ≡ z +ℤ pos 0 = omega (arith, ints) in e ∙ ap (λ p. z +ℤ p) (sym (*ℤ-zero s))

pub no_part_inside : (d : Dims) (v : Vertex) (s : Step) → InDomain d v → StandsInside d (along (lattice_place v) s 0)
no_part_inside d v s h =
    let at = vertex_inside d v h in
    record {
      x = subst (IsOnAxis d.nx) (no_part ((pos v.x -ℤ pos 2) *ℤ pos scale) s.x) at.x;
      y = subst (IsOnAxis d.ny) (no_part ((pos v.y -ℤ pos 2) *ℤ pos scale) s.y) at.y;
      z = subst (IsOnAxis d.nz) (no_part ((pos v.h -ℤ pos 2) *ℤ pos scale) s.h) at.z;
    }

-- the same from the lower end of an edge downwards
down_and_up : (n v w k : ℕ) (s : ℤ) → pos w ≡ pos v +ℤ neg_ℤ s → v < 2 * n + 3 → w < 2 * n + 3 → k ≤ 4096 →
    IsOnAxis n ((((pos v -ℤ pos 2) *ℤ pos 4096) +ℤ (neg_ℤ s *ℤ pos 4096)) +ℤ (s *ℤ pos k))
down_and_up n v w k s e hv hw h =
    let same : ((pos w -ℤ pos 2) *ℤ pos 4096) ≡ ((pos v -ℤ pos 2) *ℤ pos 4096) +ℤ (neg_ℤ s *ℤ pos 4096) = omega (arith, ints) in
    let back : pos v ≡ pos w +ℤ s = omega (arith, ints) in
    subst (λ z. IsOnAxis n (z +ℤ (s *ℤ pos k))) same (on_axis n w v k s back hw hv h)

pub between_down : (d : Dims) (v w : Vertex) (s : Step) (k : ℕ) → InDomain d v → InDomain d w → LeadsBy v w (directed false s) → k ≤ 4096 →
    StandsInside d (along (along (lattice_place v) (directed false s) scale) s k)
between_down d v w s k hv hw l h = record {
  x = down_and_up d.nx v.x w.x k s.x l.x hv.x_below hw.x_below h;
  y = down_and_up d.ny v.y w.y k s.y l.y hv.y_below hw.y_below h;
  z = down_and_up d.nz v.h w.h k s.h l.h hv.h_below hw.h_below h;
}
