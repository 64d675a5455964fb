-- A neighbour in a direction stands in the domain, at most two layers away.
use Rattle.std.proofs.Common.{◌≡◌, ℕ, zero, suc, ◌+◌, ◌<◌, ◌≤◌, arith, Bool, true, false, Some}
use Rattle.definitions.specs.declared.Dims.{Dims}
use Rattle.definitions.specs.declared.Vertex.{Vertex}
use Rattle.definitions.specs.Lattice.{InDomain, moved, neighbour, step}
use Rattle.lattice_laws.proofs.EdgeSteps.{from_back}
use Rattle.lattice_laws.proofs.LaterNeighbours.{neighbour_leads}
use Rattle.lattice_laws.proofs.Steps.{after_step_1, after_step_2, after_step_3, after_step_4, after_step_5, after_step_6, after_step_7}
use Rattle.lattice_laws.proofs.Vertices.{domain_out}
use Rattle.vertex_numbers.specs.Sources.{KnowsAround}

pub record Near (d : Dims) (v w : Vertex) : Type 0 where
  pub inside : InDomain d w
  pub above : w.h ≤ v.h + 2
  pub below : v.h ≤ w.h + 2

rises : (dir : ℕ) (v w : Vertex) → 1 ≤ dir → dir < 1 + 7 → moved v (step dir) ≡ Some w → (v.h ≤ w.h) × (w.h ≤ v.h + 2)
rises zero v w h k e = absurd (omega arith)
rises (suc zero) v w h k e = let p = after_step_1 v w e in (omega arith, omega arith)
rises (suc (suc zero)) v w h k e = let p = after_step_2 v w e in (omega arith, omega arith)
rises (suc (suc (suc zero))) v w h k e = let p = after_step_3 v w e in (omega arith, omega arith)
rises (suc (suc (suc (suc zero)))) v w h k e = let p = after_step_4 v w e in (omega arith, omega arith)
rises (suc (suc (suc (suc (suc zero))))) v w h k e = let p = after_step_5 v w e in (omega arith, omega arith)
rises (suc (suc (suc (suc (suc (suc zero)))))) v w h k e = let p = after_step_6 v w e in (omega arith, omega arith)
rises (suc (suc (suc (suc (suc (suc (suc zero))))))) v w h k e = let p = after_step_7 v w e in (omega arith, omega arith)
rises (suc (suc (suc (suc (suc (suc (suc (suc j)))))))) v w h k e = absurd (omega arith)

pub near : (d : Dims) (v w : Vertex) (dir : ℕ) (up : Bool) → 1 ≤ dir → dir ≤ 7 → neighbour d v dir up ≡ Some w → Near d v w
near d v w dir true h k e =
    let l = neighbour_leads d v w dir true e in
    let r = rises dir v w h (omega arith) l.0 in
    record { inside = domain_out d w l.1; above = r.1; below = omega arith }
near d v w dir false h k e =
    let l = neighbour_leads d v w dir false e in
    let r = rises dir w v h (omega arith) (from_back dir v w h (omega arith) l.0) in
    record { inside = domain_out d w l.1; above = omega arith; below = r.1 }

-- its layer is known where the layers around are
pub near_known : (d : Dims) (knows : ℕ → Type 0) (v w : Vertex) (dir : ℕ) (up : Bool) → KnowsAround d knows v.h → 1 ≤ dir → dir ≤ 7 → neighbour d v dir up ≡ Some w → knows w.h
near_known d knows v w dir up k low high e =
    let n = near d v w dir up low high e in
    let i = n.inside in
    k w.h i.h_below n.above n.below
