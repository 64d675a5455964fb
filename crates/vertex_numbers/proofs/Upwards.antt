-- The neighbours upwards of a vertex, where they are in the domain.
use Rattle.std.proofs.Common.{◌≡◌, ℕ, ◌+◌, ◌-◌, ◌%◌, ◌≤◌, Some, arith, refl}
use Rattle.definitions.specs.declared.Dims.{Dims}
use Rattle.definitions.specs.declared.Vertex.{Vertex}
use Rattle.definitions.specs.Lattice.{InDomain, moved, step, vertex}
use Rattle.lattice_laws.proofs.LaterNeighbours.{neighbour_from}
use Rattle.lattice_laws.proofs.Steps.{is_step_1, is_step_2, is_step_3, is_step_4, is_step_5, is_step_6, is_step_7}
use Rattle.lattice_laws.proofs.Vertices.{domain_in}
use Rattle.vertex_numbers.specs.Alike.{HasColumn, HasNext, IsUp}
use Rattle.vertex_numbers.specs.Later.{HasAllLater}

up_in : (d : Dims) (v w : Vertex) (dir : ℕ) → InDomain d w → moved v (step dir) ≡ Some w → IsUp d v dir w
up_in d v w dir inside e = record { inside = inside; is = neighbour_from d v w dir e (domain_in d w inside) }

module _ (d : Dims) (v : Vertex) (k : InDomain d v) (a : HasColumn d v) where
  pub up_2 : IsUp d v 2 (vertex v.h (v.y + 2) v.x)
  up_2 =
      up_in d v (vertex v.h (v.y + 2) v.x) 2
      (record { h_below = k.h_below; y_below = a.y_high; x_below = k.x_below; y_alike = (let p = k.y_alike in omega arith); x_alike = k.x_alike })
      (is_step_2 v (vertex v.h (v.y + 2) v.x) refl refl refl)

  -- in the layer above
  before : (y : ℕ) → y ≤ v.y + 1 → (y + 1) % 2 ≡ v.y % 2 → InDomain d (vertex (v.h + 1) y (v.x - 1))
  before y ly ey =
      let p = k.y_alike in
      let q = k.x_alike in
      let xb = k.x_below in
      let hh = a.h_high in
      let yy = a.y_high in
      let xl = a.x_low in
      record { h_below = omega arith; y_below = omega arith; x_below = omega arith; y_alike = omega arith; x_alike = omega arith }

  pub up_3 : IsUp d v 3 (vertex (v.h + 1) (v.y - 1) (v.x - 1))
  up_3 =
      let yl = a.y_low in
      let xl = a.x_low in
      up_in d v (vertex (v.h + 1) (v.y - 1) (v.x - 1)) 3 (before (v.y - 1) (omega arith) (omega arith)) (is_step_3 v (vertex (v.h + 1) (v.y - 1) (v.x - 1)) refl (omega arith) (omega arith))

  pub up_5 : IsUp d v 5 (vertex (v.h + 1) (v.y + 1) (v.x - 1))
  up_5 =
      let xl = a.x_low in
      up_in d v (vertex (v.h + 1) (v.y + 1) (v.x - 1)) 5 (before (v.y + 1) (omega arith) (omega arith)) (is_step_5 v (vertex (v.h + 1) (v.y + 1) (v.x - 1)) refl refl (omega arith))

  pub up_7 : IsUp d v 7 (vertex (v.h + 2) v.y v.x)
  up_7 =
      up_in d v (vertex (v.h + 2) v.y v.x) 7
      (record { h_below = a.h_high; y_below = k.y_below; x_below = k.x_below; y_alike = (let p = k.y_alike in omega arith); x_alike = (let p = k.x_alike in omega arith) })
      (is_step_7 v (vertex (v.h + 2) v.y v.x) refl refl refl)

module _ (d : Dims) (v : Vertex) (k : InDomain d v) (a : HasNext d v) where
  pub up_1 : IsUp d v 1 (vertex v.h v.y (v.x + 2))
  up_1 =
      up_in d v (vertex v.h v.y (v.x + 2)) 1
      (record { h_below = k.h_below; y_below = k.y_below; x_below = a.x_high; y_alike = k.y_alike; x_alike = (let p = k.x_alike in omega arith) })
      (is_step_1 v (vertex v.h v.y (v.x + 2)) refl refl refl)

  -- in the layer above
  behind : (y : ℕ) → y ≤ v.y + 1 → (y + 1) % 2 ≡ v.y % 2 → InDomain d (vertex (v.h + 1) y (v.x + 1))
  behind y ly ey =
      let p = k.y_alike in
      let q = k.x_alike in
      let hh = a.h_high in
      let yy = a.y_high in
      let xx = a.x_high in
      record { h_below = omega arith; y_below = omega arith; x_below = omega arith; y_alike = omega arith; x_alike = omega arith }

  pub up_4 : IsUp d v 4 (vertex (v.h + 1) (v.y - 1) (v.x + 1))
  up_4 =
      let yl = a.y_low in
      up_in d v (vertex (v.h + 1) (v.y - 1) (v.x + 1)) 4 (behind (v.y - 1) (omega arith) (omega arith)) (is_step_4 v (vertex (v.h + 1) (v.y - 1) (v.x + 1)) refl (omega arith) refl)

  pub up_6 : IsUp d v 6 (vertex (v.h + 1) (v.y + 1) (v.x + 1))
  up_6 = up_in d v (vertex (v.h + 1) (v.y + 1) (v.x + 1)) 6 (behind (v.y + 1) (omega arith) (omega arith)) (is_step_6 v (vertex (v.h + 1) (v.y + 1) (v.x + 1)) refl refl refl)

  -- the column of the next vertex along x
  pub column_next : HasColumn d (vertex v.h v.y (v.x + 2))
  column_next = record { h_high = a.h_high; y_high = a.y_high; y_low = a.y_low; x_low = omega arith }

-- where all neighbours upwards are in the domain
pub column_here : (d : Dims) (v : Vertex) → HasAllLater d v → HasColumn d v
column_here d v a = record { h_high = a.h_high; y_high = a.y_high; y_low = a.y_low; x_low = a.x_low }

pub next_here : (d : Dims) (v : Vertex) → HasAllLater d v → HasNext d v
next_here d v a = record { h_high = a.h_high; y_high = a.y_high; x_high = a.x_high; y_low = a.y_low }
