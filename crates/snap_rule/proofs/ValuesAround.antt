-- The values around a vertex, by where its edges lead.
use Rattle.std.proofs.Common.{◌≡◌, ℕ, zero, suc, ◌+◌, ◌-◌, ◌*◌, ◌/◌, ◌%◌, ◌^◌, ◌<◌, ◌≤◌, sym, ◌∙◌, ap, subst, Some, true, false, ℤ, pos, w64, to_z, of_z, List, [], ◌∷◌, length, get_or, arith}
use Rattle.std.specs.Prelude.{map, unsigned_abs, ◌*ℤ◌}
use Rattle.std.specs.List.{AllByRecursion, range_with_len}
use Rattle.std.specs.Option.{option_map_or}
use Rattle.definitions.specs.declared.Dims.{Dims}
use Rattle.definitions.specs.declared.Vertex.{Vertex}
use Rattle.definitions.specs.Lattice.{InDomain, moved, neighbour, step, directed, vertex}
use Rattle.definitions.specs.Values.{Field, corner_difference, cube_sum, value}
use Rattle.lattice_laws.proofs.EdgeSteps.{back_from}
use Rattle.lattice_laws.proofs.LaterNeighbours.{neighbour_led}
use Rattle.lattice_laws.proofs.Steps.{is_step_1, is_step_2, is_step_3, is_step_4, is_step_5, is_step_6, is_step_7}
use Rattle.lattice_laws.proofs.Vertices.{domain_in}
use Rattle.snap_laws.specs.Around.{around}
use Rattle.samples.specs.Stars.{corner_star, centre_star}
use Rattle.samples.proofs.ValuesAt.{corner_value, centre_value}
use Rattle.snap_rule.specs.Near.{IsSmallValue, in_order}
use Rattle.snap_rule.proofs.Values.{read}

-- the values at the other ends of an edge upwards and of one downwards
pub up : (f : Field) (v w : Vertex) (dir : ℕ) → InDomain f.dims w → moved v (directed true (step dir)) ≡ Some w → option_map_or (value f) (neighbour f.dims v dir true) (pos 0) ≡ value f w
up f v w dir is e = ap (λ o. option_map_or (value f) o (pos 0)) (neighbour_led f.dims v w dir true e (domain_in f.dims w is))

pub down : (f : Field) (v w : Vertex) (dir : ℕ) → 1 ≤ dir → dir < 1 + 7 → InDomain f.dims w → moved w (step dir) ≡ Some v → option_map_or (value f) (neighbour f.dims v dir false) (pos 0) ≡ value f w
down f v w dir low high is e = ap (λ o. option_map_or (value f) o (pos 0)) (neighbour_led f.dims v w dir false (back_from dir v w low high e) (domain_in f.dims w is))

corner_inside : (d : Dims) (i j k : ℕ) → i ≤ d.nx + 1 → j ≤ d.ny + 1 → k ≤ d.nz + 1 → InDomain d (vertex (2 * k) (2 * j) (2 * i))
corner_inside d i j k p q r = record { h_below = omega arith; y_below = omega arith; x_below = omega arith; y_alike = omega arith; x_alike = omega arith }

centre_inside : (d : Dims) (i j k : ℕ) → i ≤ d.nx → j ≤ d.ny → k ≤ d.nz → InDomain d (vertex (2 * k + 1) (2 * j + 1) (2 * i + 1))
centre_inside d i j k p q r = record { h_below = omega arith; y_below = omega arith; x_below = omega arith; y_alike = omega arith; x_alike = omega arith }

-- numbers as they are kept
pub kept : (r : ℤ) → unsigned_abs r ≤ 2 ^ 37 → to_z w64 (of_z w64 r) ≡ r
kept r s = read r (omega arith)

pub kept_small : (r : ℤ) → unsigned_abs r ≤ 2 ^ 37 → IsSmallValue (to_z w64 (of_z w64 r))
kept_small r s = subst IsSmallValue (sym (read r (omega arith))) (omega arith)

pub each_small : (xs : List ℤ) → AllByRecursion IsSmallValue xs → (k : ℕ) (d : ℤ) → k < length xs → IsSmallValue (get_or xs k d)
each_small [] h k d lt = absurd (omega arith)
each_small (x ∷ xs) h zero d lt = h.0
each_small (x ∷ xs) h (suc k) d lt = each_small xs h.1 k d (omega arith)

-- an inner corner and centre by the least corner of the block around it
pub corner_of : (v : Vertex) → v.h % 2 ≡ 0 → v.y % 2 ≡ v.h % 2 → v.x % 2 ≡ v.h % 2 → 2 ≤ v.h → 2 ≤ v.y → 2 ≤ v.x → vertex (2 * (v.h / 2 - 1 + 1)) (2 * (v.y / 2 - 1 + 1)) (2 * (v.x / 2 - 1 + 1)) ≡ v
corner_of v h y x h_low y_low x_low = λ i. record { h = even v.h h h_low i; y = even v.y (y ∙ h) y_low i; x = even v.x (x ∙ h) x_low i }
  where
    even : (n : ℕ) → n % 2 ≡ 0 → 2 ≤ n → 2 * (n / 2 - 1 + 1) ≡ n
    even n e low = omega arith

pub centre_of : (v : Vertex) → v.h % 2 ≡ 1 → v.y % 2 ≡ v.h % 2 → v.x % 2 ≡ v.h % 2 → 2 ≤ v.h → 2 ≤ v.y → 2 ≤ v.x → vertex (2 * (v.h / 2 - 1 + 1) + 1) (2 * (v.y / 2 - 1 + 1) + 1) (2 * (v.x / 2 - 1 + 1) + 1) ≡ v
centre_of v h y x h_low y_low x_low = λ i. record { h = odd v.h h h_low i; y = odd v.y (y ∙ h) y_low i; x = odd v.x (x ∙ h) x_low i }
  where
    odd : (n : ℕ) → n % 2 ≡ 1 → 2 ≤ n → 2 * (n / 2 - 1 + 1) + 1 ≡ n
    odd n e low = omega arith

module _ (f : Field) (i j k : ℕ) (i_high : i + 1 ≤ f.dims.nx) (j_high : j + 1 ≤ f.dims.ny) (k_high : k + 1 ≤ f.dims.nz) where
  corner_1 : around f (vertex (2 * (k + 1)) (2 * (j + 1)) (2 * (i + 1))) 1 ≡ pos 8 *ℤ corner_difference f (i + 1 + 1) (j + 1) (k + 1)
  corner_1 = up f (vertex (2 * (k + 1)) (2 * (j + 1)) (2 * (i + 1))) (vertex (2 * (k + 1)) (2 * (j + 1)) (2 * (i + 1 + 1))) 1 (corner_inside f.dims (i + 1 + 1) (j + 1) (k + 1) (omega arith) (omega arith) (omega arith)) (is_step_1 (vertex (2 * (k + 1)) (2 * (j + 1)) (2 * (i + 1))) (vertex (2 * (k + 1)) (2 * (j + 1)) (2 * (i + 1 + 1))) (omega arith) (omega arith) (omega arith)) ∙ corner_value f (i + 1 + 1) (j + 1) (k + 1)

  corner_2 : around f (vertex (2 * (k + 1)) (2 * (j + 1)) (2 * (i + 1))) 2 ≡ pos 8 *ℤ corner_difference f (i + 1) (j + 1 + 1) (k + 1)
  corner_2 = up f (vertex (2 * (k + 1)) (2 * (j + 1)) (2 * (i + 1))) (vertex (2 * (k + 1)) (2 * (j + 1 + 1)) (2 * (i + 1))) 2 (corner_inside f.dims (i + 1) (j + 1 + 1) (k + 1) (omega arith) (omega arith) (omega arith)) (is_step_2 (vertex (2 * (k + 1)) (2 * (j + 1)) (2 * (i + 1))) (vertex (2 * (k + 1)) (2 * (j + 1 + 1)) (2 * (i + 1))) (omega arith) (omega arith) (omega arith)) ∙ corner_value f (i + 1) (j + 1 + 1) (k + 1)

  corner_3 : around f (vertex (2 * (k + 1)) (2 * (j + 1)) (2 * (i + 1))) 3 ≡ cube_sum f i j (k + 1)
  corner_3 = up f (vertex (2 * (k + 1)) (2 * (j + 1)) (2 * (i + 1))) (vertex (2 * (k + 1) + 1) (2 * j + 1) (2 * i + 1)) 3 (centre_inside f.dims i j (k + 1) (omega arith) (omega arith) (omega arith)) (is_step_3 (vertex (2 * (k + 1)) (2 * (j + 1)) (2 * (i + 1))) (vertex (2 * (k + 1) + 1) (2 * j + 1) (2 * i + 1)) (omega arith) (omega arith) (omega arith)) ∙ centre_value f i j (k + 1)

  corner_4 : around f (vertex (2 * (k + 1)) (2 * (j + 1)) (2 * (i + 1))) 4 ≡ cube_sum f (i + 1) j (k + 1)
  corner_4 = up f (vertex (2 * (k + 1)) (2 * (j + 1)) (2 * (i + 1))) (vertex (2 * (k + 1) + 1) (2 * j + 1) (2 * (i + 1) + 1)) 4 (centre_inside f.dims (i + 1) j (k + 1) (omega arith) (omega arith) (omega arith)) (is_step_4 (vertex (2 * (k + 1)) (2 * (j + 1)) (2 * (i + 1))) (vertex (2 * (k + 1) + 1) (2 * j + 1) (2 * (i + 1) + 1)) (omega arith) (omega arith) (omega arith)) ∙ centre_value f (i + 1) j (k + 1)

  corner_5 : around f (vertex (2 * (k + 1)) (2 * (j + 1)) (2 * (i + 1))) 5 ≡ cube_sum f i (j + 1) (k + 1)
  corner_5 = up f (vertex (2 * (k + 1)) (2 * (j + 1)) (2 * (i + 1))) (vertex (2 * (k + 1) + 1) (2 * (j + 1) + 1) (2 * i + 1)) 5 (centre_inside f.dims i (j + 1) (k + 1) (omega arith) (omega arith) (omega arith)) (is_step_5 (vertex (2 * (k + 1)) (2 * (j + 1)) (2 * (i + 1))) (vertex (2 * (k + 1) + 1) (2 * (j + 1) + 1) (2 * i + 1)) (omega arith) (omega arith) (omega arith)) ∙ centre_value f i (j + 1) (k + 1)

  corner_6 : around f (vertex (2 * (k + 1)) (2 * (j + 1)) (2 * (i + 1))) 6 ≡ cube_sum f (i + 1) (j + 1) (k + 1)
  corner_6 = up f (vertex (2 * (k + 1)) (2 * (j + 1)) (2 * (i + 1))) (vertex (2 * (k + 1) + 1) (2 * (j + 1) + 1) (2 * (i + 1) + 1)) 6 (centre_inside f.dims (i + 1) (j + 1) (k + 1) (omega arith) (omega arith) (omega arith)) (is_step_6 (vertex (2 * (k + 1)) (2 * (j + 1)) (2 * (i + 1))) (vertex (2 * (k + 1) + 1) (2 * (j + 1) + 1) (2 * (i + 1) + 1)) (omega arith) (omega arith) (omega arith)) ∙ centre_value f (i + 1) (j + 1) (k + 1)

  corner_7 : around f (vertex (2 * (k + 1)) (2 * (j + 1)) (2 * (i + 1))) 7 ≡ pos 8 *ℤ corner_difference f (i + 1) (j + 1) (k + 1 + 1)
  corner_7 = up f (vertex (2 * (k + 1)) (2 * (j + 1)) (2 * (i + 1))) (vertex (2 * (k + 1 + 1)) (2 * (j + 1)) (2 * (i + 1))) 7 (corner_inside f.dims (i + 1) (j + 1) (k + 1 + 1) (omega arith) (omega arith) (omega arith)) (is_step_7 (vertex (2 * (k + 1)) (2 * (j + 1)) (2 * (i + 1))) (vertex (2 * (k + 1 + 1)) (2 * (j + 1)) (2 * (i + 1))) (omega arith) (omega arith) (omega arith)) ∙ corner_value f (i + 1) (j + 1) (k + 1 + 1)

  corner_8 : around f (vertex (2 * (k + 1)) (2 * (j + 1)) (2 * (i + 1))) 8 ≡ pos 8 *ℤ corner_difference f i (j + 1) (k + 1)
  corner_8 = down f (vertex (2 * (k + 1)) (2 * (j + 1)) (2 * (i + 1))) (vertex (2 * (k + 1)) (2 * (j + 1)) (2 * i)) 1 (omega arith) (omega arith) (corner_inside f.dims i (j + 1) (k + 1) (omega arith) (omega arith) (omega arith)) (is_step_1 (vertex (2 * (k + 1)) (2 * (j + 1)) (2 * i)) (vertex (2 * (k + 1)) (2 * (j + 1)) (2 * (i + 1))) (omega arith) (omega arith) (omega arith)) ∙ corner_value f i (j + 1) (k + 1)

  corner_9 : around f (vertex (2 * (k + 1)) (2 * (j + 1)) (2 * (i + 1))) 9 ≡ pos 8 *ℤ corner_difference f (i + 1) j (k + 1)
  corner_9 = down f (vertex (2 * (k + 1)) (2 * (j + 1)) (2 * (i + 1))) (vertex (2 * (k + 1)) (2 * j) (2 * (i + 1))) 2 (omega arith) (omega arith) (corner_inside f.dims (i + 1) j (k + 1) (omega arith) (omega arith) (omega arith)) (is_step_2 (vertex (2 * (k + 1)) (2 * j) (2 * (i + 1))) (vertex (2 * (k + 1)) (2 * (j + 1)) (2 * (i + 1))) (omega arith) (omega arith) (omega arith)) ∙ corner_value f (i + 1) j (k + 1)

  corner_10 : around f (vertex (2 * (k + 1)) (2 * (j + 1)) (2 * (i + 1))) 10 ≡ cube_sum f (i + 1) (j + 1) k
  corner_10 = down f (vertex (2 * (k + 1)) (2 * (j + 1)) (2 * (i + 1))) (vertex (2 * k + 1) (2 * (j + 1) + 1) (2 * (i + 1) + 1)) 3 (omega arith) (omega arith) (centre_inside f.dims (i + 1) (j + 1) k (omega arith) (omega arith) (omega arith)) (is_step_3 (vertex (2 * k + 1) (2 * (j + 1) + 1) (2 * (i + 1) + 1)) (vertex (2 * (k + 1)) (2 * (j + 1)) (2 * (i + 1))) (omega arith) (omega arith) (omega arith)) ∙ centre_value f (i + 1) (j + 1) k

  corner_11 : around f (vertex (2 * (k + 1)) (2 * (j + 1)) (2 * (i + 1))) 11 ≡ cube_sum f i (j + 1) k
  corner_11 = down f (vertex (2 * (k + 1)) (2 * (j + 1)) (2 * (i + 1))) (vertex (2 * k + 1) (2 * (j + 1) + 1) (2 * i + 1)) 4 (omega arith) (omega arith) (centre_inside f.dims i (j + 1) k (omega arith) (omega arith) (omega arith)) (is_step_4 (vertex (2 * k + 1) (2 * (j + 1) + 1) (2 * i + 1)) (vertex (2 * (k + 1)) (2 * (j + 1)) (2 * (i + 1))) (omega arith) (omega arith) (omega arith)) ∙ centre_value f i (j + 1) k

  corner_12 : around f (vertex (2 * (k + 1)) (2 * (j + 1)) (2 * (i + 1))) 12 ≡ cube_sum f (i + 1) j k
  corner_12 = down f (vertex (2 * (k + 1)) (2 * (j + 1)) (2 * (i + 1))) (vertex (2 * k + 1) (2 * j + 1) (2 * (i + 1) + 1)) 5 (omega arith) (omega arith) (centre_inside f.dims (i + 1) j k (omega arith) (omega arith) (omega arith)) (is_step_5 (vertex (2 * k + 1) (2 * j + 1) (2 * (i + 1) + 1)) (vertex (2 * (k + 1)) (2 * (j + 1)) (2 * (i + 1))) (omega arith) (omega arith) (omega arith)) ∙ centre_value f (i + 1) j k

  corner_13 : around f (vertex (2 * (k + 1)) (2 * (j + 1)) (2 * (i + 1))) 13 ≡ cube_sum f i j k
  corner_13 = down f (vertex (2 * (k + 1)) (2 * (j + 1)) (2 * (i + 1))) (vertex (2 * k + 1) (2 * j + 1) (2 * i + 1)) 6 (omega arith) (omega arith) (centre_inside f.dims i j k (omega arith) (omega arith) (omega arith)) (is_step_6 (vertex (2 * k + 1) (2 * j + 1) (2 * i + 1)) (vertex (2 * (k + 1)) (2 * (j + 1)) (2 * (i + 1))) (omega arith) (omega arith) (omega arith)) ∙ centre_value f i j k

  corner_14 : around f (vertex (2 * (k + 1)) (2 * (j + 1)) (2 * (i + 1))) 14 ≡ pos 8 *ℤ corner_difference f (i + 1) (j + 1) k
  corner_14 = down f (vertex (2 * (k + 1)) (2 * (j + 1)) (2 * (i + 1))) (vertex (2 * k) (2 * (j + 1)) (2 * (i + 1))) 7 (omega arith) (omega arith) (corner_inside f.dims (i + 1) (j + 1) k (omega arith) (omega arith) (omega arith)) (is_step_7 (vertex (2 * k) (2 * (j + 1)) (2 * (i + 1))) (vertex (2 * (k + 1)) (2 * (j + 1)) (2 * (i + 1))) (omega arith) (omega arith) (omega arith)) ∙ corner_value f (i + 1) (j + 1) k

  pub around_corner : in_order (corner_star f i j k) ≡ map (around f (vertex (2 * (k + 1)) (2 * (j + 1)) (2 * (i + 1)))) (range_with_len 1 14)
  around_corner = λ t. sym corner_1 t ∷ sym corner_2 t ∷ sym corner_3 t ∷ sym corner_4 t ∷ sym corner_5 t ∷ sym corner_6 t ∷ sym corner_7 t ∷ sym corner_8 t ∷ sym corner_9 t ∷ sym corner_10 t ∷ sym corner_11 t ∷ sym corner_12 t ∷ sym corner_13 t ∷ sym corner_14 t ∷ []

  pub own_corner : (corner_star f i j k).own ≡ value f (vertex (2 * (k + 1)) (2 * (j + 1)) (2 * (i + 1)))
  own_corner = sym (corner_value f (i + 1) (j + 1) (k + 1))

module _ (f : Field) (i j k : ℕ) (i_high : i + 1 + 1 ≤ f.dims.nx) (j_high : j + 1 + 1 ≤ f.dims.ny) (k_high : k + 1 + 1 ≤ f.dims.nz) where
  centre_1 : around f (vertex (2 * (k + 1) + 1) (2 * (j + 1) + 1) (2 * (i + 1) + 1)) 1 ≡ cube_sum f (i + 1 + 1) (j + 1) (k + 1)
  centre_1 = up f (vertex (2 * (k + 1) + 1) (2 * (j + 1) + 1) (2 * (i + 1) + 1)) (vertex (2 * (k + 1) + 1) (2 * (j + 1) + 1) (2 * (i + 1 + 1) + 1)) 1 (centre_inside f.dims (i + 1 + 1) (j + 1) (k + 1) (omega arith) (omega arith) (omega arith)) (is_step_1 (vertex (2 * (k + 1) + 1) (2 * (j + 1) + 1) (2 * (i + 1) + 1)) (vertex (2 * (k + 1) + 1) (2 * (j + 1) + 1) (2 * (i + 1 + 1) + 1)) (omega arith) (omega arith) (omega arith)) ∙ centre_value f (i + 1 + 1) (j + 1) (k + 1)

  centre_2 : around f (vertex (2 * (k + 1) + 1) (2 * (j + 1) + 1) (2 * (i + 1) + 1)) 2 ≡ cube_sum f (i + 1) (j + 1 + 1) (k + 1)
  centre_2 = up f (vertex (2 * (k + 1) + 1) (2 * (j + 1) + 1) (2 * (i + 1) + 1)) (vertex (2 * (k + 1) + 1) (2 * (j + 1 + 1) + 1) (2 * (i + 1) + 1)) 2 (centre_inside f.dims (i + 1) (j + 1 + 1) (k + 1) (omega arith) (omega arith) (omega arith)) (is_step_2 (vertex (2 * (k + 1) + 1) (2 * (j + 1) + 1) (2 * (i + 1) + 1)) (vertex (2 * (k + 1) + 1) (2 * (j + 1 + 1) + 1) (2 * (i + 1) + 1)) (omega arith) (omega arith) (omega arith)) ∙ centre_value f (i + 1) (j + 1 + 1) (k + 1)

  centre_3 : around f (vertex (2 * (k + 1) + 1) (2 * (j + 1) + 1) (2 * (i + 1) + 1)) 3 ≡ pos 8 *ℤ corner_difference f (i + 1) (j + 1) (k + 1 + 1)
  centre_3 = up f (vertex (2 * (k + 1) + 1) (2 * (j + 1) + 1) (2 * (i + 1) + 1)) (vertex (2 * (k + 1 + 1)) (2 * (j + 1)) (2 * (i + 1))) 3 (corner_inside f.dims (i + 1) (j + 1) (k + 1 + 1) (omega arith) (omega arith) (omega arith)) (is_step_3 (vertex (2 * (k + 1) + 1) (2 * (j + 1) + 1) (2 * (i + 1) + 1)) (vertex (2 * (k + 1 + 1)) (2 * (j + 1)) (2 * (i + 1))) (omega arith) (omega arith) (omega arith)) ∙ corner_value f (i + 1) (j + 1) (k + 1 + 1)

  centre_4 : around f (vertex (2 * (k + 1) + 1) (2 * (j + 1) + 1) (2 * (i + 1) + 1)) 4 ≡ pos 8 *ℤ corner_difference f (i + 1 + 1) (j + 1) (k + 1 + 1)
  centre_4 = up f (vertex (2 * (k + 1) + 1) (2 * (j + 1) + 1) (2 * (i + 1) + 1)) (vertex (2 * (k + 1 + 1)) (2 * (j + 1)) (2 * (i + 1 + 1))) 4 (corner_inside f.dims (i + 1 + 1) (j + 1) (k + 1 + 1) (omega arith) (omega arith) (omega arith)) (is_step_4 (vertex (2 * (k + 1) + 1) (2 * (j + 1) + 1) (2 * (i + 1) + 1)) (vertex (2 * (k + 1 + 1)) (2 * (j + 1)) (2 * (i + 1 + 1))) (omega arith) (omega arith) (omega arith)) ∙ corner_value f (i + 1 + 1) (j + 1) (k + 1 + 1)

  centre_5 : around f (vertex (2 * (k + 1) + 1) (2 * (j + 1) + 1) (2 * (i + 1) + 1)) 5 ≡ pos 8 *ℤ corner_difference f (i + 1) (j + 1 + 1) (k + 1 + 1)
  centre_5 = up f (vertex (2 * (k + 1) + 1) (2 * (j + 1) + 1) (2 * (i + 1) + 1)) (vertex (2 * (k + 1 + 1)) (2 * (j + 1 + 1)) (2 * (i + 1))) 5 (corner_inside f.dims (i + 1) (j + 1 + 1) (k + 1 + 1) (omega arith) (omega arith) (omega arith)) (is_step_5 (vertex (2 * (k + 1) + 1) (2 * (j + 1) + 1) (2 * (i + 1) + 1)) (vertex (2 * (k + 1 + 1)) (2 * (j + 1 + 1)) (2 * (i + 1))) (omega arith) (omega arith) (omega arith)) ∙ corner_value f (i + 1) (j + 1 + 1) (k + 1 + 1)

  centre_6 : around f (vertex (2 * (k + 1) + 1) (2 * (j + 1) + 1) (2 * (i + 1) + 1)) 6 ≡ pos 8 *ℤ corner_difference f (i + 1 + 1) (j + 1 + 1) (k + 1 + 1)
  centre_6 = up f (vertex (2 * (k + 1) + 1) (2 * (j + 1) + 1) (2 * (i + 1) + 1)) (vertex (2 * (k + 1 + 1)) (2 * (j + 1 + 1)) (2 * (i + 1 + 1))) 6 (corner_inside f.dims (i + 1 + 1) (j + 1 + 1) (k + 1 + 1) (omega arith) (omega arith) (omega arith)) (is_step_6 (vertex (2 * (k + 1) + 1) (2 * (j + 1) + 1) (2 * (i + 1) + 1)) (vertex (2 * (k + 1 + 1)) (2 * (j + 1 + 1)) (2 * (i + 1 + 1))) (omega arith) (omega arith) (omega arith)) ∙ corner_value f (i + 1 + 1) (j + 1 + 1) (k + 1 + 1)

  centre_7 : around f (vertex (2 * (k + 1) + 1) (2 * (j + 1) + 1) (2 * (i + 1) + 1)) 7 ≡ cube_sum f (i + 1) (j + 1) (k + 1 + 1)
  centre_7 = up f (vertex (2 * (k + 1) + 1) (2 * (j + 1) + 1) (2 * (i + 1) + 1)) (vertex (2 * (k + 1 + 1) + 1) (2 * (j + 1) + 1) (2 * (i + 1) + 1)) 7 (centre_inside f.dims (i + 1) (j + 1) (k + 1 + 1) (omega arith) (omega arith) (omega arith)) (is_step_7 (vertex (2 * (k + 1) + 1) (2 * (j + 1) + 1) (2 * (i + 1) + 1)) (vertex (2 * (k + 1 + 1) + 1) (2 * (j + 1) + 1) (2 * (i + 1) + 1)) (omega arith) (omega arith) (omega arith)) ∙ centre_value f (i + 1) (j + 1) (k + 1 + 1)

  centre_8 : around f (vertex (2 * (k + 1) + 1) (2 * (j + 1) + 1) (2 * (i + 1) + 1)) 8 ≡ cube_sum f i (j + 1) (k + 1)
  centre_8 = down f (vertex (2 * (k + 1) + 1) (2 * (j + 1) + 1) (2 * (i + 1) + 1)) (vertex (2 * (k + 1) + 1) (2 * (j + 1) + 1) (2 * i + 1)) 1 (omega arith) (omega arith) (centre_inside f.dims i (j + 1) (k + 1) (omega arith) (omega arith) (omega arith)) (is_step_1 (vertex (2 * (k + 1) + 1) (2 * (j + 1) + 1) (2 * i + 1)) (vertex (2 * (k + 1) + 1) (2 * (j + 1) + 1) (2 * (i + 1) + 1)) (omega arith) (omega arith) (omega arith)) ∙ centre_value f i (j + 1) (k + 1)

  centre_9 : around f (vertex (2 * (k + 1) + 1) (2 * (j + 1) + 1) (2 * (i + 1) + 1)) 9 ≡ cube_sum f (i + 1) j (k + 1)
  centre_9 = down f (vertex (2 * (k + 1) + 1) (2 * (j + 1) + 1) (2 * (i + 1) + 1)) (vertex (2 * (k + 1) + 1) (2 * j + 1) (2 * (i + 1) + 1)) 2 (omega arith) (omega arith) (centre_inside f.dims (i + 1) j (k + 1) (omega arith) (omega arith) (omega arith)) (is_step_2 (vertex (2 * (k + 1) + 1) (2 * j + 1) (2 * (i + 1) + 1)) (vertex (2 * (k + 1) + 1) (2 * (j + 1) + 1) (2 * (i + 1) + 1)) (omega arith) (omega arith) (omega arith)) ∙ centre_value f (i + 1) j (k + 1)

  centre_10 : around f (vertex (2 * (k + 1) + 1) (2 * (j + 1) + 1) (2 * (i + 1) + 1)) 10 ≡ pos 8 *ℤ corner_difference f (i + 1 + 1) (j + 1 + 1) (k + 1)
  centre_10 = down f (vertex (2 * (k + 1) + 1) (2 * (j + 1) + 1) (2 * (i + 1) + 1)) (vertex (2 * (k + 1)) (2 * (j + 1 + 1)) (2 * (i + 1 + 1))) 3 (omega arith) (omega arith) (corner_inside f.dims (i + 1 + 1) (j + 1 + 1) (k + 1) (omega arith) (omega arith) (omega arith)) (is_step_3 (vertex (2 * (k + 1)) (2 * (j + 1 + 1)) (2 * (i + 1 + 1))) (vertex (2 * (k + 1) + 1) (2 * (j + 1) + 1) (2 * (i + 1) + 1)) (omega arith) (omega arith) (omega arith)) ∙ corner_value f (i + 1 + 1) (j + 1 + 1) (k + 1)

  centre_11 : around f (vertex (2 * (k + 1) + 1) (2 * (j + 1) + 1) (2 * (i + 1) + 1)) 11 ≡ pos 8 *ℤ corner_difference f (i + 1) (j + 1 + 1) (k + 1)
  centre_11 = down f (vertex (2 * (k + 1) + 1) (2 * (j + 1) + 1) (2 * (i + 1) + 1)) (vertex (2 * (k + 1)) (2 * (j + 1 + 1)) (2 * (i + 1))) 4 (omega arith) (omega arith) (corner_inside f.dims (i + 1) (j + 1 + 1) (k + 1) (omega arith) (omega arith) (omega arith)) (is_step_4 (vertex (2 * (k + 1)) (2 * (j + 1 + 1)) (2 * (i + 1))) (vertex (2 * (k + 1) + 1) (2 * (j + 1) + 1) (2 * (i + 1) + 1)) (omega arith) (omega arith) (omega arith)) ∙ corner_value f (i + 1) (j + 1 + 1) (k + 1)

  centre_12 : around f (vertex (2 * (k + 1) + 1) (2 * (j + 1) + 1) (2 * (i + 1) + 1)) 12 ≡ pos 8 *ℤ corner_difference f (i + 1 + 1) (j + 1) (k + 1)
  centre_12 = down f (vertex (2 * (k + 1) + 1) (2 * (j + 1) + 1) (2 * (i + 1) + 1)) (vertex (2 * (k + 1)) (2 * (j + 1)) (2 * (i + 1 + 1))) 5 (omega arith) (omega arith) (corner_inside f.dims (i + 1 + 1) (j + 1) (k + 1) (omega arith) (omega arith) (omega arith)) (is_step_5 (vertex (2 * (k + 1)) (2 * (j + 1)) (2 * (i + 1 + 1))) (vertex (2 * (k + 1) + 1) (2 * (j + 1) + 1) (2 * (i + 1) + 1)) (omega arith) (omega arith) (omega arith)) ∙ corner_value f (i + 1 + 1) (j + 1) (k + 1)

  centre_13 : around f (vertex (2 * (k + 1) + 1) (2 * (j + 1) + 1) (2 * (i + 1) + 1)) 13 ≡ pos 8 *ℤ corner_difference f (i + 1) (j + 1) (k + 1)
  centre_13 = down f (vertex (2 * (k + 1) + 1) (2 * (j + 1) + 1) (2 * (i + 1) + 1)) (vertex (2 * (k + 1)) (2 * (j + 1)) (2 * (i + 1))) 6 (omega arith) (omega arith) (corner_inside f.dims (i + 1) (j + 1) (k + 1) (omega arith) (omega arith) (omega arith)) (is_step_6 (vertex (2 * (k + 1)) (2 * (j + 1)) (2 * (i + 1))) (vertex (2 * (k + 1) + 1) (2 * (j + 1) + 1) (2 * (i + 1) + 1)) (omega arith) (omega arith) (omega arith)) ∙ corner_value f (i + 1) (j + 1) (k + 1)

  centre_14 : around f (vertex (2 * (k + 1) + 1) (2 * (j + 1) + 1) (2 * (i + 1) + 1)) 14 ≡ cube_sum f (i + 1) (j + 1) k
  centre_14 = down f (vertex (2 * (k + 1) + 1) (2 * (j + 1) + 1) (2 * (i + 1) + 1)) (vertex (2 * k + 1) (2 * (j + 1) + 1) (2 * (i + 1) + 1)) 7 (omega arith) (omega arith) (centre_inside f.dims (i + 1) (j + 1) k (omega arith) (omega arith) (omega arith)) (is_step_7 (vertex (2 * k + 1) (2 * (j + 1) + 1) (2 * (i + 1) + 1)) (vertex (2 * (k + 1) + 1) (2 * (j + 1) + 1) (2 * (i + 1) + 1)) (omega arith) (omega arith) (omega arith)) ∙ centre_value f (i + 1) (j + 1) k

  pub around_centre : in_order (centre_star f i j k) ≡ map (around f (vertex (2 * (k + 1) + 1) (2 * (j + 1) + 1) (2 * (i + 1) + 1))) (range_with_len 1 14)
  around_centre = λ t. sym centre_1 t ∷ sym centre_2 t ∷ sym centre_3 t ∷ sym centre_4 t ∷ sym centre_5 t ∷ sym centre_6 t ∷ sym centre_7 t ∷ sym centre_8 t ∷ sym centre_9 t ∷ sym centre_10 t ∷ sym centre_11 t ∷ sym centre_12 t ∷ sym centre_13 t ∷ sym centre_14 t ∷ []

  pub own_centre : (centre_star f i j k).own ≡ value f (vertex (2 * (k + 1) + 1) (2 * (j + 1) + 1) (2 * (i + 1) + 1))
  own_centre = sym (centre_value f (i + 1) (j + 1) (k + 1))
