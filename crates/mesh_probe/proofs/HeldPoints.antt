-- Where a point that a tetrahedron holds stands: in the box around its nodes, and near where these are near.
use Rattle.std.specs.Prelude.{ℕ, ◌+◌, ◌*◌, ◌<◌, List}
use Rattle.std.proofs.Common.{◌≡◌, true, subst, arith}
use Rattle.std.proofs.Math.IntN.{ℤ, pos, ◌+ℤ◌, ◌*ℤ◌, neg_ℤ}
use Rattle.std.proofs.lemmas.Int.{ints}
use Rattle.std.proofs.lemmas.Bool.{and_from}
use lib.Signed.{◌<ℤ◌, ◌≤ℤ◌}
use borrow.Author.Differences.{at_most_in}
use Rattle.definitions.specs.declared.Vertex.{Vertex}
use Rattle.definitions.specs.declared.Place.{Place}
use Rattle.definitions.specs.Vectors.{det, place_at}
use Rattle.lattice_laws.proofs.Volumes.{det_by_rows}
use Rattle.triangle_laws.specs.Overlap.{volume_of}
use Rattle.mesh_probe.specs.Boxes.{is_in_box}
use Rattle.mesh_probe.specs.Holding.{Holds}
use Rattle.mesh_probe.specs.Near.{Reaches, IsNear}
use Rattle.mesh_probe.proofs.Averages.{IsAverage, average_between, lower, upper}
use Rattle.mesh_probe.proofs.WeightSums.{weights_add_up, weights_give_x, weights_give_y, weights_give_z}

-- an average reaches where all that is averaged does
average_reaches : (down at : ℕ) (k l m n q : ℤ) → IsAverage k l m n q → Reaches down at k → Reaches down at l → Reaches down at m → Reaches down at n → Reaches down at q
average_reaches down at k l m n q w rk rl rm rn =
    (back q (lower k l m n q (pos (4096 * at) +ℤ neg_ℤ (pos (10239 + 4096 * down))) w (less k rk.0) (less l rl.0) (less m rm.0) (less n rn.0)), upper k l m n q (pos (4096 * at + 2047)) w rk.1 rl.1 rm.1 rn.1)
  where
    less : (v : ℤ) → pos (4096 * at) ≤ℤ (v +ℤ pos (10239 + 4096 * down)) → (pos (4096 * at) +ℤ neg_ℤ (pos (10239 + 4096 * down))) ≤ℤ v
    less v h = at_most_in _ _ (omega (arith, ints))

    back : (v : ℤ) → (pos (4096 * at) +ℤ neg_ℤ (pos (10239 + 4096 * down))) ≤ℤ v → pos (4096 * at) ≤ℤ (v +ℤ pos (10239 + 4096 * down))
    back v h = at_most_in _ _ (omega (arith, ints))

module _ (tet : List Place) (p : Place) (positive : pos 0 <ℤ det tet) (h : Holds tet p) where
  -- the nodes
  abbrev a : Place
  a = place_at tet 0

  abbrev b : Place
  b = place_at tet 1

  abbrev c : Place
  c = place_at tet 2

  abbrev d : Place
  d = place_at tet 3

  average : (k l m n q : ℤ) → volume_of p b c d *ℤ k +ℤ volume_of a p c d *ℤ l +ℤ volume_of a b p d *ℤ m +ℤ volume_of a b c p *ℤ n ≡ volume_of a b c d *ℤ q → IsAverage k l m n q
  average k l m n q e = record {
    a = volume_of p b c d;
    b = volume_of a p c d;
    c = volume_of a b p d;
    d = volume_of a b c p;
    all = volume_of a b c d;
    a_low = subst (λ (t : ℤ). pos 0 ≤ℤ t) (det_by_rows p b c d) (h 0 (omega arith));
    b_low = subst (λ (t : ℤ). pos 0 ≤ℤ t) (det_by_rows a p c d) (h 1 (omega arith));
    c_low = subst (λ (t : ℤ). pos 0 ≤ℤ t) (det_by_rows a b p d) (h 2 (omega arith));
    d_low = subst (λ (t : ℤ). pos 0 ≤ℤ t) (det_by_rows a b c p) (h 3 (omega arith));
    positive = subst (λ (t : ℤ). pos 0 <ℤ t) (det_by_rows a b c d) positive;
    sum = weights_add_up a b c d p;
    place = e;
  }

  x_average : IsAverage a.x b.x c.x d.x p.x
  x_average = average a.x b.x c.x d.x p.x (weights_give_x a b c d p)

  y_average : IsAverage a.y b.y c.y d.y p.y
  y_average = average a.y b.y c.y d.y p.y (weights_give_y a b c d p)

  z_average : IsAverage a.z b.z c.z d.z p.z
  z_average = average a.z b.z c.z d.z p.z (weights_give_z a b c d p)

  pub held_in_box : is_in_box tet p ≡ true
  held_in_box =
      and_from _ _ (and_from _ _ (average_between a.x b.x c.x d.x p.x x_average) (average_between a.y b.y c.y d.y p.y y_average)) (average_between a.z b.z c.z d.z p.z z_average)

  pub held_near : (v : Vertex) → ((i : ℕ) → i < 4 → IsNear v (place_at tet i)) → IsNear v p
  held_near v near =
      let na = near 0 (omega arith) in
      let nb = near 1 (omega arith) in
      let nc = near 2 (omega arith) in
      let nd = near 3 (omega arith) in
      record {
        x = average_reaches 1 v.x a.x b.x c.x d.x p.x x_average na.x nb.x nc.x nd.x;
        y = average_reaches 1 v.y a.y b.y c.y d.y p.y y_average na.y nb.y nc.y nd.y;
        z = average_reaches 0 v.h a.z b.z c.z d.z p.z z_average na.z nb.z nc.z nd.z;
      }
