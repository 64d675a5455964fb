-- The nodes of the pieces of a lattice tetrahedron stand near its lowest vertex.
use Rattle.std.specs.Prelude.{ℕ, zero, suc, ◌+◌, ◌<◌, ◌≤◌, ◌&&◌, true, List, length, ◌-ℤ◌}
use Rattle.std.proofs.Common.{◌≡◌, arith}
use Rattle.std.proofs.Math.IntN.{ℤ, pos, ◌+ℤ◌, ◌*ℤ◌}
use Rattle.std.proofs.lemmas.Bool.Decides.{nat_tests}
use Rattle.std.proofs.lemmas.Int.{ints}
use Rattle.std.proofs.lemmas.Bool.{and_from}
use lib.Signed.{◌≤ℤ◌}
use borrow.Author.Differences.{at_most_in}
use Rattle.definitions.specs.declared.Dims.{Dims}
use Rattle.definitions.specs.declared.Vertex.{Vertex}
use Rattle.definitions.specs.declared.Place.{Place}
use Rattle.definitions.specs.Lattice.{are_neighbours, before, vertex}
use Rattle.definitions.specs.Pieces.{slot}
use Rattle.definitions.specs.Tetrahedra.{IsLatticeTet}
use Rattle.near_laws.proofs.Spans.{StandsAmong}
use Rattle.mesh_probe.specs.Near.{Reaches, IsNear}

-- where a vertex of a lattice tetrahedron stands from the lowest one
record StandsFrom (v w : Vertex) : Type 0 where
  h_low : v.h ≤ w.h
  h_high : w.h ≤ v.h + 2
  y_low : v.y ≤ w.y + 1
  y_high : w.y ≤ v.y + 2
  x_low : v.x ≤ w.x + 1
  x_high : w.x ≤ v.x + 2

later_stands : (v w : Vertex) → (before v w && are_neighbours v w) ≡ true → StandsFrom v w
later_stands v w e = record {
  h_low = grind (arith, nat_tests);
  h_high = grind (arith, nat_tests);
  y_low = grind (arith, nat_tests);
  y_high = grind (arith, nat_tests);
  x_low = grind (arith, nat_tests);
  x_high = grind (arith, nat_tests);
}

stands_itself : (v : Vertex) → StandsFrom v v
stands_itself v = record { h_low = omega arith; h_high = omega arith; y_low = omega arith; y_high = omega arith; x_low = omega arith; x_high = omega arith }

-- a coordinate that is not above one vertex and not below another by more than 2,047
reaches : (down at upper lower : ℕ) (z : ℤ) → upper ≤ at + 2 → at ≤ lower + down → z ≤ℤ (((pos upper -ℤ pos 2) *ℤ pos 4096) +ℤ pos 2047) → ((pos lower -ℤ pos 2) *ℤ pos 4096) ≤ℤ (z +ℤ pos 2047) → Reaches down at z
reaches down at upper lower z hu hl below above = (at_most_in _ _ (omega (arith, ints)), at_most_in _ _ (omega (arith, ints)))

module _ (d : Dims) (tet : List Vertex) (t : IsLatticeTet d tet) where
  stands : (j : ℕ) → j < 4 → StandsFrom (slot tet 0) (slot tet j)
  stands zero h = stands_itself (slot tet 0)
  stands (suc j) h =
      let four = t.four in
      let lt : suc j < length tet = omega arith in
      later_stands (slot tet 0) (slot tet (suc j)) (and_from (before (slot tet 0) (slot tet (suc j))) (are_neighbours (slot tet 0) (slot tet (suc j))) (t.ordered 0 (suc j) (vertex 0 0 0) (omega arith) lt) (t.neighbours 0 (suc j) (vertex 0 0 0) (omega arith) lt))

  pub near_lowest : (p : Place) → StandsAmong tet p → IsNear (slot tet 0) p
  near_lowest p s = record {
    x = reaches 1 (slot tet 0).x (slot tet s.x.upper).x (slot tet s.x.lower).x p.x (stands s.x.upper s.x.upper_slot).x_high (stands s.x.lower s.x.lower_slot).x_low s.x.below s.x.above;
    y = reaches 1 (slot tet 0).y (slot tet s.y.upper).y (slot tet s.y.lower).y p.y (stands s.y.upper s.y.upper_slot).y_high (stands s.y.lower s.y.lower_slot).y_low s.y.below s.y.above;
    z = reaches 0 (slot tet 0).h (slot tet s.z.upper).h (slot tet s.z.lower).h p.z (stands s.z.upper s.z.upper_slot).h_high (more (slot tet 0).h (slot tet s.z.lower).h (stands s.z.lower s.z.lower_slot).h_low) s.z.below s.z.above;
  }
    where
      more : (m n : ℕ) → m ≤ n → m ≤ n + 0
      more m n h = omega arith
