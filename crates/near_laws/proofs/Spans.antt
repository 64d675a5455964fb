-- Places between the vertices of a lattice tetrahedron, or not far beyond them.
use Rattle.std.proofs.Common.{◌≡◌, ℕ, suc, ◌+◌, ◌*◌, ◌<◌, ◌≤◌, inl, inr, arith, sym, subst, List, ℤ, pos, negsuc, ◌+ℤ◌, neg_ℤ}
use Rattle.std.specs.Prelude.{◌≤ℤ◌, ◌-ℤ◌, ◌*ℤ◌, unsigned_abs}
use Rattle.std.proofs.lemmas.Bool.{cases_lt}
use Rattle.std.proofs.lemmas.Int.{ints}
use Rattle.std.proofs.Math.Nat.{mul-le-mul_left, eq-or-lt_of_le}
use Rattle.std.proofs.Math.IntN.{pos-*ℤ-pos, negsuc-*ℤ-pos}
use Rattle.definitions.specs.declared.Dims.{Dims}
use Rattle.definitions.specs.declared.Place.{Place}
use Rattle.definitions.specs.declared.Vertex.{Vertex}
use Rattle.definitions.specs.Lattice.{Step, vertex}
use Rattle.definitions.specs.Pieces.{slot}
use Rattle.definitions.specs.Places.{along, lattice_place}
use Rattle.definitions.specs.Tetrahedra.{IsLatticeTet}
use Rattle.definitions.specs.Vectors.{minus}
use Rattle.bcc_lattice.specs.Bounds.{IsSmallPlace}
use Rattle.lattice_laws.proofs.Directions.{AreClose, neighbours_close}
use Rattle.place_laws.proofs.Between.{LeadsBy}
use Rattle.near_laws.proofs.Displacements.{StandAbout}

-- a coordinate of a vertex as one of its place
abbrev at : ℕ → ℤ
at v = (pos v -ℤ pos 2) *ℤ pos 4096

-- not above one vertex and not below another by more than 2,047, on the axis of a coordinate
pub record Spans (tet : List Vertex) (axis : Vertex → ℕ) (z : ℤ) : Type 0 where
  pub upper : ℕ
  pub upper_slot : upper < 4
  pub below : z ≤ℤ (at (axis (slot tet upper)) +ℤ pos 2047)
  pub lower : ℕ
  pub lower_slot : lower < 4
  pub above : at (axis (slot tet lower)) ≤ℤ (z +ℤ pos 2047)

-- the same on all axes
pub record StandsAmong (tet : List Vertex) (p : Place) : Type 0 where
  pub x : Spans tet (λ v. v.x) p.x
  pub y : Spans tet (λ v. v.y) p.y
  pub z : Spans tet (λ v. v.h) p.z

-- ---- places that do

pub about_slot : (tet : List Vertex) (a : ℕ) (p : Place) → a < 4 → StandAbout p (lattice_place (slot tet a)) → StandsAmong tet p
about_slot tet a p h s = record {
  x = record { upper = a; upper_slot = h; below = s.x.high; lower = a; lower_slot = h; above = s.x.low };
  y = record { upper = a; upper_slot = h; below = s.y.high; lower = a; lower_slot = h; above = s.y.low };
  z = record { upper = a; upper_slot = h; below = s.z.high; lower = a; lower_slot = h; above = s.z.low };
}

-- from v to w by so many parts of a step
forwards : (v w p q : ℕ) → pos w ≡ pos v +ℤ pos p → q ≤ p * 4096 → ((at v +ℤ pos q) ≤ℤ (at w +ℤ pos 2047)) × (at v ≤ℤ ((at v +ℤ pos q) +ℤ pos 2047))
forwards v w p q e h = (omega (arith, ints), omega (arith, ints))

backwards : (v w p q : ℕ) → pos w ≡ pos v +ℤ neg_ℤ (pos p) → q ≤ p * 4096 → ((at v +ℤ neg_ℤ (pos q)) ≤ℤ (at v +ℤ pos 2047)) × (at w ≤ℤ ((at v +ℤ neg_ℤ (pos q)) +ℤ pos 2047))
backwards v w p q e h = (omega (arith, ints), omega (arith, ints))

module _ (tet : List Vertex) (axis : Vertex → ℕ) (a b : ℕ) (ha : a < 4) (hb : b < 4) where
  on_axis : (k : ℕ) (s : ℤ) → pos (axis (slot tet b)) ≡ pos (axis (slot tet a)) +ℤ s → k ≤ 4096 → Spans tet axis (at (axis (slot tet a)) +ℤ (s *ℤ pos k))
  on_axis k (pos p) e h =
      let r = forwards (axis (slot tet a)) (axis (slot tet b)) p (p * k) e (mul-le-mul_left p h) in
      subst (λ z. Spans tet axis (at (axis (slot tet a)) +ℤ z)) (sym (pos-*ℤ-pos p k)) (record { upper = b; upper_slot = hb; below = r.0; lower = a; lower_slot = ha; above = r.1 })
  on_axis k (negsuc p) e h =
      let r = backwards (axis (slot tet a)) (axis (slot tet b)) (suc p) (suc p * k) e (mul-le-mul_left (suc p) h) in
      subst (λ z. Spans tet axis (at (axis (slot tet a)) +ℤ z)) (sym (negsuc-*ℤ-pos p k)) (record { upper = a; upper_slot = ha; below = r.0; lower = b; lower_slot = hb; above = r.1 })

pub on_edge : (tet : List Vertex) (a b k : ℕ) (s : Step) → a < 4 → b < 4 → LeadsBy (slot tet a) (slot tet b) s → k ≤ 4096 → StandsAmong tet (along (lattice_place (slot tet a)) s k)
on_edge tet a b k s ha hb l h = record {
  x = on_axis tet (λ v. v.x) a b ha hb k s.x l.x h;
  y = on_axis tet (λ v. v.y) a b ha hb k s.y l.y h;
  z = on_axis tet (λ v. v.h) a b ha hb k s.h l.h h;
}

-- ---- two such places

close_itself : (v : Vertex) → AreClose v v
close_itself v = record { by_h = record { down = omega arith; up = omega arith }; by_y = record { down = omega arith; up = omega arith }; by_x = record { down = omega arith; up = omega arith } }

turned : (u v : Vertex) → AreClose u v → AreClose v u
turned u v c = record {
  by_h = record { down = c.by_h.up; up = c.by_h.down };
  by_y = record { down = c.by_y.up; up = c.by_y.down };
  by_x = record { down = c.by_x.up; up = c.by_x.down };
}

module _ (d : Dims) (tet : List Vertex) (t : IsLatticeTet d tet) where
  slots_close : (i j : ℕ) → i < 4 → j < 4 → AreClose (slot tet i) (slot tet j)
  slots_close i j hi hj = elim (cases_lt i j) [
    | inl lt ↦ neighbours_close (slot tet i) (slot tet j) (t.neighbours i j (vertex 0 0 0) lt (let e = t.four in omega arith))
    | inr ge ↦ elim (eq-or-lt_of_le ge) [
      | inl e ↦ subst (λ n. AreClose (slot tet n) (slot tet j)) e (close_itself (slot tet j))
      | inr lt ↦ turned (slot tet j) (slot tet i) (neighbours_close (slot tet j) (slot tet i) (t.neighbours j i (vertex 0 0 0) lt (let e = t.four in omega arith)))
    ]
  ]

  abbrev OnAxis : (Vertex → ℕ) → Type 0
  OnAxis axis = (i j : ℕ) → i < 4 → j < 4 → axis (slot tet i) ≤ axis (slot tet j) + 2

  difference : (axis : Vertex → ℕ) (z w : ℤ) → OnAxis axis → Spans tet axis z → Spans tet axis w → unsigned_abs (z -ℤ w) ≤ 12286
  difference axis z w c s r =
      within (z -ℤ w)
      (most (axis (slot tet s.upper)) (axis (slot tet r.lower)) z w (c s.upper r.lower s.upper_slot r.lower_slot) s.below r.above)
      (least (axis (slot tet r.upper)) (axis (slot tet s.lower)) z w (c r.upper s.lower r.upper_slot s.lower_slot) r.below s.above)
    where
      most : (u l : ℕ) (z w : ℤ) → u ≤ l + 2 → z ≤ℤ (at u +ℤ pos 2047) → at l ≤ℤ (w +ℤ pos 2047) → (z -ℤ w) ≤ℤ pos 12286
      most u l z w h p q = omega (arith, ints)

      least : (u l : ℕ) (z w : ℤ) → u ≤ l + 2 → w ≤ℤ (at u +ℤ pos 2047) → at l ≤ℤ (z +ℤ pos 2047) → neg_ℤ (pos 12286) ≤ℤ (z -ℤ w)
      least u l z w h p q = omega (arith, ints)

      within : (z : ℤ) → z ≤ℤ pos 12286 → neg_ℤ (pos 12286) ≤ℤ z → unsigned_abs z ≤ 12286
      within (pos n) h k = omega (arith, ints)
      within (negsuc n) h k = omega (arith, ints)

  pub among_within : (p q : Place) → StandsAmong tet p → StandsAmong tet q → IsSmallPlace 12286 (minus p q)
  among_within p q s r = record {
    x = difference (λ v. v.x) p.x q.x (λ i j hi hj. (slots_close i j hi hj).by_x.down) s.x r.x;
    y = difference (λ v. v.y) p.y q.y (λ i j hi hj. (slots_close i j hi hj).by_y.down) s.y r.y;
    z = difference (λ v. v.h) p.z q.z (λ i j hi hj. (slots_close i j hi hj).by_h.down) s.z r.z;
  }
