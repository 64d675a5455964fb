-- A tetrahedron that stands a step away from another: its directions, volumes and pieces are the same.
use Rattle.std.proofs.Common.{◌≡◌, ℕ, ◌+◌, ◌*◌, ◌<◌, Bool, true, false, ◌&&◌, nat_lt, nat_eq, List, [], ◌∷◌, map, if◌then◌else◌, ap, arith}
use Rattle.std.specs.Prelude.{int_lt, unwrap_or, drop, ◌-ℤ◌}
use Rattle.std.specs.List.{position_from}
use Rattle.std.specs.Ordering.{int_eq}
use Rattle.std.proofs.Math.IntN.{ℤ, pos, ◌+ℤ◌}
use Rattle.std.proofs.lemmas.Int.{ints}
use Rattle.std.proofs.lemmas.Bool.{ltb-true, and_parts}
use Rattle.std.proofs.lemmas.Bool.Decides.{nat_tests}
use Rattle.definitions.specs.declared.Vertex.{Vertex}
use Rattle.definitions.specs.declared.Corner.{Corner}
use Rattle.definitions.specs.declared.Corner.TheVariants.{Whole, Cut}
use Rattle.definitions.specs.Lattice.{direction, leads, Step, steps}
use Rattle.definitions.specs.Places.{place}
use Rattle.definitions.specs.Vectors.{minus, det, det_of}
use Rattle.definitions.specs.Pieces.{slot, middle, oriented, swap_last_two}
use Rattle.lattice_laws.specs.Vectors.{Vector, ◌+ᵥ◌, x_of, y_of, z_of}

-- ---- numbers

twice : (a b : ℕ) (s : ℤ) → pos a ≡ pos b +ℤ s → pos (2 * a) ≡ pos (2 * b) +ℤ (s +ℤ s)
twice a b s h = omega (arith, ints)

added : (a b c d : ℕ) (s : ℤ) → pos a ≡ pos b +ℤ s → pos c ≡ pos d +ℤ s → pos (a + c) ≡ pos (b + d) +ℤ (s +ℤ s)
added a b c d s h k = omega (arith, ints)

difference : (a b c d s : ℤ) → a ≡ b +ℤ s → c ≡ d +ℤ s → a -ℤ c ≡ b -ℤ d
difference a b c d s h k = omega (arith, ints)

less_same : (a b c d : ℕ) (s : ℤ) → pos a ≡ pos b +ℤ s → pos c ≡ pos d +ℤ s → nat_lt a c ≡ nat_lt b d
less_same a b c d s h k = grind (arith, nat_tests, ints)

equal_same : (a b c d : ℕ) (s : ℤ) → pos a ≡ pos b +ℤ s → pos c ≡ pos d +ℤ s → nat_eq a c ≡ nat_eq b d
equal_same a b c d s h k = grind (arith, nat_tests, ints)

leads_same : (a b c d : ℕ) (s t : ℤ) → pos a ≡ pos b +ℤ s → pos c ≡ pos d +ℤ s → int_eq (pos c) (pos a +ℤ t) ≡ int_eq (pos d) (pos b +ℤ t)
leads_same a b c d s t h k = grind (arith, nat_tests, ints)

-- ---- vertices and nodes

-- the slots of a node are slots of a tetrahedron
abbrev pub fits_slots : Corner → Bool
fits_slots (Whole a) = nat_lt a 4
fits_slots (Cut a b) = nat_lt a 4 && nat_lt b 4

abbrev pub is_four : List Corner → Bool
is_four (a ∷ b ∷ c ∷ d ∷ []) = fits_slots a && (fits_slots b && (fits_slots c && fits_slots d))
is_four p = false

-- each vertex of the one tetrahedron is a step from that of the other
pub record IsMoved (tet base : List Vertex) (s : Vector) : Type 0 where
  pub x : (n : ℕ) → n < 4 → pos (slot tet n).x ≡ pos (slot base n).x +ℤ s.x
  pub y : (n : ℕ) → n < 4 → pos (slot tet n).y ≡ pos (slot base n).y +ℤ s.y
  pub h : (n : ℕ) → n < 4 → pos (slot tet n).h ≡ pos (slot base n).h +ℤ s.z

module _ (tet base : List Vertex) (s : Vector) (m : IsMoved tet base s) where
  middle_moved : (c : Corner) → fits_slots c ≡ true → middle tet c ≡ middle base c +ᵥ (s +ᵥ s)
  middle_moved (Whole a) e =
      let l = ltb-true _ _ e in let v = slot tet a in let w = slot base a in
      λ i. place (twice v.x w.x s.x (m.x a l) i) (twice v.y w.y s.y (m.y a l) i) (twice v.h w.h s.z (m.h a l) i)
  middle_moved (Cut a b) e =
      let f = and_parts (nat_lt a 4) (nat_lt b 4) e in
      let k = ltb-true _ _ f.0 in let l = ltb-true _ _ f.1 in
      let v = slot tet a in let w = slot base a in let t = slot tet b in let u = slot base b in
      λ i. place (added v.x w.x t.x u.x s.x (m.x a k) (m.x b l) i) (added v.y w.y t.y u.y s.y (m.y a k) (m.y b l) i) (added v.h w.h t.h u.h s.z (m.h a k) (m.h b l) i)

  minus_same : (c d : Corner) → fits_slots c ≡ true → fits_slots d ≡ true → minus (middle tet c) (middle tet d) ≡ minus (middle base c) (middle base d)
  minus_same c d e f =
      let p = middle_moved c e in let q = middle_moved d f in
      λ i. place
      (difference (middle tet c).x (middle base c).x (middle tet d).x (middle base d).x (s.x +ℤ s.x) (ap x_of p) (ap x_of q) i)
      (difference (middle tet c).y (middle base c).y (middle tet d).y (middle base d).y (s.y +ℤ s.y) (ap y_of p) (ap y_of q) i)
      (difference (middle tet c).z (middle base c).z (middle tet d).z (middle base d).z (s.z +ℤ s.z) (ap z_of p) (ap z_of q) i)

  -- volumes are the same
  pub det_same : (p : List Corner) → is_four p ≡ true → det (map (middle tet) p) ≡ det (map (middle base) p)
  det_same (a ∷ b ∷ c ∷ d ∷ []) e =
      let f = and_parts (fits_slots a) _ e in let g = and_parts (fits_slots b) _ f.1 in let h = and_parts (fits_slots c) _ g.1 in
      λ i. det_of (minus_same b a g.0 f.0 i) (minus_same c a h.0 f.0 i) (minus_same d a h.1 f.0 i)
  det_same [] e = cc
  det_same (a ∷ []) e = cc
  det_same (a ∷ b ∷ []) e = cc
  det_same (a ∷ b ∷ c ∷ []) e = cc
  det_same (a ∷ b ∷ c ∷ d ∷ f ∷ p) e = cc

  pub oriented_same : (p : List Corner) → is_four p ≡ true → oriented tet p ≡ oriented base p
  unfolding oriented
  oriented_same p e = λ i. if int_lt (det_same p e i) (pos 0) then swap_last_two p else p

  -- directions are the same
  leads_at : (a b : ℕ) → a < 4 → b < 4 → (t : Step) → leads t (slot tet a) (slot tet b) ≡ leads t (slot base a) (slot base b)
  leads_at a b k l t =
      λ i. leads_same _ _ _ _ s.z t.h (m.h a k) (m.h b l) i && (leads_same _ _ _ _ s.y t.y (m.y a k) (m.y b l) i && leads_same _ _ _ _ s.x t.x (m.x a k) (m.x b l) i)

  pub direction_same : (a b : ℕ) → a < 4 → b < 4 → direction (slot tet a) (slot tet b) ≡ direction (slot base a) (slot base b)
  unfolding direction
  direction_same a b k l = λ i. unwrap_or (position_from (λ t. leads_at a b k l t i) 1 (drop 1 steps)) 0

  pub less_x : (a b : ℕ) → a < 4 → b < 4 → nat_lt (slot tet a).x (slot tet b).x ≡ nat_lt (slot base a).x (slot base b).x
  less_x a b k l = less_same _ _ _ _ s.x (m.x a k) (m.x b l)

  pub less_y : (a b : ℕ) → a < 4 → b < 4 → nat_lt (slot tet a).y (slot tet b).y ≡ nat_lt (slot base a).y (slot base b).y
  less_y a b k l = less_same _ _ _ _ s.y (m.y a k) (m.y b l)

  pub equal_y : (a b : ℕ) → a < 4 → b < 4 → nat_eq (slot tet a).y (slot tet b).y ≡ nat_eq (slot base a).y (slot base b).y
  equal_y a b k l = equal_same _ _ _ _ s.y (m.y a k) (m.y b l)

  pub equal_h : (a b : ℕ) → a < 4 → b < 4 → nat_eq (slot tet a).h (slot tet b).h ≡ nat_eq (slot base a).h (slot base b).h
  equal_h a b k l = equal_same _ _ _ _ s.z (m.h a k) (m.h b l)
