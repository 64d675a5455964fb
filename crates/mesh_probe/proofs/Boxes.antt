-- A point in the box around places that are near to one another is near them.
use Rattle.std.specs.Prelude.{ℕ, zero, suc, ◌<◌, ◌≤◌, ◌==◌, Bool, true, false, not, ◌&&◌, int_lt, List, [], ◌∷◌, map, if◌then◌else◌, unsigned_abs, ◌-ℤ◌}
use Rattle.std.proofs.Common.{◌≡◌, refl, sym, subst, arith, inl, inr, ◌⊎◌}
use Rattle.std.proofs.Math.IntN.{ℤ, pos, ◌+ℤ◌, neg_ℤ}
use Rattle.std.proofs.lemmas.Int.{ints}
use Rattle.std.proofs.lemmas.Bool.{and_from, and_parts}
use lib.Signed.{◌<ℤ◌, ◌≤ℤ◌}
use Rattle.exact.proofs.IntegerOrder.{less_or_at_most}
use Rattle.definitions.specs.declared.Place.{Place}
use Rattle.definitions.specs.Vectors.{minus, place_at}
use Rattle.bcc_lattice.specs.Bounds.{IsSmallPlace}
use Rattle.determinants.specs.Bounds.{AreNear}
use Rattle.mesh_probe.specs.Boxes.{are_above, are_below, is_between, is_in_box}

-- a number is near another
abbrev AreClose : ℤ → ℤ → Type 0
AreClose q k = unsigned_abs (q -ℤ k) ≤ 12286

-- on one axis: of numbers that are near one, another that is between them is near it
between_near : (k a b c d q : ℤ) → AreClose a k → AreClose b k → AreClose c k → AreClose d k → is_between a b c d q ≡ true → AreClose q k × AreClose k q
between_near k a b c d q na nb nc nd h = go (less_or_at_most (k +ℤ pos 12286) q) (less_or_at_most q (k +ℤ neg_ℤ (pos 12286)))
  where
    below : (x k q : ℤ) → AreClose x k → (k +ℤ pos 12286) <ℤ q → int_lt x q ≡ true
    below x k q n far = grind (arith, ints)

    above : (x k q : ℤ) → AreClose x k → q <ℤ (k +ℤ neg_ℤ (pos 12286)) → int_lt q x ≡ true
    above x k q n far = grind (arith, ints)

    near : (x y : ℤ) → x ≤ℤ (y +ℤ pos 12286) → (y +ℤ neg_ℤ (pos 12286)) ≤ℤ x → AreClose x y × AreClose y x
    near x y high low = (omega (arith, ints), omega (arith, ints))

    never : (above below : Bool) → (above ≡ true) ⊎ (below ≡ true) → (not above && not below) ≡ true → ⊥
    never true below e t = cc
    never false true e t = cc
    never false false (inl e) t = cc
    never false false (inr e) t = cc

    go : ((k +ℤ pos 12286) <ℤ q) ⊎ (q ≤ℤ (k +ℤ pos 12286)) → (q <ℤ (k +ℤ neg_ℤ (pos 12286))) ⊎ ((k +ℤ neg_ℤ (pos 12286)) ≤ℤ q) → AreClose q k × AreClose k q
    go (inl far) low = absurd (never (are_above a b c d q) (are_below a b c d q) (inr (and_from _ _ (and_from _ _ (and_from _ _ (below a k q na far) (below b k q nb far)) (below c k q nc far)) (below d k q nd far))) h)
    go (inr high) (inl far) = absurd (never (are_above a b c d q) (are_below a b c d q) (inl (and_from _ _ (and_from _ _ (and_from _ _ (above a k q na far) (above b k q nb far)) (above c k q nc far)) (above d k q nd far))) h)
    go (inr high) (inr low) = near q k high low

module _ (tet : List Place) (p : Place) (near : AreNear tet) (inside : is_in_box tet p ≡ true) where
  abbrev Near : Place → Place → Type 0
  Near q r = IsSmallPlace 12286 (minus q r)

  -- the point's coordinate is between those of the places
  abbrev On : (Place → ℤ) → Bool
  On z = is_between (z (place_at tet 0)) (z (place_at tet 1)) (z (place_at tet 2)) (z (place_at tet 3)) (z p)

  point_near : (i : ℕ) → i < 4 → Near p (place_at tet i) × Near (place_at tet i) p
  point_near i h = (record { x = x.0; y = y.0; z = z.0 }, record { x = x.1; y = y.1; z = z.1 })
    where
      a : Near (place_at tet 0) (place_at tet i)
      a = near 0 i (omega arith) h

      b : Near (place_at tet 1) (place_at tet i)
      b = near 1 i (omega arith) h

      c : Near (place_at tet 2) (place_at tet i)
      c = near 2 i (omega arith) h

      d : Near (place_at tet 3) (place_at tet i)
      d = near 3 i (omega arith) h

      on_each : ((On (λ q. q.x) && On (λ q. q.y)) ≡ true) × (On (λ q. q.z) ≡ true)
      on_each = and_parts (On (λ q. q.x) && On (λ q. q.y)) (On (λ q. q.z)) inside

      on_two : (On (λ q. q.x) ≡ true) × (On (λ q. q.y) ≡ true)
      on_two = and_parts (On (λ q. q.x)) (On (λ q. q.y)) on_each.0

      x : AreClose p.x (place_at tet i).x × AreClose (place_at tet i).x p.x
      x = between_near (place_at tet i).x (place_at tet 0).x (place_at tet 1).x (place_at tet 2).x (place_at tet 3).x p.x a.x b.x c.x d.x on_two.0

      y : AreClose p.y (place_at tet i).y × AreClose (place_at tet i).y p.y
      y = between_near (place_at tet i).y (place_at tet 0).y (place_at tet 1).y (place_at tet 2).y (place_at tet 3).y p.y a.y b.y c.y d.y on_two.1

      z : AreClose p.z (place_at tet i).z × AreClose (place_at tet i).z p.z
      z = between_near (place_at tet i).z (place_at tet 0).z (place_at tet 1).z (place_at tet 2).z (place_at tet 3).z p.z a.z b.z c.z d.z on_each.1

  itself : (q : Place) → Near q q
  itself q = record { x = none q.x; y = none q.y; z = none q.z }
    where
      none : (z : ℤ) → AreClose z z
      none z = omega (arith, ints)

  -- the places with the point in place of one of them
  abbrev replaced : ℕ → List Place
  replaced k = map (λ j. if j == k then p else place_at tet j) (0 ∷ 1 ∷ 2 ∷ 3 ∷ [])

  at_place : (k i : ℕ) → i < 4 → place_at (replaced k) i ≡ (if i == k then p else place_at tet i)
  at_place k zero h = refl
  at_place k (suc zero) h = refl
  at_place k (suc (suc zero)) h = refl
  at_place k (suc (suc (suc zero))) h = refl
  at_place k (suc (suc (suc (suc i)))) h = absurd (omega arith)

  pub replaced_near : (k : ℕ) → AreNear (replaced k)
  replaced_near k i j hi hj = subst (λ q. Near q (place_at (replaced k) j)) (sym (at_place k i hi)) (subst (λ r. Near (if i == k then p else place_at tet i) r) (sym (at_place k j hj)) (go (i == k) (j == k)))
    where
      go : (a b : Bool) → Near (if a then p else place_at tet i) (if b then p else place_at tet j)
      go true true = itself p
      go true false = (point_near j hj).0
      go false true = (point_near i hi).1
      go false false = near i j hi hj
