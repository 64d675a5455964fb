-- The moved map of the infinite lattice is one to one, and two moved lattice tetrahedra meet in their common vertices alone.
use Rattle.std.proofs.Common.{◌≡◌, ℕ, zero, suc, ◌+◌, ◌*◌, ◌<◌, ◌≤◌, List, [], ◌∷◌, ◌++◌, refl, sym, ap, ◌∙◌, arith, inl, inr, ◌⊎◌}
use Rattle.std.proofs.Math.IntN.{ℤ, pos, negsuc, ◌+ℤ◌, ◌*ℤ◌, neg_ℤ, nat_abs}
use Rattle.std.proofs.Math.Nat.{mul-le-mul_right}
use Rattle.std.proofs.lemmas.Int.{ints}
use lib.Signed.{◌<ℤ◌}
use Rattle.exact.specs.Polynomials.{variable, constant, plus, times}
use Rattle.exact.proofs.Ring.{ring}
use Rattle.exact.proofs.IntegerLaws.{zero_mul}
use Rattle.lattice_laws.specs.Vectors.{Vector, vector, ◌+ᵥ◌, ◌-ᵥ◌, ◌*ᵥ◌, norm}
use Rattle.lattice_laws.specs.Kinds.{Kind, kind_146, kind_256, kind_347, kind_357, kind_467, kind_567, Slot, slot_0, slot_1, slot_2, slot_3}
use Rattle.moved_lattice.specs.Duals.{dual}
use Rattle.definitions.specs.Vectors.{dot}
use Rattle.moved_lattice.specs.WeightedSums.{AreSmall, total_weight, sum4, combination, IsLattice, vertex_of, as_integers, Matches, moved_place}
use Rattle.moved_lattice.proofs.LatticeVertices.{vertex_is_lattice}
use Rattle.moved_lattice.proofs.CommonPoint.{weights_match}
use Rattle.moved_lattice.proofs.Norms.{norm_flip}
use Rattle.moved_lattice.proofs.ShortSegments.{Close, moved_by, norm_of_difference}
use Rattle.moved_lattice.proofs.Segments.{Plane, LiesBetween, contracts}
use Rattle.lattice_laws.specs.Ascending.{Has}
use Rattle.lattice_laws.proofs.Members.{has_append_left, has_append_right}

abbrev plane : Kind → Slot → ℤ → Plane
plane κ s m = record { kind = κ; slot = s; at = m }

-- the planes of one form up to a number, on both sides
abbrev upto : Kind → Slot → ℕ → List Plane
upto κ s zero = plane κ s (pos 0) ∷ []
upto κ s (suc n) = plane κ s (pos (suc n)) ∷ plane κ s (negsuc n) ∷ upto κ s n

in_upto : (κ : Kind) (s : Slot) (m : ℤ) (n : ℕ) → nat_abs m ≤ n → Has (plane κ s m) (upto κ s n)
in_upto κ s (pos a) zero h = inl (ap (λ t. plane κ s (pos t)) (let e : 0 ≡ a = omega arith in e))
in_upto κ s (negsuc a) zero h = absurd (omega arith)
in_upto κ s m (suc n) h = go m h (in_upto κ s m n)
  where
    here : (a b : ℕ) → a ≤ suc b → (a ≡ suc b) ⊎ (a ≤ b)
    here a b h = grind arith

    go : (m : ℤ) → nat_abs m ≤ suc n → (nat_abs m ≤ n → Has (plane κ s m) (upto κ s n)) → Has (plane κ s m) (upto κ s (suc n))
    go (pos a) h ih = split (here a n h)
      where
        split : (a ≡ suc n) ⊎ (a ≤ n) → Has (plane κ s (pos a)) (upto κ s (suc n))
        split (inl e) = inl (ap (λ t. plane κ s (pos t)) (sym e))
        split (inr i) = inr (inr (ih i))
    go (negsuc a) h ih = split (here (suc a) n h)
      where
        split : (suc a ≡ suc n) ⊎ (suc a ≤ n) → Has (plane κ s (negsuc a)) (upto κ s (suc n))
        split (inl e) = inr (inl (ap (λ t. plane κ s (negsuc t)) (let f : n ≡ a = omega arith in f)))
        split (inr i) = inr (inr (ih i))

abbrev reach : Kind → Slot → Vector → Vector → ℕ
reach κ s p q = nat_abs (dot (dual κ s) p) + nat_abs (dot (dual κ s) q)

abbrev of_slot : Kind → Slot → Vector → Vector → List Plane
of_slot κ s p q = upto κ s (reach κ s p q)

abbrev of_kind : Kind → Vector → Vector → List Plane
of_kind κ p q = of_slot κ slot_0 p q ++ (of_slot κ slot_1 p q ++ (of_slot κ slot_2 p q ++ of_slot κ slot_3 p q))

abbrev planes : Vector → Vector → List Plane
planes p q = of_kind kind_146 p q ++ (of_kind kind_256 p q ++ (of_kind kind_347 p q ++ (of_kind kind_357 p q ++ (of_kind kind_467 p q ++ of_kind kind_567 p q))))

in_kind : (x : Plane) (κ : Kind) (s : Slot) (p q : Vector) → Has x (of_slot κ s p q) → Has x (of_kind κ p q)
in_kind x κ slot_0 p q i = has_append_left x (of_slot κ slot_0 p q) _ i
in_kind x κ slot_1 p q i = has_append_right x (of_slot κ slot_0 p q) _ (has_append_left x (of_slot κ slot_1 p q) _ i)
in_kind x κ slot_2 p q i = has_append_right x (of_slot κ slot_0 p q) _ (has_append_right x (of_slot κ slot_1 p q) _ (has_append_left x (of_slot κ slot_2 p q) _ i))
in_kind x κ slot_3 p q i = has_append_right x (of_slot κ slot_0 p q) _ (has_append_right x (of_slot κ slot_1 p q) _ (has_append_right x (of_slot κ slot_2 p q) _ i))

in_planes : (x : Plane) (κ : Kind) (p q : Vector) → Has x (of_kind κ p q) → Has x (planes p q)
in_planes x kind_146 p q i = has_append_left x (of_kind kind_146 p q) _ i
in_planes x kind_256 p q i = has_append_right x (of_kind kind_146 p q) _ (has_append_left x (of_kind kind_256 p q) _ i)
in_planes x kind_347 p q i = has_append_right x (of_kind kind_146 p q) _ (has_append_right x (of_kind kind_256 p q) _ (has_append_left x (of_kind kind_347 p q) _ i))
in_planes x kind_357 p q i = has_append_right x (of_kind kind_146 p q) _ (has_append_right x (of_kind kind_256 p q) _ (has_append_right x (of_kind kind_347 p q) _ (has_append_left x (of_kind kind_357 p q) _ i)))
in_planes x kind_467 p q i = has_append_right x (of_kind kind_146 p q) _ (has_append_right x (of_kind kind_256 p q) _ (has_append_right x (of_kind kind_347 p q) _ (has_append_right x (of_kind kind_357 p q) _ (has_append_left x (of_kind kind_467 p q) _ i))))
in_planes x kind_567 p q i = has_append_right x (of_kind kind_146 p q) _ (has_append_right x (of_kind kind_256 p q) _ (has_append_right x (of_kind kind_347 p q) _ (has_append_right x (of_kind kind_357 p q) _ (has_append_right x (of_kind kind_467 p q) _ i))))

-- a plane between two points is one of these
within_reach : (a c m : ℤ) (n : ℕ) → 0 < n → a <ℤ (pos (2 * n) *ℤ m) → (pos (2 * n) *ℤ m) <ℤ c → nat_abs m ≤ nat_abs a + nat_abs c
within_reach a c (pos m) n h i j =
    let f : 1 * m ≤ (2 * n) * m = mul-le-mul_right m (omega arith) in
    omega (arith, ints)
within_reach a c (negsuc m) n h i j =
    let f : 1 * suc m ≤ (2 * n) * suc m = mul-le-mul_right (suc m) (omega arith) in
    omega (arith, ints)

all_between : (p q : Vector) (n : ℕ) → 0 < n → (x : Plane) → LiesBetween x p q n → Has x (planes p q)
all_between p q n h x i = in_planes x x.kind p q (in_kind x x.kind x.slot p q (in_upto x.kind x.slot x.at _ (go i)))
  where
    go : LiesBetween x p q n → nat_abs x.at ≤ reach x.kind x.slot p q
    go (inl s) = within_reach _ _ x.at n h s.0 s.1
    go (inr s) = let f = within_reach _ _ x.at n h s.0 s.1 in omega arith

-- ---- the moved place of a point, over 4096 times its whole

moved_place_is : (d : Vector → Vector) (b : Vector) (κ : Kind) (w : Slot → ℕ) → moved_place d b κ w ≡ pos 4096 *ᵥ combination (as_integers w) (vertex_of b κ) +ᵥ moved_by d b κ w
moved_place_is d b κ w = λ i. vector (go (λ s. (vertex_of b κ s).x) (λ s. (d (vertex_of b κ s)).x) i) (go (λ s. (vertex_of b κ s).y) (λ s. (d (vertex_of b κ s)).y) i) (go (λ s. (vertex_of b κ s).z) (λ s. (d (vertex_of b κ s)).z) i)
  where
    go : (f g : Slot → ℤ) → sum4 (λ j. pos (w j) *ℤ (pos 4096 *ℤ f j +ℤ g j)) ≡ pos 4096 *ℤ sum4 (λ j. pos (w j) *ℤ f j) +ℤ sum4 (λ j. pos (w j) *ℤ g j)
    go f g = ring (pos (w slot_0) ∷ pos (w slot_1) ∷ pos (w slot_2) ∷ pos (w slot_3) ∷ f slot_0 ∷ f slot_1 ∷ f slot_2 ∷ f slot_3 ∷ g slot_0 ∷ g slot_1 ∷ g slot_2 ∷ g slot_3 ∷ [])
        (plus (plus (plus (times (variable 0) (plus (times (constant (pos 4096)) (variable 4)) (variable 8))) (times (variable 1) (plus (times (constant (pos 4096)) (variable 5)) (variable 9)))) (times (variable 2) (plus (times (constant (pos 4096)) (variable 6)) (variable 10)))) (times (variable 3) (plus (times (constant (pos 4096)) (variable 7)) (variable 11))))
        (plus (times (constant (pos 4096)) (plus (plus (plus (times (variable 0) (variable 4)) (times (variable 1) (variable 5))) (times (variable 2) (variable 6))) (times (variable 3) (variable 7)))) (plus (plus (plus (times (variable 0) (variable 8)) (times (variable 1) (variable 9))) (times (variable 2) (variable 10))) (times (variable 3) (variable 11)))) refl

no_distance : (p q : Vector) → norm (p -ᵥ q) ≡ 0 → p ≡ q
no_distance p q e = λ i. vector (go p.x q.x (omega arith) i) (go p.y q.y (omega arith) i) (go p.z q.z (omega arith) i)
  where
    go : (a b : ℤ) → nat_abs (a +ℤ neg_ℤ b) ≡ 0 → a ≡ b
    go a b h = omega (arith, ints)

-- equal moved places of close points
same_point : (p q u u' : Vector) → pos 4096 *ᵥ p +ᵥ u ≡ pos 4096 *ᵥ q +ᵥ u' → Close p u q u' → p ≡ q
same_point p q u u' e h =
    let f : pos 4096 *ᵥ p -ᵥ pos 4096 *ᵥ q ≡ u' -ᵥ u = λ i. vector (go (pos 4096 *ℤ p.x) (pos 4096 *ℤ q.x) u.x u'.x (ap (λ (t : Vector). t.x) e) i) (go (pos 4096 *ℤ p.y) (pos 4096 *ℤ q.y) u.y u'.y (ap (λ (t : Vector). t.y) e) i) (go (pos 4096 *ℤ p.z) (pos 4096 *ℤ q.z) u.z u'.z (ap (λ (t : Vector). t.z) e) i) in
    no_distance p q (has_none _ _ _ _ (ap norm f) (norm_of_difference 4096 p q) (norm_flip u' u) h)
  where
    go : (a b c e : ℤ) → a +ℤ c ≡ b +ℤ e → a +ℤ neg_ℤ b ≡ e +ℤ neg_ℤ c
    go a b c e h = omega (arith, ints)

    has_none : (x m c f : ℕ) → x ≡ m → x ≡ 4096 * c → m ≡ f → f ≤ 4094 * c → c ≡ 0
    has_none x m c f h i j l = omega arith

zero_case : (b : Vector) (κ : Kind) (w : Slot → ℕ) (b' : Vector) (κ' : Kind) (w' : Slot → ℕ) → total_weight w ≡ 0 → total_weight w' ≡ 0 → combination (as_integers w) (vertex_of b κ) ≡ combination (as_integers w') (vertex_of b' κ')
zero_case b κ w b' κ' w' e f = no_sum w (vertex_of b κ) e ∙ sym (no_sum w' (vertex_of b' κ') f)
  where
    no_weight : (a b c d : ℕ) → a + b + c + d ≡ 0 → (a ≡ 0) × (b ≡ 0) × (c ≡ 0) × (d ≡ 0)
    no_weight a b c d h = omega arith

    no_sum : (w : Slot → ℕ) (q : Slot → Vector) → total_weight w ≡ 0 → combination (as_integers w) q ≡ vector (pos 0) (pos 0) (pos 0)
    no_sum w q h =
        let z = no_weight (w slot_0) (w slot_1) (w slot_2) (w slot_3) h in
        λ i. vector (go (λ s. (q s).x) z i) (go (λ s. (q s).y) z i) (go (λ s. (q s).z) z i)
      where
        go : (f : Slot → ℤ) → (w slot_0 ≡ 0) × (w slot_1 ≡ 0) × (w slot_2 ≡ 0) × (w slot_3 ≡ 0) → sum4 (λ j. pos (w j) *ℤ f j) ≡ pos 0
        go f z = (λ i. pos (z.0 i) *ℤ f slot_0 +ℤ pos (z.1 i) *ℤ f slot_1 +ℤ pos (z.2 i) *ℤ f slot_2 +ℤ pos (z.3 i) *ℤ f slot_3) ∙ (λ i. zero_mul (f slot_0) i +ℤ zero_mul (f slot_1) i +ℤ zero_mul (f slot_2) i +ℤ zero_mul (f slot_3) i)

-- the moved map is one to one
pub one_to_one : (d : Vector → Vector) → AreSmall d → (b : Vector) (κ : Kind) (w : Slot → ℕ) (b' : Vector) (κ' : Kind) (w' : Slot → ℕ) → IsLattice b → IsLattice b'
    → total_weight w ≡ total_weight w' → moved_place d b κ w ≡ moved_place d b' κ' w' → combination (as_integers w) (vertex_of b κ) ≡ combination (as_integers w') (vertex_of b' κ')
one_to_one d small b κ w b' κ' w' lb lb' total e = go (total_weight w) refl
  where
    go : (n : ℕ) → total_weight w ≡ n → combination (as_integers w) (vertex_of b κ) ≡ combination (as_integers w') (vertex_of b' κ')
    go zero z = zero_case b κ w b' κ' w' z (sym total ∙ z)
    go (suc n) z = same_point (combination (as_integers w) (vertex_of b κ)) (combination (as_integers w') (vertex_of b' κ')) (moved_by d b κ w) (moved_by d b' κ' w') (sym (moved_place_is d b κ w) ∙ e ∙ moved_place_is d b' κ' w')
        (contracts d small (planes (combination (as_integers w) (vertex_of b κ)) (combination (as_integers w') (vertex_of b' κ'))) b κ w b' κ' w' (combination (as_integers w) (vertex_of b κ)) (combination (as_integers w') (vertex_of b' κ')) (suc n) (omega arith) lb lb'
        record { total = z; place = refl } record { total = sym total ∙ z; place = refl } (all_between (combination (as_integers w) (vertex_of b κ)) (combination (as_integers w') (vertex_of b' κ')) (suc n) (omega arith)))

-- two moved lattice tetrahedra meet: equal moved places have equal weights, a vertex of one alone having none
pub moved_meet : (d : Vector → Vector) → AreSmall d → (b : Vector) (κ : Kind) (w : Slot → ℕ) (b' : Vector) (κ' : Kind) (w' : Slot → ℕ) → IsLattice b → IsLattice b'
    → total_weight w ≡ total_weight w' → moved_place d b κ w ≡ moved_place d b' κ' w' → (i : Slot) → Matches w κ' b' w' (vertex_of b κ i) (w i)
moved_meet d small b κ w b' κ' w' lb lb' total e i =
    weights_match b κ w b' κ' w' (combination (as_integers w) (vertex_of b κ)) (total_weight w) (λ s. vertex_is_lattice b κ s lb) lb'
    record { total = refl; place = refl } record { total = sym total; place = sym (one_to_one d small b κ w b' κ' w' lb lb' total e) } i
