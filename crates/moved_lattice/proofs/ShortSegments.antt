-- Two points with no plane of the lattice strictly between them contract: each of the two is in tetrahedra that share one with the other.
use Rattle.std.proofs.Common.{◌≡◌, ℕ, ◌*◌, ◌<◌, ◌≤◌, [], ◌∷◌, refl, sym, ap, subst, ◌∙◌, arith, inl, inr, ◌⊎◌}
use Rattle.std.proofs.Math.IntN.{ℤ, pos, ◌+ℤ◌, ◌*ℤ◌, neg_ℤ}
use Rattle.std.proofs.lemmas.Int.{ints}
use lib.Signed.{◌<ℤ◌, ◌≤ℤ◌}
use borrow.Author.Differences.{below_in}
use Rattle.exact.proofs.IntegerLaws.{zero_mul}
use Rattle.exact.specs.Polynomials.{Expression, variable, constant, plus, times, negate}
use Rattle.exact.proofs.Ring.{ring}
use Rattle.lattice_laws.specs.Vectors.{Vector, vector, ◌+ᵥ◌, ◌-ᵥ◌, ◌*ᵥ◌, norm}
use Rattle.lattice_laws.specs.Kinds.{Kind, Slot, slot_0, slot_1, slot_2, slot_3, offset}
use Rattle.moved_lattice.specs.Duals.{dual}
use Rattle.definitions.specs.Vectors.{dot}
use Rattle.moved_lattice.specs.WeightedSums.{AreSmall, total_weight, sum4, combination, IsLattice, vertex_of, as_integers, Holds, scaled_by}
use Rattle.moved_lattice.proofs.Contraction.{contraction}
use Rattle.moved_lattice.proofs.CommonSums.{sums_agree}
use Rattle.moved_lattice.proofs.LatticeVertices.{vertex_is_lattice}
use Rattle.moved_lattice.proofs.PointForms.{first_slot_alone, form_at, weights, holds_by_forms}
use Rattle.moved_lattice.proofs.Cells.{Located}
use Rattle.moved_lattice.proofs.Locate.{locate}
use Rattle.exact.proofs.IntegerOrder.{less_or_at_most}
use Rattle.moved_lattice.proofs.Norms.{norm_scale}

-- the displacement of a point: the weighted sum of those of its vertices
abbrev pub moved_by : (Vector → Vector) → Vector → Kind → (Slot → ℕ) → Vector
moved_by d b κ w = combination (as_integers w) (λ s. d (vertex_of b κ s))

-- ---- scaling

pub combination_scaled : (c : ℕ) (w : Slot → ℕ) (q : Slot → Vector) → combination (as_integers (scaled_by c w)) q ≡ pos c *ᵥ combination (as_integers w) q
combination_scaled c w q = λ i. vector (go (λ s. (q s).x) i) (go (λ s. (q s).y) i) (go (λ s. (q s).z) i)
  where
    go : (f : Slot → ℤ) → sum4 (λ j. pos (c * w j) *ℤ f j) ≡ pos c *ℤ sum4 (λ j. pos (w j) *ℤ f j)
    go f = ring (pos c ∷ pos (w slot_0) ∷ pos (w slot_1) ∷ pos (w slot_2) ∷ pos (w slot_3) ∷ f slot_0 ∷ f slot_1 ∷ f slot_2 ∷ f slot_3 ∷ [])
        (plus (plus (plus (times (times (variable 0) (variable 1)) (variable 5)) (times (times (variable 0) (variable 2)) (variable 6))) (times (times (variable 0) (variable 3)) (variable 7))) (times (times (variable 0) (variable 4)) (variable 8)))
        (times (variable 0) (plus (plus (plus (times (variable 1) (variable 5)) (times (variable 2) (variable 6))) (times (variable 3) (variable 7))) (times (variable 4) (variable 8)))) refl

pub holds_scaled : (c : ℕ) (b : Vector) (κ : Kind) (w : Slot → ℕ) (p : Vector) (n : ℕ) → Holds b κ w p n → Holds b κ (scaled_by c w) (pos c *ᵥ p) (c * n)
holds_scaled c b κ w p n h = record {
  total = let e : c * (total_weight w) ≡ c * n = ap (λ t. c * t) h.total in omega arith;
  place = combination_scaled c w (vertex_of b κ) ∙ ap (λ q. pos c *ᵥ q) h.place;
}

-- ---- planes
-- the plane on which a slot's form is 2 m lies strictly between p and q over n, p below it
abbrev pub Separates : Kind → Slot → ℤ → Vector → Vector → ℕ → Type 0
Separates κ s m p q n = (dot (dual κ s) p <ℤ (pos (2 * n) *ℤ m)) × ((pos (2 * n) *ℤ m) <ℤ dot (dual κ s) q)

-- it lies between, either way
abbrev pub Between : Kind → Slot → ℤ → Vector → Vector → ℕ → Type 0
Between κ s m p q n = Separates κ s m p q n ⊎ Separates κ s m q p n

-- displacements u of p and u' of q differ by less than p and q do
abbrev pub Close : Vector → Vector → Vector → Vector → Type 0
Close p u q u' = norm (u -ᵥ u') ≤ 4094 * norm (p -ᵥ q)

-- ---- differences of weighted sums
abbrev less : (Slot → ℕ) → (Slot → ℕ) → Slot → ℤ
less w w' s = pos (w s) +ℤ neg_ℤ (pos (w' s))

combination_less : (w w' : Slot → ℕ) (q : Slot → Vector) → combination (less w w') q ≡ combination (as_integers w) q -ᵥ combination (as_integers w') q
combination_less w w' q = λ i. vector (go (λ s. (q s).x) i) (go (λ s. (q s).y) i) (go (λ s. (q s).z) i)
  where
    go : (f : Slot → ℤ) → sum4 (λ j. less w w' j *ℤ f j) ≡ sum4 (λ j. pos (w j) *ℤ f j) +ℤ neg_ℤ (sum4 (λ j. pos (w' j) *ℤ f j))
    go f = ring (pos (w slot_0) ∷ pos (w slot_1) ∷ pos (w slot_2) ∷ pos (w slot_3) ∷ pos (w' slot_0) ∷ pos (w' slot_1) ∷ pos (w' slot_2) ∷ pos (w' slot_3) ∷ f slot_0 ∷ f slot_1 ∷ f slot_2 ∷ f slot_3 ∷ [])
        (plus (plus (plus (times (plus (variable 0) (negate (variable 4))) (variable 8)) (times (plus (variable 1) (negate (variable 5))) (variable 9))) (times (plus (variable 2) (negate (variable 6))) (variable 10))) (times (plus (variable 3) (negate (variable 7))) (variable 11)))
        (plus (plus (plus (plus (times (variable 0) (variable 8)) (times (variable 1) (variable 9))) (times (variable 2) (variable 10))) (times (variable 3) (variable 11))) (negate (plus (plus (plus (times (variable 4) (variable 8)) (times (variable 5) (variable 9))) (times (variable 6) (variable 10))) (times (variable 7) (variable 11))))) refl

sum_less : (w w' : Slot → ℕ) (n : ℕ) → total_weight w ≡ n → total_weight w' ≡ n → sum4 (less w w') ≡ pos 0
sum_less w w' n e f = omega (arith, ints)

combination_moved : (w : Slot → ℤ) (b : Vector) (o : Slot → Vector) → sum4 w ≡ pos 0 → combination w (λ j. b +ᵥ o j) ≡ combination w o
combination_moved w b o e = λ i. vector (go b.x (λ s. (o s).x) i) (go b.y (λ s. (o s).y) i) (go b.z (λ s. (o s).z) i)
  where
    sum_of : (b : ℤ) (f : Slot → ℤ) → sum4 (λ j. w j *ℤ (b +ℤ f j)) ≡ sum4 w *ℤ b +ℤ sum4 (λ j. w j *ℤ f j)
    sum_of b f = ring (w slot_0 ∷ w slot_1 ∷ w slot_2 ∷ w slot_3 ∷ f slot_0 ∷ f slot_1 ∷ f slot_2 ∷ f slot_3 ∷ b ∷ [])
        (plus (plus (plus (times (variable 0) (plus (variable 8) (variable 4))) (times (variable 1) (plus (variable 8) (variable 5)))) (times (variable 2) (plus (variable 8) (variable 6)))) (times (variable 3) (plus (variable 8) (variable 7))))
        (plus (times (plus (plus (plus (variable 0) (variable 1)) (variable 2)) (variable 3)) (variable 8)) (plus (plus (plus (times (variable 0) (variable 4)) (times (variable 1) (variable 5))) (times (variable 2) (variable 6))) (times (variable 3) (variable 7)))) refl

    last : (a : ℤ) → pos 0 +ℤ a ≡ a
    last a = omega (arith, ints)

    go : (b : ℤ) (f : Slot → ℤ) → sum4 (λ j. w j *ℤ (b +ℤ f j)) ≡ sum4 (λ j. w j *ℤ f j)
    go b f = sum_of b f ∙ ap (λ t. t *ℤ b +ℤ sum4 (λ j. w j *ℤ f j)) e ∙ ap (λ t. t +ℤ sum4 (λ j. w j *ℤ f j)) (zero_mul b) ∙ last (sum4 (λ j. w j *ℤ f j))

-- ---- a slot's form and the plane on which it is 0
abbrev half_base : Slot → ℤ
half_base slot_0 = pos 1
half_base _ = pos 0

half_base_is : (s : Slot) → first_slot_alone s ≡ pos 2 *ℤ half_base s
half_base_is slot_0 = refl
half_base_is s = refl

plane_form : (κ : Kind) (s : Slot) (b p : Vector) (n : ℕ) (m : ℤ) → dot (dual κ s) b ≡ pos 2 *ℤ m → form_at κ s (p -ᵥ pos n *ᵥ b) (pos n) ≡ dot (dual κ s) p +ℤ neg_ℤ (pos (2 * n) *ℤ (m +ℤ neg_ℤ (half_base s)))
plane_form κ s b p n m e =
    linear (dual κ s) p b (pos n) (first_slot_alone s)
    ∙ (λ i. dot (dual κ s) p +ℤ neg_ℤ (pos n *ℤ e i) +ℤ half_base_is s i *ℤ pos n)
    ∙ join (dot (dual κ s) p) (pos n) m (half_base s)
  where
    linear : (l p b : Vector) (n c : ℤ) → dot l (p -ᵥ n *ᵥ b) +ℤ c *ℤ n ≡ dot l p +ℤ neg_ℤ (n *ℤ dot l b) +ℤ c *ℤ n
    linear l p b n c = ring (l.x ∷ l.y ∷ l.z ∷ p.x ∷ p.y ∷ p.z ∷ b.x ∷ b.y ∷ b.z ∷ n ∷ c ∷ [])
        (plus (plus (plus (times (variable 0) (plus (variable 3) (negate (times (variable 9) (variable 6))))) (times (variable 1) (plus (variable 4) (negate (times (variable 9) (variable 7)))))) (times (variable 2) (plus (variable 5) (negate (times (variable 9) (variable 8)))))) (times (variable 10) (variable 9)))
        (plus (plus (plus (plus (times (variable 0) (variable 3)) (times (variable 1) (variable 4))) (times (variable 2) (variable 5))) (negate (times (variable 9) (plus (plus (times (variable 0) (variable 6)) (times (variable 1) (variable 7))) (times (variable 2) (variable 8)))))) (times (variable 10) (variable 9))) refl

    join : (a n m h : ℤ) → a +ℤ neg_ℤ (n *ℤ (pos 2 *ℤ m)) +ℤ pos 2 *ℤ h *ℤ n ≡ a +ℤ neg_ℤ ((pos 2 *ℤ n) *ℤ (m +ℤ neg_ℤ h))
    join a n m h = ring (a ∷ n ∷ m ∷ h ∷ [])
        (plus (plus (variable 0) (negate (times (variable 1) (times (constant (pos 2)) (variable 2))))) (times (times (constant (pos 2)) (variable 3)) (variable 1)))
        (plus (variable 0) (negate (times (times (constant (pos 2)) (variable 1)) (plus (variable 2) (negate (variable 3)))))) refl

middle_form : (κ : Kind) (s : Slot) (b p q : Vector) (n : ℕ) → form_at κ s ((p +ᵥ q) -ᵥ pos (2 * n) *ᵥ b) (pos (2 * n)) ≡ form_at κ s (p -ᵥ pos n *ᵥ b) (pos n) +ℤ form_at κ s (q -ᵥ pos n *ᵥ b) (pos n)
middle_form κ s b p q n = linear (dual κ s) p q b (pos n) (first_slot_alone s)
  where
    linear : (l p q b : Vector) (n c : ℤ) → dot l ((p +ᵥ q) -ᵥ (pos 2 *ℤ n) *ᵥ b) +ℤ c *ℤ (pos 2 *ℤ n) ≡ (dot l (p -ᵥ n *ᵥ b) +ℤ c *ℤ n) +ℤ (dot l (q -ᵥ n *ᵥ b) +ℤ c *ℤ n)
    linear l p q b n c =
        let r = λ (i j : ℕ) (m : Expression) (e : Expression). plus e (negate (times m (variable j))) in
        let n2 = times (constant (pos 2)) (variable 12) in
        ring (l.x ∷ l.y ∷ l.z ∷ p.x ∷ p.y ∷ p.z ∷ b.x ∷ b.y ∷ b.z ∷ q.x ∷ q.y ∷ q.z ∷ n ∷ c ∷ [])
        (plus (plus (plus (times (variable 0) (r 0 6 n2 (plus (variable 3) (variable 9)))) (times (variable 1) (r 0 7 n2 (plus (variable 4) (variable 10))))) (times (variable 2) (r 0 8 n2 (plus (variable 5) (variable 11))))) (times (variable 13) n2))
        (plus (plus (plus (plus (times (variable 0) (r 0 6 (variable 12) (variable 3))) (times (variable 1) (r 0 7 (variable 12) (variable 4)))) (times (variable 2) (r 0 8 (variable 12) (variable 5)))) (times (variable 13) (variable 12)))
        (plus (plus (plus (times (variable 0) (r 0 6 (variable 12) (variable 9))) (times (variable 1) (r 0 7 (variable 12) (variable 10)))) (times (variable 2) (r 0 8 (variable 12) (variable 11)))) (times (variable 13) (variable 12)))) refl

-- no plane between two points: the tetrahedron that holds their middle holds both
end_form : (κ : Kind) (s : Slot) (b p q : Vector) (n : ℕ) → IsLattice b → ((m : ℤ) → ¬ (Separates κ s m p q n)) → pos 0 ≤ℤ form_at κ s ((p +ᵥ q) -ᵥ pos (2 * n) *ᵥ b) (pos (2 * n)) → pos 0 ≤ℤ form_at κ s (p -ᵥ pos n *ᵥ b) (pos n)
end_form κ s b p q n l has_none mid =
    let t = l κ s in
    let m = t.0 +ℤ neg_ℤ (half_base s) in
    let fp = plane_form κ s b p n t.0 t.1 in
    let fq = plane_form κ s b q n t.0 t.1 in
    let sum = middle_form κ s b p q n in
    go (form_at κ s (p -ᵥ pos n *ᵥ b) (pos n)) (form_at κ s (q -ᵥ pos n *ᵥ b) (pos n)) (form_at κ s ((p +ᵥ q) -ᵥ pos (2 * n) *ᵥ b) (pos (2 * n))) (dot (dual κ s) p) (dot (dual κ s) q) (pos (2 * n) *ℤ m) fp fq sum mid (has_none m) (less_or_at_most _ _)
  where
    go : (a c e x y t : ℤ) → a ≡ x +ℤ neg_ℤ t → c ≡ y +ℤ neg_ℤ t → e ≡ a +ℤ c → pos 0 ≤ℤ e → ¬ ((x <ℤ t) × (t <ℤ y)) → (a <ℤ pos 0) ⊎ (pos 0 ≤ℤ a) → pos 0 ≤ℤ a
    go a c e x y t ha hc he h has_none (inl i) = absurd (has_none (below_in _ _ (omega (arith, ints)), below_in _ _ (omega (arith, ints))))
    go a c e x y t ha hc he h has_none (inr i) = i

-- ---- closeness under scaling
scale_less : (c : ℕ) (u w : Vector) → pos c *ᵥ u -ᵥ pos c *ᵥ w ≡ pos c *ᵥ (u -ᵥ w)
scale_less c u w = λ i. vector (go u.x w.x i) (go u.y w.y i) (go u.z w.z i)
  where
    go : (a b : ℤ) → pos c *ℤ a +ℤ neg_ℤ (pos c *ℤ b) ≡ pos c *ℤ (a +ℤ neg_ℤ b)
    go a b = ring (pos c ∷ a ∷ b ∷ []) (plus (times (variable 0) (variable 1)) (negate (times (variable 0) (variable 2)))) (times (variable 0) (plus (variable 1) (negate (variable 2)))) refl

pub norm_of_difference : (c : ℕ) (u w : Vector) → norm (pos c *ᵥ u -ᵥ pos c *ᵥ w) ≡ c * norm (u -ᵥ w)
norm_of_difference c u w = ap norm (scale_less c u w) ∙ norm_scale c (u -ᵥ w)

twice_close : (p q u u' : Vector) → Close (pos 2 *ᵥ p) (pos 2 *ᵥ u) (pos 2 *ᵥ q) (pos 2 *ᵥ u') → Close p u q u'
twice_close p q u u' h = go _ _ _ _ (norm_of_difference 2 u u') (norm_of_difference 2 p q) h
  where
    go : (a b x y : ℕ) → x ≡ 2 * a → y ≡ 2 * b → x ≤ 4094 * y → a ≤ 4094 * b
    go a b x y e f h = omega arith

flip_sum : (p q : Vector) → p +ᵥ q ≡ q +ᵥ p
flip_sum p q = λ i. vector (go p.x q.x i) (go p.y q.y i) (go p.z q.z i)
  where
    go : (a b : ℤ) → a +ℤ b ≡ b +ℤ a
    go a b = omega (arith, ints)

module _ (d : Vector → Vector) (small : AreSmall d) where
  pub same_moved : (b : Vector) (κ : Kind) (w : Slot → ℕ) (b' : Vector) (κ' : Kind) (w' : Slot → ℕ) (p : Vector) (n : ℕ) → IsLattice b → IsLattice b' → Holds b κ w p n → Holds b' κ' w' p n → moved_by d b κ w ≡ moved_by d b' κ' w'
  same_moved b κ w b' κ' w' p n l l' h h' =
      let f = λ (g : Vector → ℤ). sums_agree b κ w b' κ' w' p n (λ s. vertex_is_lattice b κ s l) l (λ s. vertex_is_lattice b' κ' s l') l' h h' g in
      λ i. vector (f (λ u. (d u).x) i) (f (λ u. (d u).y) i) (f (λ u. (d u).z) i)

  -- two points of one tetrahedron
  pub in_one : (b : Vector) (κ : Kind) (w w' : Slot → ℕ) (p q : Vector) (n : ℕ) → Holds b κ w p n → Holds b κ w' q n → Close p (moved_by d b κ w) q (moved_by d b κ w')
  in_one b κ w w' p q n h h' =
      let e = sum_less w w' n h.total h'.total in
      let c = contraction κ (less w w') (λ s. d (vertex_of b κ s)) e (λ s. small (vertex_of b κ s)) in
      let f : combination (less w w') (offset κ) ≡ p -ᵥ q = sym (combination_moved (less w w') b (offset κ) e) ∙ combination_less w w' (vertex_of b κ) ∙ (λ i. h.place i -ᵥ h'.place i) in
      subst (λ (t : Vector). norm (moved_by d b κ w -ᵥ moved_by d b κ w') ≤ 4094 * norm t) f
      (subst (λ (t : Vector). norm t ≤ 4094 * norm (combination (less w w') (offset κ))) (combination_less w w' (λ s. d (vertex_of b κ s))) c)

  -- no plane between the two points
  pub base_case : (b : Vector) (κ : Kind) (w : Slot → ℕ) (b' : Vector) (κ' : Kind) (w' : Slot → ℕ) (p q : Vector) (n : ℕ) → 0 < n → IsLattice b → IsLattice b' → Holds b κ w p n → Holds b' κ' w' q n
      → ((κ : Kind) (s : Slot) (m : ℤ) → ¬ (Between κ s m p q n)) → Close p (moved_by d b κ w) q (moved_by d b' κ' w')
  base_case b κ w b' κ' w' p q n pos_n l l' h h' has_none =
      go (locate (p +ᵥ q) (2 * n) (omega arith))
    where
      go : Located (p +ᵥ q) (2 * n) → Close p (moved_by d b κ w) q (moved_by d b' κ' w')
      go t =
          let hp = holds_by_forms t.kind t.at p n (λ s. end_form t.kind s t.at p q n t.lattice (λ m i. has_none t.kind s m (inl i)) (t.forms s)) in
          let hq = holds_by_forms t.kind t.at q n (λ s. end_form t.kind s t.at q p n t.lattice (λ m i. has_none t.kind s m (inr i)) (subst (λ (r : Vector). pos 0 ≤ℤ form_at t.kind s (r -ᵥ pos (2 * n) *ᵥ t.at) (pos (2 * n))) (flip_sum p q) (t.forms s))) in
          let up = sym (combination_scaled 2 w (λ s. d (vertex_of b κ s))) ∙ same_moved b κ (scaled_by 2 w) t.at t.kind (weights t.kind t.at p n) (pos 2 *ᵥ p) (2 * n) l t.lattice (holds_scaled 2 b κ w p n h) hp in
          let uq = sym (combination_scaled 2 w' (λ s. d (vertex_of b' κ' s))) ∙ same_moved b' κ' (scaled_by 2 w') t.at t.kind (weights t.kind t.at q n) (pos 2 *ᵥ q) (2 * n) l' t.lattice (holds_scaled 2 b' κ' w' q n h') hq in
          twice_close p q (moved_by d b κ w) (moved_by d b' κ' w')
          (subst (λ (u : Vector). Close (pos 2 *ᵥ p) u (pos 2 *ᵥ q) (pos 2 *ᵥ moved_by d b' κ' w')) (sym up)
          (subst (λ (u : Vector). Close (pos 2 *ᵥ p) (moved_by d t.at t.kind (weights t.kind t.at p n)) (pos 2 *ᵥ q) u) (sym uq)
          (in_one t.at t.kind (weights t.kind t.at p n) (weights t.kind t.at q n) (pos 2 *ᵥ p) (pos 2 *ᵥ q) (2 * n) hp hq)))
