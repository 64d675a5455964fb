-- Two lattice tetrahedra that hold one point give each vertex the same weight, and none to a vertex of one alone.
use Rattle.std.proofs.Common.{◌≡◌, ℕ, zero, suc, ◌+◌, ◌*◌, ◌<◌, ◌≤◌, [], ◌∷◌, refl, sym, ap, subst, ◌∙◌, arith, Bool, true, ltb}
use Rattle.std.proofs.Math.IntN.{ℤ, pos, negsuc, ◌+ℤ◌, ◌*ℤ◌, neg_ℤ, nat_abs, *ℤ_comm}
use Rattle.std.proofs.Math.Nat.{mul-le-mul_left}
use Rattle.std.proofs.lemmas.Int.{ints, unsigned_abs-mul}
use Rattle.std.proofs.lemmas.Bool.{ltb-true}
use lib.Signed.{◌≤ℤ◌}
use borrow.Author.Differences.{up, at_most_in}
use Rattle.exact.proofs.IntegerLaws.{zero_mul}
use Rattle.exact.specs.Polynomials.{Expression, variable, constant, plus, times, negate, is_same}
use Rattle.exact.proofs.Ring.{ring}
use Rattle.lattice_laws.specs.Vectors.{Vector, vector, ◌+ᵥ◌, ◌-ᵥ◌, ◌*ᵥ◌, x_of, y_of, z_of}
use Rattle.lattice_laws.specs.Kinds.{Kind, kind_146, kind_256, kind_347, kind_357, kind_467, kind_567, Slot, slot_0, slot_1, slot_2, slot_3, offset}
use Rattle.moved_lattice.specs.Duals.{dual}
use Rattle.definitions.specs.Vectors.{dot}
use Rattle.moved_lattice.specs.WeightedSums.{total_weight, sum4, combination, dot_expression, sum4_expression, IsLattice, vertex_of, as_integers, Holds, Matches, same_vertex, has_none}
use Rattle.moved_lattice.proofs.EveryKind.{every_kind, every_slot, kind_passes, slot_passes}
use Rattle.moved_lattice.proofs.OwnForms.{own_form}
use Rattle.moved_lattice.proofs.PointForms.{first_slot_alone}
use Rattle.moved_lattice.proofs.SlotSums.{delta, each_slot, sum4_same, twice_delta_row}

-- a form changes by at most 2 along an edge
abbrev edge_check : Kind → Slot → Kind → Slot → Slot → Bool
edge_check κ s κ' i j = ltb (nat_abs (dot (dual κ s) (offset κ' j -ᵥ offset κ' i))) 3

abbrev edge_all : Bool
edge_all = every_kind (λ κ. every_slot (λ s. every_kind (λ κ'. every_slot (λ i. every_slot (λ j. edge_check κ s κ' i j)))))

edge_checks : edge_all ≡ true
edge_checks = refl

edge_bound : (κ : Kind) (s : Slot) (κ' : Kind) (i j : Slot) → nat_abs (dot (dual κ s) (offset κ' j -ᵥ offset κ' i)) < 3
edge_bound κ s κ' i j = ltb-true _ _ (slot_passes (λ j. edge_check κ s κ' i j) (slot_passes (λ i. every_slot (λ j. edge_check κ s κ' i j)) (kind_passes (λ κ'. every_slot (λ i. every_slot (λ j. edge_check κ s κ' i j))) (slot_passes (λ s. every_kind (λ κ'. every_slot (λ i. every_slot (λ j. edge_check κ s κ' i j)))) (kind_passes (λ κ. every_slot (λ s. every_kind (λ κ'. every_slot (λ i. every_slot (λ j. edge_check κ s κ' i j))))) edge_checks κ) s) κ') i) j)

no_difference : (l o : Vector) → dot l (o -ᵥ o) ≡ pos 0
no_difference l o = ring (l.x ∷ l.y ∷ l.z ∷ o.x ∷ o.y ∷ o.z ∷ [])
    (plus (plus (times (variable 0) (plus (variable 3) (negate (variable 3)))) (times (variable 1) (plus (variable 4) (negate (variable 4))))) (times (variable 2) (plus (variable 5) (negate (variable 5))))) (constant (pos 0)) refl

-- expressions: the form variable 0 to variable 2, the base variable 3 to variable 5, a vertex variable 6 to variable 8, the weights variable 9 to variable 12, the vertices variable 13 to variable 24
abbrev weight_expression : Slot → Expression
weight_expression slot_0 = variable 9
weight_expression slot_1 = variable 10
weight_expression slot_2 = variable 11
weight_expression slot_3 = variable 12

abbrev unit_expression : ℕ → ℕ → ℕ → ℕ → Slot → Expression
unit_expression a b c d slot_0 = variable a
unit_expression a b c d slot_1 = variable b
unit_expression a b c d slot_2 = variable c
unit_expression a b c d slot_3 = variable d

abbrev dot_vectors_expression : Expression → Expression → Expression → Expression
dot_vectors_expression a b c = plus (plus (times (variable 0) a) (times (variable 1) b)) (times (variable 2) c)

-- a form at a weighted sum, from a vertex q
edge_sum : (l b q : Vector) (o : Slot → Vector) (w : Slot → ℤ) → dot l (combination w (λ j. b +ᵥ o j) -ᵥ sum4 w *ᵥ (b +ᵥ q)) ≡ sum4 (λ j. w j *ℤ dot l (o j -ᵥ q))
edge_sum l b q o w =
    let rel = λ (i j : ℕ) (f : Slot → Expression). plus (sum4_expression (λ t. times (weight_expression t) (plus (variable i) (f t)))) (negate (times (sum4_expression weight_expression) (plus (variable i) (variable j)))) in
    ring (l.x ∷ l.y ∷ l.z ∷ b.x ∷ b.y ∷ b.z ∷ q.x ∷ q.y ∷ q.z ∷ w slot_0 ∷ w slot_1 ∷ w slot_2 ∷ w slot_3 ∷ (o slot_0).x ∷ (o slot_0).y ∷ (o slot_0).z ∷ (o slot_1).x ∷ (o slot_1).y ∷ (o slot_1).z ∷ (o slot_2).x ∷ (o slot_2).y ∷ (o slot_2).z ∷ (o slot_3).x ∷ (o slot_3).y ∷ (o slot_3).z ∷ [])
    (dot_vectors_expression (rel 3 6 (unit_expression 13 16 19 22)) (rel 4 7 (unit_expression 14 17 20 23)) (rel 5 8 (unit_expression 15 18 21 24)))
    (sum4_expression (λ t. times (weight_expression t) (dot_vectors_expression (plus (unit_expression 13 16 19 22 t) (negate (variable 6))) (plus (unit_expression 14 17 20 23 t) (negate (variable 7))) (plus (unit_expression 15 18 21 24 t) (negate (variable 8)))))) refl

-- a product of a natural and a number of size 2 at most
small_product : (m : ℕ) (e : ℤ) → nat_abs e < 3 → nat_abs (pos m *ℤ e) ≤ 2 * m
small_product m e h =
    let f = unsigned_abs-mul (pos m) e in
    let g : m * nat_abs e ≤ m * 2 = mul-le-mul_left m (omega arith) in
    omega arith

-- the size of any form at the point, from a vertex, and twice that vertex's weight: at most twice the whole
edge_part : (κ : Kind) (s : Slot) (κ' : Kind) (i j : Slot) (m : ℕ) → nat_abs (pos m *ℤ dot (dual κ s) (offset κ' j -ᵥ offset κ' i)) ≤ 2 * m
edge_part κ s κ' i j m = small_product m _ (edge_bound κ s κ' i j)

-- the sum of four products, that of the slot itself being 0
abbrev Bounded : Kind → Slot → Kind → (Slot → ℕ) → Slot → Type 0
Bounded κ s κ' w i = nat_abs (sum4 (λ j. pos (w j) *ℤ dot (dual κ s) (offset κ' j -ᵥ offset κ' i))) + 2 * w i ≤ 2 * total_weight w

zero_part : (l o : Vector) (m : ℕ) → pos m *ℤ dot l (o -ᵥ o) ≡ pos 0
zero_part l o m = ap (λ t. pos m *ℤ t) (no_difference l o) ∙ *ℤ_comm (pos m) (pos 0) ∙ zero_mul (pos m)

abbrev part : Kind → Slot → Kind → (Slot → ℕ) → Slot → Slot → ℤ
part κ s κ' w i j = pos (w j) *ℤ dot (dual κ s) (offset κ' j -ᵥ offset κ' i)

bound_with : (i : Slot) (f : Slot → ℤ) (w : Slot → ℕ) → f i ≡ pos 0 → ((j : Slot) → nat_abs (f j) ≤ 2 * w j) → nat_abs (sum4 f) + 2 * w i ≤ 2 * total_weight w
bound_with i f w e h = go i e (h slot_0) (h slot_1) (h slot_2) (h slot_3)
  where
    go : (i : Slot) → f i ≡ pos 0 → nat_abs (f slot_0) ≤ 2 * w slot_0 → nat_abs (f slot_1) ≤ 2 * w slot_1 → nat_abs (f slot_2) ≤ 2 * w slot_2 → nat_abs (f slot_3) ≤ 2 * w slot_3 → nat_abs (sum4 f) + 2 * w i ≤ 2 * total_weight w
    go slot_0 e h0 h1 h2 h3 = omega (arith, ints)
    go slot_1 e h0 h1 h2 h3 = omega (arith, ints)
    go slot_2 e h0 h1 h2 h3 = omega (arith, ints)
    go slot_3 e h0 h1 h2 h3 = omega (arith, ints)

bounded : (κ : Kind) (s : Slot) (κ' : Kind) (w : Slot → ℕ) (i : Slot) → Bounded κ s κ' w i
bounded κ s κ' w i = bound_with i (part κ s κ' w i) w (zero_part (dual κ s) (offset κ' i) (w i)) (λ j. edge_part κ s κ' i j (w j))

-- any form at the point, from a vertex of the tetrahedron: its size and twice the vertex's weight are at most twice the whole
pub any_form : (κ : Kind) (s : Slot) (b : Vector) (κ' : Kind) (w : Slot → ℕ) (p : Vector) (n : ℕ) (i : Slot) → Holds b κ' w p n
    → nat_abs (dot (dual κ s) (p -ᵥ pos n *ᵥ vertex_of b κ' i)) + 2 * w i ≤ 2 * n
any_form κ s b κ' w p n i h =
    let e : dot (dual κ s) (combination (as_integers w) (vertex_of b κ') -ᵥ pos (total_weight w) *ᵥ vertex_of b κ' i) ≡ sum4 (λ j. pos (w j) *ℤ dot (dual κ s) (offset κ' j -ᵥ offset κ' i)) =
    edge_sum (dual κ s) b (offset κ' i) (offset κ') (as_integers w) in
    let f : nat_abs (dot (dual κ s) (combination (as_integers w) (vertex_of b κ') -ᵥ pos (total_weight w) *ᵥ vertex_of b κ' i)) + 2 * w i ≤ 2 * total_weight w =
    subst (λ (t : ℤ). nat_abs t + 2 * w i ≤ 2 * total_weight w) (sym e) (bounded κ s κ' w i) in
    let g : nat_abs (dot (dual κ s) (combination (as_integers w) (vertex_of b κ') -ᵥ pos n *ᵥ vertex_of b κ' i)) + 2 * w i ≤ 2 * n =
    subst (λ (m : ℕ). nat_abs (dot (dual κ s) (combination (as_integers w) (vertex_of b κ') -ᵥ pos m *ᵥ vertex_of b κ' i)) + 2 * w i ≤ 2 * m) h.total f in
    subst (λ (q : Vector). nat_abs (dot (dual κ s) (q -ᵥ pos n *ᵥ vertex_of b κ' i)) + 2 * w i ≤ 2 * n) h.place g

-- ---- a vertex of both has one weight
at_most : (b : Vector) (κ : Kind) (w : Slot → ℕ) (b' : Vector) (κ' : Kind) (w' : Slot → ℕ) (p : Vector) (n : ℕ) (s s' : Slot) → Holds b κ w p n → Holds b' κ' w' p n
    → vertex_of b κ s ≡ vertex_of b' κ' s' → w' s' ≤ w s
at_most b κ w b' κ' w' p n s s' h h' e =
    let own = own_form b κ w p n s h in
    let any : nat_abs (dot (dual κ s) (p -ᵥ pos n *ᵥ vertex_of b κ s)) + 2 * w' s' ≤ 2 * n =
    subst (λ (u : Vector). nat_abs (dot (dual κ s) (p -ᵥ pos n *ᵥ u)) + 2 * w' s' ≤ 2 * n) (sym e) (any_form κ s b' κ' w' p n s' h') in
    go (dot (dual κ s) (p -ᵥ pos n *ᵥ vertex_of b κ s)) (w s) (w' s') n own any
  where
    go : (t : ℤ) (m m' n : ℕ) → t +ℤ pos (2 * n) ≡ pos (2 * m) → nat_abs t + 2 * m' ≤ 2 * n → m' ≤ m
    go t m m' n e h = omega (arith, ints)

-- a vertex of both tetrahedra has the same weight in both
pub one_weight : (b : Vector) (κ : Kind) (w : Slot → ℕ) (b' : Vector) (κ' : Kind) (w' : Slot → ℕ) (p : Vector) (n : ℕ) (s s' : Slot) → Holds b κ w p n → Holds b' κ' w' p n
    → vertex_of b κ s ≡ vertex_of b' κ' s' → w s ≡ w' s'
one_weight b κ w b' κ' w' p n s s' h h' e =
    let f = at_most b κ w b' κ' w' p n s s' h h' e in
    let g = at_most b' κ' w' b κ w p n s' s h' h (sym e) in
    omega arith

-- ---- a vertex that is not of the second tetrahedron has no weight
-- twice the weight of a slot at a vector from the lowest vertex, of 1
abbrev pub coordinate : Kind → Slot → Vector → ℤ
coordinate κ s q = dot (dual κ s) q +ℤ first_slot_alone s

abbrev coordinate_expression : Kind → Slot → Expression
coordinate_expression κ s = plus (dot_expression (dual κ s) (variable 0) (variable 1) (variable 2)) (constant (first_slot_alone s))

coordinates_sum : (κ : Kind) (q : Vector) → sum4 (λ j. coordinate κ j q) ≡ pos 2
coordinates_sum κ q = ring (q.x ∷ q.y ∷ q.z ∷ []) (sum4_expression (coordinate_expression κ)) (constant (pos 2)) (go κ)
  where
    go : (κ : Kind) → is_same (sum4_expression (coordinate_expression κ)) (constant (pos 2)) ≡ true
    go kind_146 = refl
    go κ = refl

coordinates_place : (κ : Kind) (q : Vector) → combination (λ j. coordinate κ j q) (offset κ) ≡ pos 2 *ᵥ q
coordinates_place κ q =
    let r = q.x ∷ q.y ∷ q.z ∷ [] in
    let x = ring r (sum4_expression (λ j. times (coordinate_expression κ j) (constant (offset κ j).x))) (times (constant (pos 2)) (variable 0)) (gox κ) in
    let y = ring r (sum4_expression (λ j. times (coordinate_expression κ j) (constant (offset κ j).y))) (times (constant (pos 2)) (variable 1)) (goy κ) in
    let z = ring r (sum4_expression (λ j. times (coordinate_expression κ j) (constant (offset κ j).z))) (times (constant (pos 2)) (variable 2)) (goz κ) in
    λ i. vector (x i) (y i) (z i)
  where
    gox : (κ : Kind) → is_same (sum4_expression (λ j. times (coordinate_expression κ j) (constant (offset κ j).x))) (times (constant (pos 2)) (variable 0)) ≡ true
    gox kind_146 = refl
    gox κ = refl

    goy : (κ : Kind) → is_same (sum4_expression (λ j. times (coordinate_expression κ j) (constant (offset κ j).y))) (times (constant (pos 2)) (variable 1)) ≡ true
    goy kind_146 = refl
    goy κ = refl

    goz : (κ : Kind) → is_same (sum4_expression (λ j. times (coordinate_expression κ j) (constant (offset κ j).z))) (times (constant (pos 2)) (variable 2)) ≡ true
    goz kind_146 = refl
    goz κ = refl

-- the coordinate and the form from the slot's own vertex
coordinate_from_own : (κ : Kind) (s : Slot) (b u : Vector) → dot (dual κ s) (u -ᵥ vertex_of b κ s) +ℤ pos 2 ≡ coordinate κ s (u -ᵥ b)
coordinate_from_own κ s b u =
    ring (b.x ∷ b.y ∷ b.z ∷ u.x ∷ u.y ∷ u.z ∷ []) (plus (dot_expression (dual κ s) (plus (variable 3) (negate (plus (variable 0) (constant (offset κ s).x)))) (plus (variable 4) (negate (plus (variable 1) (constant (offset κ s).y)))) (plus (variable 5) (negate (plus (variable 2) (constant (offset κ s).z))))) (constant (pos 2)))
    (plus (dot_expression (dual κ s) (plus (variable 3) (negate (variable 0))) (plus (variable 4) (negate (variable 1))) (plus (variable 5) (negate (variable 2)))) (constant (first_slot_alone s))) (go κ s)
  where
    go : (κ : Kind) (s : Slot) → is_same (plus (dot_expression (dual κ s) (plus (variable 3) (negate (plus (variable 0) (constant (offset κ s).x)))) (plus (variable 4) (negate (plus (variable 1) (constant (offset κ s).y)))) (plus (variable 5) (negate (plus (variable 2) (constant (offset κ s).z))))) (constant (pos 2)))
        (plus (dot_expression (dual κ s) (plus (variable 3) (negate (variable 0))) (plus (variable 4) (negate (variable 1))) (plus (variable 5) (negate (variable 2)))) (constant (first_slot_alone s))) ≡ true
    go kind_146 slot_0 = refl
    go kind_256 slot_0 = refl
    go kind_347 slot_0 = refl
    go kind_357 slot_0 = refl
    go kind_467 slot_0 = refl
    go kind_567 slot_0 = refl
    go κ s = refl

-- a form from one vertex and from another
form_shifted : (l p u q : Vector) (n : ℤ) → dot l (p -ᵥ n *ᵥ u) ≡ dot l (p -ᵥ n *ᵥ q) +ℤ neg_ℤ (n *ℤ dot l (u -ᵥ q))
form_shifted l p u q n =
    ring (l.x ∷ l.y ∷ l.z ∷ p.x ∷ p.y ∷ p.z ∷ u.x ∷ u.y ∷ u.z ∷ q.x ∷ q.y ∷ q.z ∷ n ∷ [])
    (dot_vectors_expression (plus (variable 3) (negate (times (variable 12) (variable 6)))) (plus (variable 4) (negate (times (variable 12) (variable 7)))) (plus (variable 5) (negate (times (variable 12) (variable 8)))))
    (plus (dot_vectors_expression (plus (variable 3) (negate (times (variable 12) (variable 9)))) (plus (variable 4) (negate (times (variable 12) (variable 10)))) (plus (variable 5) (negate (times (variable 12) (variable 11))))) (negate (times (variable 12) (dot_vectors_expression (plus (variable 6) (negate (variable 9))) (plus (variable 7) (negate (variable 10))) (plus (variable 8) (negate (variable 11))))))) refl

neg_product : (n : ℕ) (t : ℤ) → t ≤ℤ negsuc 3 → pos (4 * n) ≤ℤ neg_ℤ (pos n *ℤ t)
neg_product n (pos a) h = absurd h.le
neg_product n (negsuc a) h =
    let i : 4 ≤ suc a = omega (arith, ints) in
    let j : n * 4 ≤ n * suc a = mul-le-mul_left n i in
    omega (arith, ints)

-- a vertex beyond the other tetrahedron has no weight
pub no_weight : (b : Vector) (κ : Kind) (w : Slot → ℕ) (b' : Vector) (κ' : Kind) (w' : Slot → ℕ) (p : Vector) (n : ℕ) (i s : Slot) → Holds b κ w p n → Holds b' κ' w' p n
    → coordinate κ' s (vertex_of b κ i -ᵥ b') ≤ℤ negsuc 1 → w i ≡ 0
no_weight b κ w b' κ' w' p n i s h h' c =
    let u = vertex_of b κ i in
    let q = vertex_of b' κ' s in
    let own = own_form b' κ' w' p n s h' in
    let any = any_form κ' s b κ w p n i h in
    let e = coordinate_from_own κ' s b' u in
    let t : dot (dual κ' s) (u -ᵥ q) ≤ℤ negsuc 3 = far (dot (dual κ' s) (u -ᵥ q)) (coordinate κ' s (u -ᵥ b')) e c in
    go (dot (dual κ' s) (p -ᵥ pos n *ᵥ u)) (dot (dual κ' s) (p -ᵥ pos n *ᵥ q)) (neg_ℤ (pos n *ℤ dot (dual κ' s) (u -ᵥ q))) (w i) (w' s) n (form_shifted (dual κ' s) p u q (pos n)) own any (neg_product n _ t)
  where
    far : (a c : ℤ) → a +ℤ pos 2 ≡ c → c ≤ℤ negsuc 1 → a ≤ℤ negsuc 3
    far a c e h = at_most_in _ _ (omega (arith, ints))

    go : (a d m : ℤ) (x y n : ℕ) → a ≡ d +ℤ m → d +ℤ pos (2 * n) ≡ pos (2 * y) → nat_abs a + 2 * x ≤ 2 * n → pos (4 * n) ≤ℤ m → x ≡ 0
    go a d m x y n e o h i = omega (arith, ints)

-- ---- a lattice vertex is a vertex of the tetrahedron, or a coordinate of it is at most -2
pub data Where (κ : Kind) (b u : Vector) : Type 0 where
  within : (s : Slot) → u ≡ vertex_of b κ s → Where κ b u
  beyond : (s : Slot) → coordinate κ s (u -ᵥ b) ≤ℤ negsuc 1 → Where κ b u

-- half a form at a slot's own vertex, from the lowest
abbrev own_half : Slot → ℤ
own_half slot_0 = pos 1
own_half _ = pos 0

coordinates_even : (κ : Kind) (s : Slot) (b u : Vector) → IsLattice b → IsLattice u → (t : ℤ) × (coordinate κ s (u -ᵥ b) ≡ pos 2 *ℤ t)
coordinates_even κ s b u lb lu =
    let m = lu κ s in
    let n = lb κ s in
    let d = linear (dual κ s) u b in
    (m.0 +ℤ neg_ℤ n.0 +ℤ own_half s, ap (λ t. t +ℤ first_slot_alone s) (d ∙ ap (λ t. t +ℤ neg_ℤ (dot (dual κ s) b)) m.1 ∙ ap (λ t. pos 2 *ℤ m.0 +ℤ neg_ℤ t) n.1) ∙ go m.0 n.0 s)
  where
    linear : (l u b : Vector) → dot l (u -ᵥ b) ≡ dot l u +ℤ neg_ℤ (dot l b)
    linear l u b = ring (l.x ∷ l.y ∷ l.z ∷ u.x ∷ u.y ∷ u.z ∷ b.x ∷ b.y ∷ b.z ∷ []) (dot_vectors_expression (plus (variable 3) (negate (variable 6))) (plus (variable 4) (negate (variable 7))) (plus (variable 5) (negate (variable 8)))) (plus (dot_vectors_expression (variable 3) (variable 4) (variable 5)) (negate (dot_vectors_expression (variable 6) (variable 7) (variable 8)))) refl

    go : (m n : ℤ) (s : Slot) → pos 2 *ℤ m +ℤ neg_ℤ (pos 2 *ℤ n) +ℤ first_slot_alone s ≡ pos 2 *ℤ (m +ℤ neg_ℤ n +ℤ own_half s)
    go m n slot_0 = ring (m ∷ n ∷ []) (plus (plus (times (constant (pos 2)) (variable 0)) (negate (times (constant (pos 2)) (variable 1)))) (constant (pos 2))) (times (constant (pos 2)) (plus (plus (variable 0) (negate (variable 1))) (constant (pos 1)))) refl
    go m n slot_1 = ring (m ∷ n ∷ []) (plus (plus (times (constant (pos 2)) (variable 0)) (negate (times (constant (pos 2)) (variable 1)))) (constant (pos 0))) (times (constant (pos 2)) (plus (plus (variable 0) (negate (variable 1))) (constant (pos 0)))) refl
    go m n slot_2 = ring (m ∷ n ∷ []) (plus (plus (times (constant (pos 2)) (variable 0)) (negate (times (constant (pos 2)) (variable 1)))) (constant (pos 0))) (times (constant (pos 2)) (plus (plus (variable 0) (negate (variable 1))) (constant (pos 0)))) refl
    go m n slot_3 = ring (m ∷ n ∷ []) (plus (plus (times (constant (pos 2)) (variable 0)) (negate (times (constant (pos 2)) (variable 1)))) (constant (pos 0))) (times (constant (pos 2)) (plus (plus (variable 0) (negate (variable 1))) (constant (pos 0)))) refl

added_back : (x y o : ℤ) → pos 2 *ℤ (x +ℤ neg_ℤ y) ≡ pos 2 *ℤ o → x ≡ y +ℤ o
added_back x y o h = omega (arith, ints)

-- where a slot's coordinate is 2 and the others are 0
is_vertex : (κ : Kind) (b u : Vector) (s : Slot) → ((j : Slot) → coordinate κ j (u -ᵥ b) ≡ pos 2 *ℤ delta s j) → u ≡ vertex_of b κ s
is_vertex κ b u s h = let p = coordinates_place κ (u -ᵥ b) in λ i. vector (go u.x b.x (λ j. (offset κ j).x) (ap x_of p) i) (go u.y b.y (λ j. (offset κ j).y) (ap y_of p) i) (go u.z b.z (λ j. (offset κ j).z) (ap z_of p) i)
  where
    go : (x y : ℤ) (f : Slot → ℤ) → sum4 (λ j. coordinate κ j (u -ᵥ b) *ℤ f j) ≡ pos 2 *ℤ (x +ℤ neg_ℤ y) → x ≡ y +ℤ f s
    go x y f e = added_back x y (f s) (sym e ∙ sum4_same (λ j. coordinate κ j (u -ᵥ b) *ℤ f j) (λ j. (pos 2 *ℤ delta s j) *ℤ f j) (λ j. ap (λ t. t *ℤ f j) (h j)) ∙ twice_delta_row s f)

twice : (c t : ℤ) (n : ℕ) → c ≡ pos 2 *ℤ t → t ≡ pos n → c ≡ pos (2 * n)
twice c t n h e = h ∙ ap (λ t. pos 2 *ℤ t) e

is_low : (c t : ℤ) (m : ℕ) → c ≡ pos 2 *ℤ t → t ≡ negsuc m → c ≤ℤ negsuc 1
is_low c t m h e = at_most_in _ _ (omega (arith, ints))

sum_halves : (a b c d p q r s : ℤ) → a +ℤ b +ℤ c +ℤ d ≡ pos 2 → a ≡ pos 2 *ℤ p → b ≡ pos 2 *ℤ q → c ≡ pos 2 *ℤ r → d ≡ pos 2 *ℤ s → p +ℤ q +ℤ r +ℤ s ≡ pos 1
sum_halves a b c d p q r s h ha hb hc hd = omega (arith, ints)

-- a lattice vertex is a vertex of a lattice tetrahedron, or lies beyond one of its faces
pub vertex_or_beyond : (κ : Kind) (b u : Vector) → IsLattice b → IsLattice u → Where κ b u
vertex_or_beyond κ b u lb lu =
    let q = u -ᵥ b in
    let h0 = coordinates_even κ slot_0 b u lb lu in
    let h1 = coordinates_even κ slot_1 b u lb lu in
    let h2 = coordinates_even κ slot_2 b u lb lu in
    let h3 = coordinates_even κ slot_3 b u lb lu in
    go h0.0 h1.0 h2.0 h3.0 h0.1 h1.1 h2.1 h3.1 (sum_halves (coordinate κ slot_0 q) (coordinate κ slot_1 q) (coordinate κ slot_2 q) (coordinate κ slot_3 q) h0.0 h1.0 h2.0 h3.0 (coordinates_sum κ q) h0.1 h1.1 h2.1 h3.1)
  where
    small : (m n o p : ℕ) → pos m +ℤ pos n +ℤ pos o +ℤ pos p ≡ pos 1
        → coordinate κ slot_0 (u -ᵥ b) ≡ pos (2 * m) → coordinate κ slot_1 (u -ᵥ b) ≡ pos (2 * n) → coordinate κ slot_2 (u -ᵥ b) ≡ pos (2 * o) → coordinate κ slot_3 (u -ᵥ b) ≡ pos (2 * p) → Where κ b u
    small (suc m) n o p e h0 h1 h2 h3 =
        let g = ap up e in
        within slot_0
        (is_vertex κ b u slot_0
        (each_slot (λ j. coordinate κ j (u -ᵥ b) ≡ pos 2 *ℤ delta slot_0 j) (h0 ∙ ap pos (let f : 2 * suc m ≡ 2 = omega arith in f)) (h1 ∙ ap pos (let f : 2 * n ≡ 0 = omega arith in f)) (h2 ∙ ap pos (let f : 2 * o ≡ 0 = omega arith in f)) (h3 ∙ ap pos (let f : 2 * p ≡ 0 = omega arith in f))))
    small zero (suc n) o p e h0 h1 h2 h3 =
        let g = ap up e in
        within slot_1
        (is_vertex κ b u slot_1
        (each_slot (λ j. coordinate κ j (u -ᵥ b) ≡ pos 2 *ℤ delta slot_1 j) h0 (h1 ∙ ap pos (let f : 2 * suc n ≡ 2 = omega arith in f)) (h2 ∙ ap pos (let f : 2 * o ≡ 0 = omega arith in f)) (h3 ∙ ap pos (let f : 2 * p ≡ 0 = omega arith in f))))
    small zero zero (suc o) p e h0 h1 h2 h3 =
        let g = ap up e in
        within slot_2 (is_vertex κ b u slot_2 (each_slot (λ j. coordinate κ j (u -ᵥ b) ≡ pos 2 *ℤ delta slot_2 j) h0 h1 (h2 ∙ ap pos (let f : 2 * suc o ≡ 2 = omega arith in f)) (h3 ∙ ap pos (let f : 2 * p ≡ 0 = omega arith in f))))
    small zero zero zero p e h0 h1 h2 h3 = let g = ap up e in within slot_3 (is_vertex κ b u slot_3 (each_slot (λ j. coordinate κ j (u -ᵥ b) ≡ pos 2 *ℤ delta slot_3 j) h0 h1 h2 (h3 ∙ ap pos (let f : 2 * p ≡ 2 = omega arith in f))))

    go : (t0 t1 t2 t3 : ℤ) → coordinate κ slot_0 (u -ᵥ b) ≡ pos 2 *ℤ t0 → coordinate κ slot_1 (u -ᵥ b) ≡ pos 2 *ℤ t1 → coordinate κ slot_2 (u -ᵥ b) ≡ pos 2 *ℤ t2 → coordinate κ slot_3 (u -ᵥ b) ≡ pos 2 *ℤ t3 → t0 +ℤ t1 +ℤ t2 +ℤ t3 ≡ pos 1 → Where κ b u
    go (negsuc m) t1 t2 t3 h0 h1 h2 h3 e = beyond slot_0 (is_low _ _ m h0 refl)
    go (pos m) (negsuc n) t2 t3 h0 h1 h2 h3 e = beyond slot_1 (is_low _ _ n h1 refl)
    go (pos m) (pos n) (negsuc o) t3 h0 h1 h2 h3 e = beyond slot_2 (is_low _ _ o h2 refl)
    go (pos m) (pos n) (pos o) (negsuc p) h0 h1 h2 h3 e = beyond slot_3 (is_low _ _ p h3 refl)
    go (pos m) (pos n) (pos o) (pos p) h0 h1 h2 h3 e = small m n o p e (twice _ _ m h0 refl) (twice _ _ n h1 refl) (twice _ _ o h2 refl) (twice _ _ p h3 refl)

-- a point that two lattice tetrahedra hold: each vertex of the first is one of the second with the same weight, or has none
pub weights_match : (b : Vector) (κ : Kind) (w : Slot → ℕ) (b' : Vector) (κ' : Kind) (w' : Slot → ℕ) (p : Vector) (n : ℕ) → ((s : Slot) → IsLattice (vertex_of b κ s)) → IsLattice b'
    → Holds b κ w p n → Holds b' κ' w' p n → (i : Slot) → Matches w κ' b' w' (vertex_of b κ i) (w i)
weights_match b κ w b' κ' w' p n l l' h h' i = go (vertex_or_beyond κ' b' (vertex_of b κ i) l' (l i))
  where
    go : Where κ' b' (vertex_of b κ i) → Matches w κ' b' w' (vertex_of b κ i) (w i)
    go (within s e) = same_vertex s e (one_weight b κ w b' κ' w' p n i s h h' e)
    go (beyond s c) = has_none (no_weight b κ w b' κ' w' p n i s h h' c)
