-- A state within the limits is moved by some parts of a step in one of fourteen directions.
use Rattle.std.proofs.Common.{◌≡◌, inl, inr, ℕ, zero, suc, ◌+◌, ◌-◌, ◌≤◌, arith, refl, sym, ◌∙◌, subst, [], ◌∷◌}
use Rattle.std.specs.Prelude.{if◌then◌else◌}
use Rattle.std.proofs.Math.IntN.{ℤ, pos, negsuc, ◌+ℤ◌, ◌*ℤ◌, neg_ℤ, nat_abs}
use Rattle.std.proofs.lemmas.Int.{ints}
use Rattle.definitions.specs.declared.Vertex.{Vertex}
use Rattle.definitions.specs.declared.State.{State}
use Rattle.definitions.specs.declared.State.TheVariants as state
use Rattle.definitions.specs.Lattice.{is_long}
use Rattle.definitions.specs.States.{direction_of}
use Rattle.definitions.specs.Places.{lattice_place, state_place}
use Rattle.exact.specs.Polynomials.{variable, constant, plus, times, negate}
use Rattle.exact.proofs.Ring.{ring}
use Rattle.lattice_laws.specs.Vectors.{Vector, vector, origin, ◌*ᵥ◌, norm}
use Rattle.lattice_laws.specs.Kinds.{Direction, forward_1, forward_2, forward_3, forward_4, forward_5, forward_6, forward_7, backward_1, backward_2, backward_3, backward_4, backward_5, backward_6, backward_7, step_vector}
use Rattle.moved_lattice.specs.Duals.{limit}
use Rattle.snap_laws.specs.Around.{distance_of_cut}
use Rattle.displacement_laws.specs.Displacements.{displacement, IsDisplacement, displaced_by}
use Rattle.displacement_laws.specs.Laws.{DisplacementsAreSmall, NearStatesAreDisplaced}

-- ---- parts of a step

-- by k parts of a step, and by k parts of a step from where the whole step leads back
along_step : (a s : ℤ) (k : ℕ) → (a +ℤ (s *ℤ pos k)) +ℤ neg_ℤ a ≡ pos k *ℤ s
along_step a s k = ring (a ∷ s ∷ pos k ∷ []) (plus (plus (variable 0) (times (variable 1) (variable 2))) (negate (variable 0))) (times (variable 2) (variable 1)) refl

back_along_step : (a s : ℤ) (k t : ℕ) → k + t ≡ 4096 → ((a +ℤ (neg_ℤ s *ℤ pos 4096)) +ℤ (s *ℤ pos k)) +ℤ neg_ℤ a ≡ pos t *ℤ neg_ℤ s
back_along_step a s k t e =
    let f : pos k ≡ pos 4096 +ℤ neg_ℤ (pos t) = omega (arith, ints) in
    (λ i. ((a +ℤ (neg_ℤ s *ℤ pos 4096)) +ℤ (s *ℤ f i)) +ℤ neg_ℤ a)
    ∙ ring (a ∷ s ∷ pos t ∷ []) (plus (plus (plus (variable 0) (times (negate (variable 1)) (constant (pos 4096)))) (times (variable 1) (plus (constant (pos 4096)) (negate (variable 2))))) (negate (variable 0))) (times (variable 2) (negate (variable 1))) refl

module _ (v : Vertex) (k : ℕ) where
  forwards : (x y z : ℤ) → vector (((lattice_place v).x +ℤ (x *ℤ pos k)) +ℤ neg_ℤ (lattice_place v).x) (((lattice_place v).y +ℤ (y *ℤ pos k)) +ℤ neg_ℤ (lattice_place v).y) (((lattice_place v).z +ℤ (z *ℤ pos k)) +ℤ neg_ℤ (lattice_place v).z) ≡ pos k *ᵥ vector x y z
  forwards x y z = λ i. vector (along_step (lattice_place v).x x k i) (along_step (lattice_place v).y y k i) (along_step (lattice_place v).z z k i)

  backwards : (x y z : ℤ) → k ≤ 4096
      → vector ((((lattice_place v).x +ℤ (neg_ℤ x *ℤ pos 4096)) +ℤ (x *ℤ pos k)) +ℤ neg_ℤ (lattice_place v).x) ((((lattice_place v).y +ℤ (neg_ℤ y *ℤ pos 4096)) +ℤ (y *ℤ pos k)) +ℤ neg_ℤ (lattice_place v).y)
      ((((lattice_place v).z +ℤ (neg_ℤ z *ℤ pos 4096)) +ℤ (z *ℤ pos k)) +ℤ neg_ℤ (lattice_place v).z) ≡ pos (4096 - k) *ᵥ vector (neg_ℤ x) (neg_ℤ y) (neg_ℤ z)
  backwards x y z h =
      let e : k + (4096 - k) ≡ 4096 = omega arith in
      λ i. vector (back_along_step (lattice_place v).x x k (4096 - k) e i) (back_along_step (lattice_place v).y y k (4096 - k) e i) (back_along_step (lattice_place v).z z k (4096 - k) e i)

  -- a vertex moved onto a cut of one of its fourteen edges, within the limit
  moved_onto_cut : (edge : ℕ) → 1 ≤ edge → edge ≤ 14 → k ≤ 4096 → distance_of_cut edge k ≤ (if is_long (direction_of edge) then 1023 else 2047) → IsDisplacement (displacement v (state.Zero edge k))
  moved_onto_cut zero low high le near = absurd (omega arith)
  moved_onto_cut (suc zero) low high le near = displaced_by forward_1 k near (forwards (pos 2) (pos 0) (pos 0))
  moved_onto_cut (suc (suc zero)) low high le near = displaced_by forward_2 k near (forwards (pos 0) (pos 2) (pos 0))
  moved_onto_cut (suc (suc (suc zero))) low high le near = displaced_by forward_3 k near (forwards (negsuc 0) (negsuc 0) (pos 1))
  moved_onto_cut (suc (suc (suc (suc zero)))) low high le near = displaced_by forward_4 k near (forwards (pos 1) (negsuc 0) (pos 1))
  moved_onto_cut (suc (suc (suc (suc (suc zero))))) low high le near = displaced_by forward_5 k near (forwards (negsuc 0) (pos 1) (pos 1))
  moved_onto_cut (suc (suc (suc (suc (suc (suc zero)))))) low high le near = displaced_by forward_6 k near (forwards (pos 1) (pos 1) (pos 1))
  moved_onto_cut (suc (suc (suc (suc (suc (suc (suc zero))))))) low high le near = displaced_by forward_7 k near (forwards (pos 0) (pos 0) (pos 2))
  moved_onto_cut (suc (suc (suc (suc (suc (suc (suc (suc zero)))))))) low high le near = displaced_by backward_1 (4096 - k) near (backwards (pos 2) (pos 0) (pos 0) le)
  moved_onto_cut (suc (suc (suc (suc (suc (suc (suc (suc (suc zero))))))))) low high le near = displaced_by backward_2 (4096 - k) near (backwards (pos 0) (pos 2) (pos 0) le)
  moved_onto_cut (suc (suc (suc (suc (suc (suc (suc (suc (suc (suc zero)))))))))) low high le near = displaced_by backward_3 (4096 - k) near (backwards (negsuc 0) (negsuc 0) (pos 1) le)
  moved_onto_cut (suc (suc (suc (suc (suc (suc (suc (suc (suc (suc (suc zero))))))))))) low high le near = displaced_by backward_4 (4096 - k) near (backwards (pos 1) (negsuc 0) (pos 1) le)
  moved_onto_cut (suc (suc (suc (suc (suc (suc (suc (suc (suc (suc (suc (suc zero)))))))))))) low high le near = displaced_by backward_5 (4096 - k) near (backwards (negsuc 0) (pos 1) (pos 1) le)
  moved_onto_cut (suc (suc (suc (suc (suc (suc (suc (suc (suc (suc (suc (suc (suc zero))))))))))))) low high le near = displaced_by backward_6 (4096 - k) near (backwards (pos 1) (pos 1) (pos 1) le)
  moved_onto_cut (suc (suc (suc (suc (suc (suc (suc (suc (suc (suc (suc (suc (suc (suc zero)))))))))))))) low high le near = displaced_by backward_7 (4096 - k) near (backwards (pos 0) (pos 0) (pos 2) le)
  moved_onto_cut (suc (suc (suc (suc (suc (suc (suc (suc (suc (suc (suc (suc (suc (suc (suc edge))))))))))))))) low high le near = absurd (omega arith)

-- no displacement
pub still : IsDisplacement origin
still = displaced_by forward_1 0 (omega arith) (λ i. vector (go (pos 2) i) (go (pos 0) i) (go (pos 0) i))
  where
    go : (z : ℤ) → pos 0 ≡ pos 0 *ℤ z
    go z = ring (z ∷ []) (constant (pos 0)) (times (constant (pos 0)) (variable 0)) refl

less_itself : (p : Vector) → origin ≡ vector (p.x +ℤ neg_ℤ p.x) (p.y +ℤ neg_ℤ p.y) (p.z +ℤ neg_ℤ p.z)
less_itself p = λ i. vector (go p.x i) (go p.y i) (go p.z i)
  where
    go : (z : ℤ) → pos 0 ≡ z +ℤ neg_ℤ z
    go z = omega (arith, ints)

-- a state that stands on its vertex has no displacement
pub not_moved : (v : Vertex) (state : State) → state_place v state ≡ lattice_place v → displacement v state ≡ origin
not_moved v state e = (λ i. vector ((e i).x +ℤ neg_ℤ (lattice_place v).x) ((e i).y +ℤ neg_ℤ (lattice_place v).y) ((e i).z +ℤ neg_ℤ (lattice_place v).z)) ∙ sym (less_itself (lattice_place v))

-- a vertex on a cut at itself is not moved
at_vertex : (v : Vertex) → IsDisplacement (displacement v (state.Zero 0 0))
at_vertex v = displaced_by forward_1 0 (omega arith) (forwards v 0 (pos 0) (pos 0) (pos 0) ∙ (λ i. vector (go (pos 0) (pos 2) i) (go (pos 0) (pos 0) i) (go (pos 0) (pos 0) i)))
  where
    go : (y z : ℤ) → pos 0 *ℤ y ≡ pos 0 *ℤ z
    go y z = ring (y ∷ z ∷ []) (times (constant (pos 0)) (variable 0)) (times (constant (pos 0)) (variable 1)) refl

pub near_states_are_displaced : NearStatesAreDisplaced
near_states_are_displaced v state.Minus h = subst IsDisplacement (less_itself (lattice_place v)) still
near_states_are_displaced v state.Plus h = subst IsDisplacement (less_itself (lattice_place v)) still
near_states_are_displaced v (state.Zero edge k) (inl h) = subst IsDisplacement (λ i. displacement v (state.Zero (sym h.0 i) (sym h.1 i))) (at_vertex v)
near_states_are_displaced v (state.Zero edge k) (inr h) = moved_onto_cut v k edge h.0 h.1 h.2 h.3

-- ---- a displacement is at most 2047 on each axis
limit_small : (δ : Direction) (t : ℕ) → t ≤ limit δ → norm (pos t *ᵥ step_vector δ) ≤ 2047
limit_small forward_1 t h = go (pos t *ℤ pos 2) (pos t *ℤ pos 0) (pos t *ℤ pos 0) (omega (arith, ints)) (omega (arith, ints)) (omega (arith, ints))
  where
    go : (x y z : ℤ) → nat_abs x ≤ 2047 → nat_abs y ≤ 2047 → nat_abs z ≤ 2047 → norm (vector x y z) ≤ 2047
    go x y z hx hy hz = omega arith
limit_small δ t h = omega (arith, ints)

pub displacements_are_small : DisplacementsAreSmall
displacements_are_small p (displaced_by δ t h e) = subst (λ q. norm q ≤ 2047) (sym e) (limit_small δ t h)
