-- A vertex of the padding has a value of at most 0: a padding corner lies below the level, and in a cube with padding corners each of these outweighs its inner neighbour.
use Rattle.std.proofs.Common.{inl, inr, ◌⊎◌, ◌≡◌, ℕ, zero, suc, ◌+◌, ◌*◌, ◌/◌, ◌%◌, ◌<◌, ◌≤◌, max, Bool, true, false, ◌&&◌, nat_le, length, map, refl, sym, ap, ◌∙◌, arith}
use Rattle.std.specs.Prelude.{if◌then◌else◌, ◌==◌, unsigned_abs, Option, Some, None}
use Rattle.std.proofs.Math.IntN.{ℤ, pos, negsuc, ◌+ℤ◌, ◌*ℤ◌, neg_ℤ}
use Rattle.std.proofs.lemmas.Int.{ints}
use Rattle.std.proofs.lemmas.Bool.{eqb-true, leb-true, leb-false, le-leb, and_parts, and_from, true_from_ne_false}
use Rattle.std.proofs.lemmas.Bool.Decides.{nat_tests}
use Rattle.std.proofs.lemmas.List.{get_or-map, length-map}
use lib.Signed.{◌<ℤ◌, ◌≤ℤ◌}
use Rattle.definitions.specs.declared.Vertex.{Vertex}
use Rattle.definitions.specs.declared.Near.{Near}
use Rattle.definitions.specs.declared.State.TheVariants as state
use Rattle.definitions.specs.declared.Sign.{Sign}
use Rattle.definitions.specs.declared.Sign.TheVariants.{Minus, Zero, Plus}
use Rattle.definitions.specs.Lattice.{InDomain, vertex, vertices, vertex_at}
use Rattle.definitions.specs.Values.{Field, number_at, is_inside, nearest, corner_difference, cube_sum, value, sign_of}
use Rattle.definitions.specs.States.{Shares, state_of, states, snapped, sign_of_state}
use Rattle.definitions.specs.Mesh.{is_inner, state_at}
use Rattle.lattice_laws.proofs.Sublists.{has_at}
use Rattle.lattice_laws.proofs.Vertices.{from_vertices}
use Rattle.node_laws.specs.Laws.{StatesArePadded}

-- ---- corners

-- the number of the sample nearest to a corner
abbrev nearest_number : Field → ℕ → ℕ → ℕ → ℤ
nearest_number f i j k = number_at f.dims f.differences (nearest f.dims.nx i) (nearest f.dims.ny j) (nearest f.dims.nz k)

abbrev is_corner_inside : Field → ℕ → ℕ → ℕ → Bool
is_corner_inside f i j k = is_inside f.dims.nx i && (is_inside f.dims.ny j && is_inside f.dims.nz k)

chosen_at_most : (b : Bool) (z : ℤ) → (if b then z else neg_ℤ (pos (max 1 (unsigned_abs z)))) ≤ℤ pos (unsigned_abs z)
chosen_at_most true z = omega (arith, ints)
chosen_at_most false z = omega (arith, ints)

chosen_below : (b : Bool) (z : ℤ) → b ≡ false → (if b then z else neg_ℤ (pos (max 1 (unsigned_abs z)))) ≤ℤ neg_ℤ (pos (max 1 (unsigned_abs z)))
chosen_below true z e = cc
chosen_below false z e = omega (arith, ints)

-- ---- two numbers beside each other on an axis of n samples

-- the sum of one number that lies below 0 by more than another above
balanced : (a b m n : ℤ) → a ≤ℤ neg_ℤ (pos (max 1 (unsigned_abs m))) → b ≤ℤ pos (unsigned_abs n) → m ≡ n → (a +ℤ b) ≤ℤ pos 0
balanced a b m n h i e = omega (arith, ints)

swapped : (a b : ℤ) → (a +ℤ b) ≤ℤ pos 0 → (b +ℤ a) ≤ℤ pos 0
swapped a b h = omega (arith, ints)

-- below the first sample and above the last one nothing is inside, and the sample beside it is the nearest one
below_first : (n i : ℕ) → i ≡ 0 → (is_inside n i ≡ false) × (nearest n i ≡ nearest n (i + 1))
below_first n i e = (grind (arith, nat_tests), omega arith)

above_last : (n i : ℕ) → i ≡ n → (is_inside n (i + 1) ≡ false) × (nearest n (i + 1) ≡ nearest n i)
above_last n i e = (grind (arith, nat_tests), omega arith)

-- The differences g lie by the numbers m of the nearest samples: at most as far above 0, and outside at least as far below 0.
module _ (n : ℕ) (g m : ℕ → ℤ) (most : (i : ℕ) → g i ≤ℤ pos (unsigned_abs (m (nearest n i)))) (out : (i : ℕ) → is_inside n i ≡ false → g i ≤ℤ neg_ℤ (pos (max 1 (unsigned_abs (m (nearest n i)))))) where
  beside : (i : ℕ) → (i ≡ 0) ⊎ (i ≡ n) → (g i +ℤ g (i + 1)) ≤ℤ pos 0
  beside i (inl e) = let b = below_first n i e in balanced (g i) (g (i + 1)) (m (nearest n i)) (m (nearest n (i + 1))) (out i b.0) (most (i + 1)) (ap m b.1)
  beside i (inr e) =
      let a = above_last n i e in
      swapped (g (i + 1)) (g i) (balanced (g (i + 1)) (g i) (m (nearest n (i + 1))) (m (nearest n i)) (out (i + 1) a.0) (most i) (ap m a.1))

module _ (f : Field) where
  -- a difference is at most the size of the nearest number, and outside it is at least as far below 0, and below 0
  at_most : (i j k : ℕ) → corner_difference f i j k ≤ℤ pos (unsigned_abs (nearest_number f i j k))
  unfolding corner_difference
  at_most i j k = chosen_at_most (is_corner_inside f i j k) (nearest_number f i j k)

  outside : (i j k : ℕ) → is_corner_inside f i j k ≡ false → corner_difference f i j k ≤ℤ neg_ℤ (pos (max 1 (unsigned_abs (nearest_number f i j k))))
  unfolding corner_difference
  outside i j k e = chosen_below (is_corner_inside f i j k) (nearest_number f i j k) e

  -- a corner is outside where it is on one axis
  out_left : (a b c : Bool) → a ≡ false → (a && (b && c)) ≡ false
  out_left a b c e = ap (λ t. t && (b && c)) e

  out_middle : (a b c : Bool) → b ≡ false → (a && (b && c)) ≡ false
  out_middle true b c e = ap (λ t. t && c) e
  out_middle false b c e = refl

  out_right : (a b c : Bool) → c ≡ false → (a && (b && c)) ≡ false
  out_right true true c e = e
  out_right true false c e = refl
  out_right false b c e = refl

  -- two corners beside each other on an axis, one of them outside
  beside_x : (i j k : ℕ) → (i ≡ 0) ⊎ (i ≡ f.dims.nx) → (corner_difference f i j k +ℤ corner_difference f (i + 1) j k) ≤ℤ pos 0
  beside_x i j k =
      beside f.dims.nx (λ n. corner_difference f n j k) (λ n. number_at f.dims f.differences n (nearest f.dims.ny j) (nearest f.dims.nz k)) (λ n. at_most n j k)
      (λ n o. outside n j k (out_left (is_inside f.dims.nx n) (is_inside f.dims.ny j) (is_inside f.dims.nz k) o)) i

  beside_y : (i j k : ℕ) → (j ≡ 0) ⊎ (j ≡ f.dims.ny) → (corner_difference f i j k +ℤ corner_difference f i (j + 1) k) ≤ℤ pos 0
  beside_y i j k =
      beside f.dims.ny (λ n. corner_difference f i n k) (λ n. number_at f.dims f.differences (nearest f.dims.nx i) n (nearest f.dims.nz k)) (λ n. at_most i n k)
      (λ n o. outside i n k (out_middle (is_inside f.dims.nx i) (is_inside f.dims.ny n) (is_inside f.dims.nz k) o)) j

  beside_z : (i j k : ℕ) → (k ≡ 0) ⊎ (k ≡ f.dims.nz) → (corner_difference f i j k +ℤ corner_difference f i j (k + 1)) ≤ℤ pos 0
  beside_z i j k =
      beside f.dims.nz (λ n. corner_difference f i j n) (λ n. number_at f.dims f.differences (nearest f.dims.nx i) (nearest f.dims.ny j) n) (λ n. at_most i j n)
      (λ n o. outside i j n (out_right (is_inside f.dims.nx i) (is_inside f.dims.ny j) (is_inside f.dims.nz n) o)) k

  -- ---- cubes

  eight_x : (a b c d e g h i : ℤ) → (a +ℤ b) ≤ℤ pos 0 → (c +ℤ d) ≤ℤ pos 0 → (e +ℤ g) ≤ℤ pos 0 → (h +ℤ i) ≤ℤ pos 0 → (((a +ℤ b) +ℤ (c +ℤ d)) +ℤ ((e +ℤ g) +ℤ (h +ℤ i))) ≤ℤ pos 0
  eight_x a b c d e g h i p q r s = omega (arith, ints)

  eight_y : (a b c d e g h i : ℤ) → (a +ℤ c) ≤ℤ pos 0 → (b +ℤ d) ≤ℤ pos 0 → (e +ℤ h) ≤ℤ pos 0 → (g +ℤ i) ≤ℤ pos 0 → (((a +ℤ b) +ℤ (c +ℤ d)) +ℤ ((e +ℤ g) +ℤ (h +ℤ i))) ≤ℤ pos 0
  eight_y a b c d e g h i p q r s = omega (arith, ints)

  eight_z : (a b c d e g h i : ℤ) → (a +ℤ e) ≤ℤ pos 0 → (b +ℤ g) ≤ℤ pos 0 → (c +ℤ h) ≤ℤ pos 0 → (d +ℤ i) ≤ℤ pos 0 → (((a +ℤ b) +ℤ (c +ℤ d)) +ℤ ((e +ℤ g) +ℤ (h +ℤ i))) ≤ℤ pos 0
  eight_z a b c d e g h i p q r s = omega (arith, ints)

  module _ (i j k : ℕ) where
    -- the cube has a face of padding corners
    abbrev IsEdge : Type 0
    IsEdge = ((i ≡ 0) ⊎ (i ≡ f.dims.nx)) ⊎ (((j ≡ 0) ⊎ (j ≡ f.dims.ny)) ⊎ ((k ≡ 0) ⊎ (k ≡ f.dims.nz)))

    cube_not_above : IsEdge → cube_sum f i j k ≤ℤ pos 0
    cube_not_above (inl e) =
        eight_x (corner_difference f i j k) (corner_difference f (i + 1) j k) (corner_difference f i (j + 1) k) (corner_difference f (i + 1) (j + 1) k)
        (corner_difference f i j (k + 1)) (corner_difference f (i + 1) j (k + 1)) (corner_difference f i (j + 1) (k + 1)) (corner_difference f (i + 1) (j + 1) (k + 1))
        (beside_x i j k e) (beside_x i (j + 1) k e) (beside_x i j (k + 1) e) (beside_x i (j + 1) (k + 1) e)
    cube_not_above (inr (inl e)) =
        eight_y (corner_difference f i j k) (corner_difference f (i + 1) j k) (corner_difference f i (j + 1) k) (corner_difference f (i + 1) (j + 1) k)
        (corner_difference f i j (k + 1)) (corner_difference f (i + 1) j (k + 1)) (corner_difference f i (j + 1) (k + 1)) (corner_difference f (i + 1) (j + 1) (k + 1))
        (beside_y i j k e) (beside_y (i + 1) j k e) (beside_y i j (k + 1) e) (beside_y (i + 1) j (k + 1) e)
    cube_not_above (inr (inr e)) =
        eight_z (corner_difference f i j k) (corner_difference f (i + 1) j k) (corner_difference f i (j + 1) k) (corner_difference f (i + 1) (j + 1) k)
        (corner_difference f i j (k + 1)) (corner_difference f (i + 1) j (k + 1)) (corner_difference f i (j + 1) (k + 1)) (corner_difference f (i + 1) (j + 1) (k + 1))
        (beside_z i j k e) (beside_z (i + 1) j k e) (beside_z i (j + 1) k e) (beside_z (i + 1) (j + 1) k e)

  -- ---- vertices

  no_gain : (z : ℤ) → z ≤ℤ pos 0 → pos 0 <ℤ z → ⊥
  no_gain z h i = absurd (omega (arith, ints))

  eight_times : (z : ℤ) (m : ℕ) → z ≤ℤ neg_ℤ (pos (max 1 m)) → pos 0 <ℤ (pos 8 *ℤ z) → ⊥
  eight_times z m h i = absurd (omega (arith, ints))

  six : (a b c d e g : Bool) → (a ≡ true) → (b ≡ true) → (c ≡ true) → (d ≡ true) → (e ≡ true) → (g ≡ true) → (a && (b && (c && (d && (e && g))))) ≡ true
  six a b c d e g p q r s t u = and_from a _ p (and_from b _ q (and_from c _ r (and_from d _ s (and_from e g t u))))

  inside_inner : (n x : ℕ) → x % 2 ≡ 0 → is_inside n (x / 2) ≡ true → (nat_le 2 x ≡ true) × (nat_le x (2 * n) ≡ true)
  inside_inner n x e h =
      let s = and_parts (nat_le 1 (x / 2)) (nat_le (x / 2) n) h in
      let low : 1 ≤ x / 2 = leb-true 1 (x / 2) s.0 in
      let high : x / 2 ≤ n = leb-true (x / 2) n s.1 in
      (le-leb 2 x (omega arith), le-leb x (2 * n) (omega arith))

  low_edge : (x : ℕ) → x % 2 ≡ 1 → nat_le 2 x ≡ false → x / 2 ≡ 0
  low_edge x e h = let f : x < 2 = leb-false 2 x h in omega arith

  high_edge : (n x : ℕ) → x < 2 * n + 3 → x % 2 ≡ 1 → nat_le x (2 * n) ≡ false → x / 2 ≡ n
  high_edge n x lt e h = let f : 2 * n < x = leb-false x (2 * n) h in omega arith

  odd : (h : ℕ) → (h % 2 == 0) ≡ false → h % 2 ≡ 1
  odd h e = grind (arith, nat_tests)

  -- a vertex of the domain with a value above 0 is inner
  above_is_inner : (v : Vertex) → InDomain f.dims v → pos 0 <ℤ value f v → is_inner f.dims v ≡ true
  unfolding value
  above_is_inner v k h = go (v.h % 2 == 0) refl h
    where
      go : (b : Bool) → (v.h % 2 == 0) ≡ b → pos 0 <ℤ (if b then pos 8 *ℤ corner_difference f (v.x / 2) (v.y / 2) (v.h / 2) else cube_sum f (v.x / 2) (v.y / 2) (v.h / 2)) → is_inner f.dims v ≡ true
      go true e h =
          let z = eqb-true (v.h % 2) 0 e in
          let t = true_from_ne_false (is_corner_inside f (v.x / 2) (v.y / 2) (v.h / 2)) (λ o. eight_times (corner_difference f (v.x / 2) (v.y / 2) (v.h / 2)) (unsigned_abs (nearest_number f (v.x / 2) (v.y / 2) (v.h / 2))) (outside (v.x / 2) (v.y / 2) (v.h / 2) o) h) in
          let s = and_parts (is_inside f.dims.nx (v.x / 2)) _ t in
          let r = and_parts (is_inside f.dims.ny (v.y / 2)) _ s.1 in
          let x = inside_inner f.dims.nx v.x (k.x_alike ∙ z) s.0 in
          let y = inside_inner f.dims.ny v.y (k.y_alike ∙ z) r.0 in
          let w = inside_inner f.dims.nz v.h z r.1 in
          six (nat_le 2 v.h) (nat_le v.h (2 * f.dims.nz)) (nat_le 2 v.y) (nat_le v.y (2 * f.dims.ny)) (nat_le 2 v.x) (nat_le v.x (2 * f.dims.nx)) w.0 w.1 y.0 y.1 x.0 x.1
      go false e h =
          let o = odd v.h e in
          let no : IsEdge (v.x / 2) (v.y / 2) (v.h / 2) → ⊥ = λ g. no_gain (cube_sum f (v.x / 2) (v.y / 2) (v.h / 2)) (cube_not_above (v.x / 2) (v.y / 2) (v.h / 2) g) h in
          six (nat_le 2 v.h) (nat_le v.h (2 * f.dims.nz)) (nat_le 2 v.y) (nat_le v.y (2 * f.dims.ny)) (nat_le 2 v.x) (nat_le v.x (2 * f.dims.nx))
          (true_from_ne_false (nat_le 2 v.h) (λ g. no (inr (inr (inl (low_edge v.h o g))))))
          (true_from_ne_false (nat_le v.h (2 * f.dims.nz)) (λ g. no (inr (inr (inr (high_edge f.dims.nz v.h k.h_below o g))))))
          (true_from_ne_false (nat_le 2 v.y) (λ g. no (inr (inl (inl (low_edge v.y (k.y_alike ∙ o) g))))))
          (true_from_ne_false (nat_le v.y (2 * f.dims.ny)) (λ g. no (inr (inl (inr (high_edge f.dims.ny v.y k.y_below (k.y_alike ∙ o) g))))))
          (true_from_ne_false (nat_le 2 v.x) (λ g. no (inl (inl (low_edge v.x (k.x_alike ∙ o) g)))))
          (true_from_ne_false (nat_le v.x (2 * f.dims.nx)) (λ g. no (inl (inr (high_edge f.dims.nx v.x k.x_below (k.x_alike ∙ o) g)))))

-- ---- states

snapped_plus : (s : Sign) (n : Option Near) → sign_of_state (snapped s n) ≡ Plus → s ≡ Plus
snapped_plus Plus n h = refl
snapped_plus Zero n h = cc
snapped_plus Minus None h = cc
snapped_plus Minus (Some n) h = cc

sign_plus : (z : ℤ) → sign_of z ≡ Plus → pos 0 <ℤ z
sign_plus (pos zero) h = cc
sign_plus (pos (suc n)) h = omega (arith, ints)
sign_plus (negsuc n) h = cc

plus_above : (f : Field) (s : Shares) (v : Vertex) → sign_of_state (state_of f s v) ≡ Plus → pos 0 <ℤ value f v
unfolding state_of
plus_above f s v h = sign_plus (value f v) (snapped_plus (sign_of (value f v)) _ h)

pub states_are_padded : StatesArePadded
unfolding states
states_are_padded f s = record {
  whole = length-map (vertices f.dims) (state_of f s);
  inner = λ n lt h.
      (let l = length-map (vertices f.dims) (state_of f s) in
      let b : n < length (vertices f.dims) = omega arith in
      let e : state_at (map (state_of f s) (vertices f.dims)) n ≡ state_of f s (vertex_at f.dims n) = get_or-map (state_of f s) (vertices f.dims) n (vertex 0 0 0) state.Minus b in
      above_is_inner f (vertex_at f.dims n) (from_vertices f.dims (vertex_at f.dims n) (has_at (vertices f.dims) n (vertex 0 0 0) b)) (plus_above f s (vertex_at f.dims n) (ap sign_of_state (sym e) ∙ h)));
}
