-- Where all corners around a vertex have one sign, its state is that of the sign alone.
use Rattle.std.proofs.Common.{◌≡◌, ℕ, zero, suc, ◌+◌, ◌-◌, ◌*◌, ◌/◌, ◌%◌, ◌<◌, ◌≤◌, arith, refl, sym, ◌∙◌, ap, Bool, true, false, ◌||◌, nat_le, map, Option, Some, None, ℤ, pos, negsuc}
use Rattle.std.specs.Prelude.{if◌then◌else◌, ◌==◌}
use Rattle.std.specs.Option.{option_map_or}
use Rattle.std.specs.List.{list_any, range_with_len}
use Rattle.std.proofs.Math.IntN.{◌+ℤ◌, ◌*ℤ◌}
use Rattle.std.proofs.lemmas.Int.{ints}
use Rattle.std.proofs.lemmas.Bool.Decides.{nat_tests}
use Rattle.definitions.specs.declared.Sign.{Sign}
use Rattle.definitions.specs.declared.Sign.TheVariants.{Minus, Zero, Plus}
use Rattle.definitions.specs.declared.Vertex.{Vertex}
use Rattle.definitions.specs.Cuts.{are_opposite}
use Rattle.definitions.specs.Lattice.{InDomain, moved, neighbour, step, directed, layers}
use Rattle.definitions.specs.States.{Shares, is_up, direction_of, snapped, state_of}
use Rattle.definitions.specs.Values.{Field, corner_difference, cube_sum, row_sum, square_sum, sign_of, value}
use Rattle.lattice_counts.specs.Counts.{row_len}
use Rattle.lattice_laws.proofs.EdgeSteps.{from_back}
use Rattle.lattice_laws.proofs.LaterNeighbours.{neighbour_leads}
use Rattle.lattice_laws.proofs.Steps.{after_step_1, after_step_2, after_step_3, after_step_4, after_step_5, after_step_6, after_step_7}
use Rattle.lattice_laws.proofs.Vertices.{domain_out}
use Rattle.snap_laws.specs.Around.{around}
use Rattle.snap_laws.proofs.ByValues.{states_by_values}
use Rattle.samples.specs.declared.SignWords.{SignWords}
use Rattle.samples.specs.SignWords.{IsTold}
use Rattle.snap_rule.specs.declared.columns.Lines.{Lines}
use Rattle.snap_rule.specs.Alike.{AreAround, IsNear, HasAround, TellAround, TellColumns, vertex_of_row}
use Rattle.snap_rule.proofs.Values.{state_alike}

-- ---- sums of one sign

sum_alike : (s : Sign) (a b : ℤ) → sign_of a ≡ s → sign_of b ≡ s → sign_of (a +ℤ b) ≡ s
sum_alike s a b p q = go a b s p q
  where
    positive : (z : ℤ) → (n : ℕ) → z ≡ pos (suc n) → sign_of z ≡ Plus
    positive z n e = ap sign_of e

    go : (a b : ℤ) (s : Sign) → sign_of a ≡ s → sign_of b ≡ s → sign_of (a +ℤ b) ≡ s
    go (pos zero) (pos zero) s p q = p
    go (pos zero) (pos (suc n)) s p q = cc (p, q)
    go (pos zero) (negsuc n) s p q = cc (p, q)
    go (pos (suc m)) (pos zero) s p q = cc (p, q)
    go (pos (suc m)) (pos (suc n)) s p q = positive (pos (suc m) +ℤ pos (suc n)) (m + suc n) (omega (arith, ints)) ∙ p
    go (pos (suc m)) (negsuc n) s p q = cc (p, q)
    go (negsuc m) (pos zero) s p q = cc (p, q)
    go (negsuc m) (pos (suc n)) s p q = cc (p, q)
    go (negsuc m) (negsuc n) s p q = (let e : negsuc m +ℤ negsuc n ≡ negsuc (m + suc n) = omega (arith, ints) in ap sign_of e) ∙ p

eight_alike : (s : Sign) (a : ℤ) → sign_of a ≡ s → sign_of (pos 8 *ℤ a) ≡ s
eight_alike s a p =
    ap sign_of e ∙ sum_alike s (two +ℤ two) (two +ℤ two) four four
  where
    two : ℤ
    two = a +ℤ a

    e : pos 8 *ℤ a ≡ (((a +ℤ a) +ℤ (a +ℤ a)) +ℤ ((a +ℤ a) +ℤ (a +ℤ a)))
    e = omega (arith, ints)

    four : sign_of ((a +ℤ a) +ℤ (a +ℤ a)) ≡ s
    four = sum_alike s (a +ℤ a) (a +ℤ a) (sum_alike s a a p p) (sum_alike s a a p p)

-- ---- vertices close to one another

-- at most 2 half units apart on each axis
record IsClose (v w : Vertex) : Type 0 where
  h_up : w.h ≤ v.h + 2
  h_down : v.h ≤ w.h + 2
  y_up : w.y ≤ v.y + 2
  y_down : v.y ≤ w.y + 2
  x_up : w.x ≤ v.x + 2
  x_down : v.x ≤ w.x + 2

close_back : (v w : Vertex) → IsClose v w → IsClose w v
close_back v w c = record { h_up = c.h_down; h_down = c.h_up; y_up = c.y_down; y_down = c.y_up; x_up = c.x_down; x_down = c.x_up }

close_to_itself : (v : Vertex) → IsClose v v
close_to_itself v = record { h_up = omega arith; h_down = omega arith; y_up = omega arith; y_down = omega arith; x_up = omega arith; x_down = omega arith }

step_is_close : (dir : ℕ) (v w : Vertex) → 1 ≤ dir → dir < 1 + 7 → moved v (step dir) ≡ Some w → IsClose v w
step_is_close zero v w h k e = absurd (omega arith)
step_is_close (suc zero) v w h k e = let p = after_step_1 v w e in record { h_up = omega arith; h_down = omega arith; y_up = omega arith; y_down = omega arith; x_up = omega arith; x_down = omega arith }
step_is_close (suc (suc zero)) v w h k e = let p = after_step_2 v w e in record { h_up = omega arith; h_down = omega arith; y_up = omega arith; y_down = omega arith; x_up = omega arith; x_down = omega arith }
step_is_close (suc (suc (suc zero))) v w h k e = let p = after_step_3 v w e in record { h_up = omega arith; h_down = omega arith; y_up = omega arith; y_down = omega arith; x_up = omega arith; x_down = omega arith }
step_is_close (suc (suc (suc (suc zero)))) v w h k e = let p = after_step_4 v w e in record { h_up = omega arith; h_down = omega arith; y_up = omega arith; y_down = omega arith; x_up = omega arith; x_down = omega arith }
step_is_close (suc (suc (suc (suc (suc zero))))) v w h k e = let p = after_step_5 v w e in record { h_up = omega arith; h_down = omega arith; y_up = omega arith; y_down = omega arith; x_up = omega arith; x_down = omega arith }
step_is_close (suc (suc (suc (suc (suc (suc zero)))))) v w h k e = let p = after_step_6 v w e in record { h_up = omega arith; h_down = omega arith; y_up = omega arith; y_down = omega arith; x_up = omega arith; x_down = omega arith }
step_is_close (suc (suc (suc (suc (suc (suc (suc zero))))))) v w h k e = let p = after_step_7 v w e in record { h_up = omega arith; h_down = omega arith; y_up = omega arith; y_down = omega arith; x_up = omega arith; x_down = omega arith }
step_is_close (suc (suc (suc (suc (suc (suc (suc (suc j)))))))) v w h k e = absurd (omega arith)

neighbour_is_close : (edge : ℕ) (v w : Vertex) → 1 ≤ edge → edge ≤ 14 → moved v (directed (is_up edge) (step (direction_of edge))) ≡ Some w → IsClose v w
neighbour_is_close edge v w low high e = go (nat_le edge 7) refl e
  where
    go : (b : Bool) → nat_le edge 7 ≡ b → moved v (directed b (step (if b then edge else edge - 7))) ≡ Some w → IsClose v w
    go true q e = step_is_close edge v w low (let k : edge ≤ 7 = grind (arith, nat_tests) in omega arith) e
    go false q e =
        let k : 7 < edge = grind (arith, nat_tests) in
        close_back w v (step_is_close (edge - 7) w v (omega arith) (omega arith) (from_back (edge - 7) v w (omega arith) (omega arith) e))

-- ---- values around

odd : (h : ℕ) → (h % 2 == 0) ≡ false → h % 2 ≡ 1
odd h e = grind (arith, nat_tests)

module _ (f : Field) (v : Vertex) (s : Sign) (alike : HasAround f v s) where
  corner_alike : (w : Vertex) → InDomain f.dims w → IsClose v w → w.h % 2 ≡ 0 → sign_of (corner_difference f (w.x / 2) (w.y / 2) (w.h / 2)) ≡ s
  corner_alike w is c e =
      let y = is.y_alike in
      let x = is.x_alike in
      alike (w.x / 2) (w.y / 2) (w.h / 2)
      (here f.dims.nx v.x w.x (omega arith) is.x_below c.x_up c.x_down)
      (here f.dims.ny v.y w.y (omega arith) is.y_below c.y_up c.y_down)
      (here f.dims.nz v.h w.h e is.h_below c.h_up c.h_down)
    where
      here : (n x w : ℕ) → w % 2 ≡ 0 → w < 2 * n + 3 → w ≤ x + 2 → x ≤ w + 2 → IsNear n x (w / 2)
      here n x w e below up down = record { within = omega arith; above = omega arith; below = omega arith }

  centre_alike : (w : Vertex) → InDomain f.dims w → IsClose v w → w.h % 2 ≡ 1 → sign_of (cube_sum f (w.x / 2) (w.y / 2) (w.h / 2)) ≡ s
  centre_alike w is c e =
      let y = is.y_alike in
      let x = is.x_alike in
      let x_near = near f.dims.nx v.x w.x (omega arith) is.x_below c.x_up c.x_down in
      let y_near = near f.dims.ny v.y w.y (omega arith) is.y_below c.y_up c.y_down in
      let h_near = near f.dims.nz v.h w.h e is.h_below c.h_up c.h_down in
      square (w.x / 2) (w.y / 2) (w.h / 2) x_near y_near h_near
    where
      near : (n x w : ℕ) → w % 2 ≡ 1 → w < 2 * n + 3 → w ≤ x + 2 → x ≤ w + 2 → IsNear n x (w / 2) × IsNear n x (w / 2 + 1)
      near n x w e below up down = (record { within = omega arith; above = omega arith; below = omega arith }, record { within = omega arith; above = omega arith; below = omega arith })

      row : (i j k : ℕ) → IsNear f.dims.nx v.x i × IsNear f.dims.nx v.x (i + 1) → IsNear f.dims.ny v.y j → IsNear f.dims.nz v.h k → sign_of (row_sum f i j k) ≡ s
      row i j k p q r = sum_alike s (corner_difference f i j k) (corner_difference f (i + 1) j k) (alike i j k p.0 q r) (alike (i + 1) j k p.1 q r)

      side : (i j k : ℕ) → IsNear f.dims.nx v.x i × IsNear f.dims.nx v.x (i + 1) → IsNear f.dims.ny v.y j × IsNear f.dims.ny v.y (j + 1) → IsNear f.dims.nz v.h k → sign_of (square_sum f i j k) ≡ s
      side i j k p q r = sum_alike s (row_sum f i j k) (row_sum f i (j + 1) k) (row i j k p q.0 r) (row i (j + 1) k p q.1 r)

      square : (i j k : ℕ) → IsNear f.dims.nx v.x i × IsNear f.dims.nx v.x (i + 1) → IsNear f.dims.ny v.y j × IsNear f.dims.ny v.y (j + 1) → IsNear f.dims.nz v.h k × IsNear f.dims.nz v.h (k + 1) → sign_of (cube_sum f i j k) ≡ s
      square i j k p q r = sum_alike s (square_sum f i j k) (square_sum f i j (k + 1)) (side i j k p q r.0) (side i j (k + 1) p q r.1)

  value_alike : (w : Vertex) → InDomain f.dims w → IsClose v w → sign_of (value f w) ≡ s
  unfolding value
  value_alike w is c = go (w.h % 2 == 0) refl
    where
      go : (b : Bool) → (w.h % 2 == 0) ≡ b → sign_of (if b then pos 8 *ℤ corner_difference f (w.x / 2) (w.y / 2) (w.h / 2) else cube_sum f (w.x / 2) (w.y / 2) (w.h / 2)) ≡ s
      go true e = eight_alike s (corner_difference f (w.x / 2) (w.y / 2) (w.h / 2)) (corner_alike w is c (grind (arith, nat_tests)))
      go false e = centre_alike w is c (odd w.h e)

  not_opposite : (s : Sign) → are_opposite s s ≡ false
  not_opposite Minus = refl
  not_opposite Zero = refl
  not_opposite Plus = refl

  not_opposite_zero : (s : Sign) → are_opposite s Zero ≡ false
  not_opposite_zero Minus = refl
  not_opposite_zero Zero = refl
  not_opposite_zero Plus = refl

  edge_alike : (edge : ℕ) → 1 ≤ edge → edge ≤ 14 → are_opposite s (sign_of (around f v edge)) ≡ false
  edge_alike edge low high = go (neighbour f.dims v (direction_of edge) (is_up edge)) refl
    where
      go : (o : Option Vertex) → neighbour f.dims v (direction_of edge) (is_up edge) ≡ o → are_opposite s (sign_of (option_map_or (value f) o (pos 0))) ≡ false
      go None e = not_opposite_zero s
      go (Some w) e =
          let leads = neighbour_leads f.dims v w (direction_of edge) (is_up edge) e in
          ap (are_opposite s) (value_alike w (domain_out f.dims w leads.1) (neighbour_is_close edge v w low high leads.0)) ∙ not_opposite s

  edges_alike : (own : ℤ) → sign_of own ≡ s → (a n : ℕ) → 1 ≤ a → a + n ≤ 15 → list_any (λ z. are_opposite (sign_of own) (sign_of z)) (map (around f v) (range_with_len a n)) ≡ false
  edges_alike own e a zero low high = refl
  edges_alike own e a (suc n) low high =
      λ i. ((λ t. are_opposite (e t) (sign_of (around f v a))) ∙ edge_alike a low (omega arith)) i || edges_alike own e (a + 1) n (omega arith) (omega arith) i

  pub state_of_alike : (shares : Shares) → InDomain f.dims v → state_of f shares v ≡ snapped s None
  state_of_alike shares is =
      let own = value_alike v is (close_to_itself v) in
      states_by_values f shares v is
      ∙ sym (state_alike shares (value f v) (map (around f v) (range_with_len 1 14)) (edges_alike (value f v) own 1 14 (omega arith) (omega arith)))
      ∙ ap (λ g. snapped g None) own

-- ---- by words

pub around_told : (f : Field) (l : Lines) (h j i : ℕ) (w result : SignWords) → AreAround f l h (j * 2 + h % 2) → TellColumns f l i w →
    ((s : Sign) (b : ℕ) → IsTold result s b → (t : ℕ) → t ≤ 2 + h % 2 → IsTold w s (b + t)) → TellAround f h j i result
around_told f l h j i w result lines columns next s b told c cj ck p q r =
    let j_lines = lines.y_lines cj q in
    let k_lines = lines.z_lines ck r in
    let low : i + b ≤ c + 1 = first i b h c p.above in
    let high : c + 1 - (i + b) ≤ 2 + h % 2 = last i b h c p.below in
    columns s (b + (c + 1 - (i + b))) (next s b told (c + 1 - (i + b)) high) c (omega arith) cj ck j_lines.0 j_lines.1 k_lines.0 k_lines.1
  where
    first : (i b h c : ℕ) → (i + b) * 2 + h % 2 ≤ 2 * c + 3 → i + b ≤ c + 1
    first i b h c p = omega arith

    last : (i b h c : ℕ) → 2 * c ≤ (i + b) * 2 + h % 2 + 3 → c + 1 - (i + b) ≤ 2 + h % 2
    last i b h c p = omega arith

-- a vertex of a row that is told to have one sign around
pub told_alike : (f : Field) (shares : Shares) (h j i b : ℕ) (w : SignWords) (s : Sign) → h < layers f.dims → j < row_len f.dims.ny h → i + b < row_len f.dims.nx h → TellAround f h j i w → IsTold w s b →
    snapped s None ≡ state_of f shares (vertex_of_row h j (i + b))
told_alike f shares h j i b w s layer row column around told = sym (state_of_alike f (vertex_of_row h j (i + b)) s (around s b told) shares inside)
  where
    inside : InDomain f.dims (vertex_of_row h j (i + b))
    inside = record { h_below = omega arith; y_below = omega arith; x_below = omega arith; y_alike = omega arith; x_alike = omega arith }
