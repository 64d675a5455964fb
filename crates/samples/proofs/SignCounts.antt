-- Counts of signs, by one more and by the whole, and how large they are.
use Rattle.std.proofs.Common.{◌≡◌, ℕ, suc, ◌+◌, ◌-◌, ◌*◌, ◌%◌, ◌/◌, ◌^◌, ◌<◌, ◌≤◌, Bool, true, false, cond, refl, sym, ◌∙◌, subst, arith}
use Rattle.std.specs.Prelude.{sum_by}
use Rattle.std.specs.List.{range_with_len}
use Rattle.std.proofs.Math.Nat.{mul-le-mul_right}
use Rattle.std.proofs.Math.IntN.{ℤ, pos, ◌*ℤ◌}
use Rattle.definitions.specs.declared.Sign.{Sign}
use Rattle.definitions.specs.Lattice.{IsDims, layers, vertex}
use Rattle.definitions.specs.Stencils.{is_plus, is_zero, is_minus}
use Rattle.definitions.specs.Values.{Field, corner_difference, cube_sum, value, sign_of}
use Rattle.formats.specs.Texts.{sign_count}
use Rattle.samples.specs.declared.count.Signs.{Signs}
use Rattle.samples.specs.SignCounts.{signs_by, signs_below, both, AreAtMost, one, value_in_row, row_count, layer_count}
use Rattle.lattice_counts.proofs.Sizes.{even_small, nx_small, nz_small}
use Rattle.samples.proofs.Sums.{sum_by-range_more, sum_by-range_at_most, sum_over_vertices}
use Rattle.samples.proofs.ValuesAt.{corner_value, centre_value}

-- one more
pub signs_below-more : (n : ℕ) (c : ℕ → (Sign → Bool) → ℕ) → signs_below (n + 1) c ≡ both (signs_below n c) (signs_by (c n))
signs_below-more n c = λ t. record { plus = more is_plus t; zero = more is_zero t; minus = more is_minus t }
  where
    more : (p : Sign → Bool) → sum_by (λ i. c i p) (range_with_len 0 (n + 1)) ≡ sum_by (λ i. c i p) (range_with_len 0 n) + c n p
    more p = let e : n + 1 ≡ suc n = omega arith in let o : 0 + n ≡ n = omega arith in rw e (sum_by-range_more (λ i. c i p) 0 n ∙ (λ t. sum_by (λ i. c i p) (range_with_len 0 n) + c (o t) p))

pub one_more : (n : ℕ) (c : ℕ → (Sign → Bool) → ℕ) (s t r : Signs) → s ≡ signs_below n c → t ≡ signs_by (c n) → r ≡ both s t → r ≡ signs_below (n + 1) c
one_more n c s t r known more e = e ∙ (λ i. both (known i) (more i)) ∙ sym (signs_below-more n c)

-- all of them
pub all_signs : (f : Field) → signs_below (layers f.dims) (layer_count f) ≡ signs_by (λ p. sign_count p f)
all_signs f = λ t. record { plus = whole is_plus t; zero = whole is_zero t; minus = whole is_minus t }
  where
    whole : (p : Sign → Bool) → sum_by (λ h. layer_count f h p) (range_with_len 0 (layers f.dims)) ≡ sign_count p f
    whole p = sym (sum_over_vertices (λ v. cond (p (sign_of (value f v))) 1 0) f.dims)

-- the value at a vertex of an even layer, at a corner, and of an odd one, at the centre of a cube
pub corner_in_row : (f : Field) (h j i : ℕ) → h % 2 ≡ 0 → pos 8 *ℤ corner_difference f i j (h / 2) ≡ value_in_row f h j i
corner_in_row f h j i even = sym (corner_value f i j (h / 2)) ∙ (λ t. value f (vertex (layer t) (place j t) (place i t)))
  where
    layer : 2 * (h / 2) ≡ h
    layer = omega arith

    place : (n : ℕ) → 2 * n ≡ 2 * n + h % 2
    place n = omega arith

pub centre_in_row : (f : Field) (h j i : ℕ) → h % 2 ≡ 1 → cube_sum f i j (h / 2) ≡ value_in_row f h j i
centre_in_row f h j i odd = sym (centre_value f i j (h / 2)) ∙ (λ t. value f (vertex (layer t) (place j t) (place i t)))
  where
    layer : 2 * (h / 2) + 1 ≡ h
    layer = omega arith

    place : (n : ℕ) → 2 * n + 1 ≡ 2 * n + h % 2
    place n = omega arith

-- ---- how large they are

pub at_most : (m n : ℕ) (s t : Signs) → s ≡ t → AreAtMost m t → m ≤ n → AreAtMost n s
at_most m n s t same few below = subst (AreAtMost n) (sym same) (record { plus = omega (arith, few.plus); zero = omega (arith, few.zero); minus = omega (arith, few.minus) })

few_below : (n m k : ℕ) (c : ℕ → (Sign → Bool) → ℕ) → ((i : ℕ) (p : Sign → Bool) → c i p ≤ m) → n * m ≤ k → AreAtMost k (signs_below n c)
few_below n m k c h room = record { plus = few is_plus; zero = few is_zero; minus = few is_minus }
  where
    few : (p : Sign → Bool) → sum_by (λ i. c i p) (range_with_len 0 n) ≤ k
    few p = let most = sum_by-range_at_most (λ i. c i p) m 0 n (λ i. h i p) in omega arith

-- values
pub few_values : (n : ℕ) (g : ℕ → ℤ) → AreAtMost n (signs_below n (λ i. one (g i)))
few_values n g = few_below n 1 n (λ i. one (g i)) (λ i p. single (p (sign_of (g i)))) (omega arith)
  where
    single : (b : Bool) → cond b 1 0 ≤ 1
    single true = omega arith
    single false = omega arith

module _ (f : Field) (sizes : IsDims f.dims) where
  square_within : (f.dims.ny + 2) * (f.dims.nx + 2) ≤ 2 ^ 26
  square_within = let e = even_small f.dims sizes in swapped (f.dims.nx + 2) (f.dims.ny + 2) e
    where
      swapped : (a b : ℕ) → a * b < 2 ^ 25 → b * a ≤ 2 ^ 26
      swapped a b h = omega arith

  row_at_most : (h j : ℕ) (p : Sign → Bool) → row_count f h j p ≤ f.dims.nx + 2
  row_at_most h j p =
      let most = sum_by-range_at_most (λ i. one (value_in_row f h j i) p) 1 0 (f.dims.nx + 2 - h % 2) (λ i. single (p (sign_of (value_in_row f h j i)))) in
      omega arith
    where
      single : (b : Bool) → cond b 1 0 ≤ 1
      single true = omega arith
      single false = omega arith

  rows_within : (h n : ℕ) (p : Sign → Bool) → n ≤ f.dims.ny + 2 → sum_by (λ j. row_count f h j p) (range_with_len 0 n) ≤ 2 ^ 26
  rows_within h n p below =
      let most = sum_by-range_at_most (λ j. row_count f h j p) (f.dims.nx + 2) 0 n (λ j. row_at_most h j p) in
      let square : n * (f.dims.nx + 2) ≤ (f.dims.ny + 2) * (f.dims.nx + 2) = mul-le-mul_right (f.dims.nx + 2) below in
      let within = square_within in
      omega arith

  -- a row
  pub few_in_row : (h j : ℕ) → AreAtMost (2 ^ 26) (signs_by (row_count f h j))
  few_in_row h j =
      let high = nx_small f.dims sizes in
      let n = f.dims.nx + 2 - h % 2 in
      at_most n (2 ^ 26) _ (signs_below n (λ i. one (value_in_row f h j i))) refl (few_values n (value_in_row f h j)) (omega arith)

  -- rows of a layer
  pub few_rows : (h n : ℕ) → n ≤ f.dims.ny + 2 → AreAtMost (2 ^ 26) (signs_below n (row_count f h))
  few_rows h n below = record { plus = rows_within h n is_plus below; zero = rows_within h n is_zero below; minus = rows_within h n is_minus below }

  pub few_in_layer : (h : ℕ) → AreAtMost (2 ^ 26) (signs_by (layer_count f h))
  few_in_layer h = few_rows h (f.dims.ny + 2 - h % 2) (omega arith)

  -- layers
  pub few_layers : (n : ℕ) → n ≤ layers f.dims → AreAtMost (2 ^ 53) (signs_below n (layer_count f))
  few_layers n below =
      let high = nz_small f.dims sizes in
      few_below n (2 ^ 26) (2 ^ 53) (layer_count f) (λ h p. rows_within h (f.dims.ny + 2 - h % 2) p (omega arith)) (omega arith)
