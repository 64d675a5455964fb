-- What words of bits tell of numbers, samples and corners.
use Rattle.std.proofs.Common.{◌≡◌, ◌≢◌, ℕ, zero, suc, ◌+◌, ◌-◌, ◌*◌, ◌<◌, ◌≤◌, ◌^◌, ◌⊎◌, inl, inr, refl, sym, ap, subst, ◌∙◌, arith, Bool, true, false, ◌&&◌, List, length, get_or, below_more, get_or-set_other, get_or-set_same, ℤ, pos}
use Rattle.std.specs.Prelude.{min, max, neg_ℤ, unsigned_abs, if◌then◌else◌}
use Rattle.std.specs.Int.{bit_at}
use Rattle.std.proofs.Math.ListN.{set}
use Rattle.std.proofs.lemmas.Bool.Decides.{nat_tests}
use Rattle.std.proofs.lemmas.Nat.Bits.{bit_at-zero}
use Rattle.definitions.specs.declared.Sign.{Sign}
use Rattle.definitions.specs.declared.Sign.TheVariants.{Minus, Zero, Plus}
use Rattle.definitions.specs.Values.{Field, corner_difference, is_inside, nearest, number_at, sign_of}
use Rattle.samples.proofs.SetBits.{not_both, where_is}
use Rattle.samples.specs.declared.sign_words.SignWords.{SignWords}
use Rattle.samples.specs.Rows.{is_row_inside, row_start}
use Rattle.samples.specs.SignWords.{IsTold, TellCorners, TellNumbers, none_told}

-- one more number
pub told_more : (zs : List ℤ) (first n : ℕ) (words result : SignWords) (z : ℤ) → TellNumbers zs first words → first ≤ n → z ≡ get_or zs n (pos 0) →
    ((s : Sign) (b : ℕ) → IsTold result s b → IsTold words s b ⊎ ((b ≡ n - first) × (sign_of z ≡ s))) → TellNumbers zs first result
told_more zs first n words result z before le same new s b told = elim (new s b told) [
  | inl old ↦ before s b old
  | inr own ↦
      (let place : first + b ≡ n = let e = own.0 in omega arith in
      ap (λ m. sign_of (get_or zs m (pos 0))) place ∙ ap sign_of (sym same) ∙ own.1)
]

-- words for 64 more numbers
pub words_more : (zs : List ℤ) (out : List SignWords) (q : ℕ) (w : SignWords) → q < length out → ((p : ℕ) → p < q → TellNumbers zs (64 * p) (get_or out p none_told)) → TellNumbers zs (64 * q) w →
    (p : ℕ) → p < q + 1 → TellNumbers zs (64 * p) (get_or (set out q w) p none_told)
words_more zs out q w lt known new =
    below_more (λ p. TellNumbers zs (64 * p) (get_or (set out q w) p none_told)) q
    (λ p h. let ne : p ≢ q = omega arith in subst (TellNumbers zs (64 * p)) (sym (get_or-set_other out q p w none_told ne)) (known p h))
    (subst (TellNumbers zs (64 * q)) (sym (get_or-set_same out q w none_told lt)) new)

-- ---- corners

-- a corner of the padding is Minus
minus : (b : Bool) (near : ℤ) → b ≡ false → sign_of (if b then near else neg_ℤ (pos (max 1 (unsigned_abs near)))) ≡ Minus
minus true near e = cc
minus false near e = below (max 1 (unsigned_abs near)) (omega arith)
  where
    below : (m : ℕ) → 1 ≤ m → sign_of (neg_ℤ (pos m)) ≡ Minus
    below zero h = absurd (omega arith)
    below (suc n) h = refl

row_outside : (f : Field) (i j k : ℕ) → is_row_inside f.dims j k ≡ false → sign_of (corner_difference f i j k) ≡ Minus
unfolding corner_difference
row_outside f i j k e = minus (is_inside f.dims.nx i && is_row_inside f.dims j k) (number_at f.dims f.differences (nearest f.dims.nx i) (nearest f.dims.ny j) (nearest f.dims.nz k)) (none (is_inside f.dims.nx i) (is_row_inside f.dims j k) e)
  where
    none : (a b : Bool) → b ≡ false → (a && b) ≡ false
    none true b e = e
    none false b e = refl

corner_outside : (f : Field) (i j k : ℕ) → is_inside f.dims.nx i ≡ false → sign_of (corner_difference f i j k) ≡ Minus
unfolding corner_difference
corner_outside f i j k e = minus (is_inside f.dims.nx i && is_row_inside f.dims j k) (number_at f.dims f.differences (nearest f.dims.nx i) (nearest f.dims.ny j) (nearest f.dims.nz k)) (λ t. e t && is_row_inside f.dims j k)

-- a corner of the image has its own number
corner_inside : (f : Field) (i j k : ℕ) → is_row_inside f.dims j k ≡ true → 1 ≤ i → i ≤ f.dims.nx → corner_difference f i j k ≡ get_or f.differences (row_start f.dims j k + (i - 1)) (pos 0)
unfolding corner_difference
corner_inside f i j k row low high =
    (λ t. if inside t && row t then number_at f.dims f.differences (nearest f.dims.nx i) (nearest f.dims.ny j) (nearest f.dims.nz k) else neg_ℤ (pos (max 1 (unsigned_abs (number_at f.dims f.differences (nearest f.dims.nx i) (nearest f.dims.ny j) (nearest f.dims.nz k))))))
    ∙ (λ t. get_or f.differences (row_start f.dims j k + own t) (pos 0))
  where
    inside : is_inside f.dims.nx i ≡ true
    inside = grind (arith, nat_tests)

    own : nearest f.dims.nx i ≡ i - 1
    own = omega arith

-- a row of the padding
pub padding_told : (f : Field) (i j k : ℕ) → is_row_inside f.dims j k ≡ false → TellCorners f i j k (record { plus = 0; zero = 0; minus = 2 ^ 64 - 1 })
padding_told f i j k e Plus b told c at = not_both (bit_at 0 b) (bit_at-zero b) told
padding_told f i j k e Zero b told c at = not_both (bit_at 0 b) (bit_at-zero b) told
padding_told f i j k e Minus b told c at = row_outside f c j k e

-- a row of the image
pub row_told : (f : Field) (i j k first before end : ℕ) (words result : SignWords) → is_row_inside f.dims j k ≡ true → i ≤ f.dims.nx + 2 →
    first ≡ row_start f.dims j k + (i - 2) → before ≡ 2 - min i 2 → end ≡ f.dims.nx + 2 - i → TellNumbers f.differences first words →
    ((s : Sign) (b : ℕ) → before ≤ b → b < end → IsTold result s b → IsTold words s (b - before)) →
    ((s : Sign) (b : ℕ) → (b < before) ⊎ (end ≤ b) → IsTold result s b → s ≡ Minus) →
    TellCorners f i j k result
row_told f i j k first before end words result row le first_is before_is end_is numbers inside padding s b told c at = elim (where_is b before) [
  | inl early ↦
      (let out : is_inside f.dims.nx c ≡ false = let low : c < 1 = omega arith in grind (arith, nat_tests) in
      corner_outside f c j k out ∙ sym (padding s b (inl early) told))
  | inr low ↦ elim (where_is b end) [
    | inr late ↦
        (let out : is_inside f.dims.nx c ≡ false = let high : f.dims.nx < c = omega arith in grind (arith, nat_tests) in
        corner_outside f c j k out ∙ sym (padding s b (inr late) told))
    | inl high ↦
        (let one : 1 ≤ c = omega arith in
        let most : c ≤ f.dims.nx = omega arith in
        let place : row_start f.dims j k + (c - 1) ≡ first + (b - before) = ap (λ m. row_start f.dims j k + m) (own c i b before one at before_is low) ∙ further (row_start f.dims j k) (i - 2) (b - before) first first_is in
        ap sign_of (corner_inside f c j k row one most) ∙ ap (λ m. sign_of (get_or f.differences m (pos 0))) place ∙ numbers s (b - before) (inside s b low high told))
  ]
]
  where
    own : (c i b before : ℕ) → 1 ≤ c → c + 1 ≡ i + b → before ≡ 2 - min i 2 → before ≤ b → c - 1 ≡ i - 2 + (b - before)
    own c i b before one at e low = omega arith

    further : (r m n first : ℕ) → first ≡ r + m → r + (m + n) ≡ first + n
    further r m n first e = omega arith
