-- Tests over seven directions, lists of seven, and eight answers as bits.
use Rattle.std.proofs.Common.{◌≡◌, ℕ, ◌+◌, ◌*◌, ◌<◌, Bool, true, false, ◌||◌, List, [], ◌∷◌, length, arith, refl, sym, ap, ◌∙◌, get_or, if◌then◌else◌}
use mir.Val.{bool_byte}
use Rattle.vertex_numbers.specs.Bits.{bits}
use Rattle.std.specs.List.{list_any, range_with_len}
use Rattle.std.proofs.lemmas.List.Folds.{list_any_at}
use Rattle.std.proofs.lemmas.List.FromFn.{get_or-range_with_len, length-range_with_len}

pub any_of_seven : (p : ℕ → Bool) (k : ℕ) → k < 7 → p (k + 1) ≡ true → true ≡ list_any p (range_with_len 1 7)
any_of_seven p k lt h =
    let l = length-range_with_len 1 7 in
    let g : get_or (range_with_len 1 7) k 0 ≡ k + 1 = get_or-range_with_len 1 7 k 0 lt ∙ (let f : 1 + k ≡ k + 1 = omega arith in f) in
    sym (list_any_at p (range_with_len 1 7) k 0 (omega arith) (ap p g ∙ h))

pub none_of_seven : (p : ℕ → Bool) → ((k : ℕ) → k < 7 → p (k + 1) ≡ false) → false ≡ list_any p (range_with_len 1 7)
none_of_seven p h =
    sym (λ i. h 0 (omega arith) i || (h 1 (omega arith) i || (h 2 (omega arith) i || (h 3 (omega arith) i || (h 4 (omega arith) i || (h 5 (omega arith) i || (h 6 (omega arith) i || false)))))))

abbrev bit : Bool → ℕ
bit b = if b then 1 else 0

-- a list of seven by its places
pub seven_of : {X : Type 0} (d : X) (xs : List X) → length xs ≡ 7 →
    xs ≡ get_or xs 0 d ∷ get_or xs 1 d ∷ get_or xs 2 d ∷ get_or xs 3 d ∷ get_or xs 4 d ∷ get_or xs 5 d ∷ get_or xs 6 d ∷ []
seven_of d (a ∷ b ∷ c ∷ e ∷ f ∷ g ∷ h ∷ []) l = refl
seven_of d [] l = absurd (omega arith)
seven_of d (a ∷ []) l = absurd (omega arith)
seven_of d (a ∷ b ∷ []) l = absurd (omega arith)
seven_of d (a ∷ b ∷ c ∷ []) l = absurd (omega arith)
seven_of d (a ∷ b ∷ c ∷ e ∷ []) l = absurd (omega arith)
seven_of d (a ∷ b ∷ c ∷ e ∷ f ∷ []) l = absurd (omega arith)
seven_of d (a ∷ b ∷ c ∷ e ∷ f ∷ g ∷ []) l = absurd (omega arith)
seven_of d (a ∷ b ∷ c ∷ e ∷ f ∷ g ∷ h ∷ i ∷ more) l = absurd (omega arith)

byte_bit : (b : Bool) → bool_byte b ≡ bit b
byte_bit true = refl
byte_bit false = refl

-- eight answers as bits
pub eight_bits : (o a b c d e f g : Bool) →
    bool_byte o + 2 * bool_byte a + 4 * bool_byte b + 8 * bool_byte c + 16 * (bool_byte d + 2 * bool_byte e + 4 * bool_byte f + 8 * bool_byte g)
    ≡ bits (o ∷ a ∷ b ∷ c ∷ d ∷ e ∷ f ∷ g ∷ [])
eight_bits o a b c d e f g =
    (λ i. byte_bit o i + 2 * byte_bit a i + 4 * byte_bit b i + 8 * byte_bit c i + 16 * (byte_bit d i + 2 * byte_bit e i + 4 * byte_bit f i + 8 * byte_bit g i))
    ∙ plain (bit o) (bit a) (bit b) (bit c) (bit d) (bit e) (bit f) (bit g)
  where
    plain : (o a b c d e f g : ℕ) →
        o + 2 * a + 4 * b + 8 * c + 16 * (d + 2 * e + 4 * f + 8 * g)
        ≡ o + 2 * (a + 2 * (b + 2 * (c + 2 * (d + 2 * (e + 2 * (f + 2 * (g + 2 * 0)))))))
    plain o a b c d e f g = omega arith
