-- What is printed for a number, and what is not.
use Rattle.std.proofs.Common.{◌≡◌, inl, inr, ℕ, ℤ, pos, neg_ℤ, ◌+◌, ◌*◌, ◌<◌, ◌^◌, List, [], ◌∷◌, ◌++◌, length, drop, codes, decimal, Option, Some, None, option_map, IfSome, refl, arith, ap, sym, ◌∙◌, subst, append-nil}
use Rattle.std.proofs.lemmas.Fmt.{decimal_is_IsNumeral, IsAscii-decimal, decimal_injective}
use Rattle.std.proofs.lemmas.Str.{IsUtf8-from_ascii}
use Rattle.std.specs.Str.{IsUtf8}
use Rattle.std.specs.Str.Parse.{AllDigits}
use Rattle.command_line.specs.Grammar.{IsHalves, IsLevel}
use Rattle.command_words.proofs.TextEnds.{same_front, other_end}

pub decimal_is_text : (n : ℕ) → n < 2 ^ 64 → IsUtf8 (decimal n)
decimal_is_text n h = IsUtf8-from_ascii (decimal n) (IsAscii-decimal n h)

-- no byte of a numeral is a point
no_point_in : (xs ys : List ℕ) → AllDigits 10 (xs ++ 46 ∷ ys) → ⊥
no_point_in [] ys all = absurd (omega (arith, all.0))
no_point_in (x ∷ xs) ys all = no_point_in xs ys all.1

pub no_point : (n : ℕ) (text xs ys : List ℕ) → n < 2 ^ 64 → text ≡ decimal n → text ≡ xs ++ 46 ∷ ys → ⊥
no_point n text xs ys h e f =
    let all : AllDigits 10 (decimal n) = (decimal_is_IsNumeral n h).0.1 in
    no_point_in xs ys (rw (sym e ∙ f) at all)

-- no numeral begins with a minus sign
minus_first : (rest : List ℕ) → AllDigits 10 (45 ∷ rest) → ⊥
minus_first rest all = absurd (omega (arith, all.0))

first_digit : (ds tail rest : List ℕ) → 0 < length ds → AllDigits 10 ds → ds ++ tail ≡ 45 ∷ rest → ⊥
first_digit [] tail rest some all e = absurd (omega arith)
first_digit (d ∷ ds) tail rest some all e = let h : d ≡ 45 = cc in minus_first ds (rw h at all)

pub no_minus : (n : ℕ) (text tail rest : List ℕ) → n < 2 ^ 64 → text ≡ decimal n ++ tail → text ≡ 45 ∷ rest → ⊥
no_minus n text tail rest h e f =
    let numeral = (decimal_is_IsNumeral n h).0 in
    first_digit (decimal n) tail rest numeral.0 numeral.1 (sym e ∙ f)

-- a text of halves begins with a digit
pub halves_no_minus : (text rest : List ℕ) (m : ℕ) → IsHalves text m → text ≡ 45 ∷ rest → ⊥
halves_no_minus text rest m (n, h, inl (e, f)) g = no_minus n text [] rest (omega arith) (e ∙ sym (append-nil (decimal n))) g
halves_no_minus text rest m (n, h, inr (inl (e, f))) g = no_minus n text (codes ".0") rest (omega arith) e g
halves_no_minus text rest m (n, h, inr (inr (e, f))) g = no_minus n text (codes ".5") rest (omega arith) e g

-- twice a number with and without its half, by the end of the text
pub found_with_half : (text whole : List ℕ) (o : Option ℕ) → text ≡ whole ++ codes ".5" → ((n : ℕ) → n < 2 ^ 32 → whole ≡ decimal n → o ≡ Some (2 * n + 1)) → (m : ℕ) → IsHalves text m → o ≡ Some m
found_with_half text whole o e found m (n, h, inl (a, f)) = absurd (no_point n text whole (53 ∷ []) (omega arith) a e)
found_with_half text whole o e found m (n, h, inr (inl (a, f))) = absurd (other_end (decimal n) whole 48 53 (omega arith) (sym a ∙ e))
found_with_half text whole o e found m (n, h, inr (inr (a, f))) =
    let w : whole ≡ decimal n = same_front whole (decimal n) (codes ".5") (sym e ∙ a) in
    found n h w ∙ ap Some (sym f)

pub found_with_none : (text whole : List ℕ) (o : Option ℕ) → text ≡ whole ++ codes ".0" → ((n : ℕ) → n < 2 ^ 32 → whole ≡ decimal n → o ≡ Some (2 * n + 0)) → (m : ℕ) → IsHalves text m → o ≡ Some m
found_with_none text whole o e found m (n, h, inl (a, f)) = absurd (no_point n text whole (48 ∷ []) (omega arith) a e)
found_with_none text whole o e found m (n, h, inr (inl (a, f))) =
    let w : whole ≡ decimal n = same_front whole (decimal n) (codes ".0") (sym e ∙ a) in
    found n h w ∙ ap Some (omega (arith, f))
found_with_none text whole o e found m (n, h, inr (inr (a, f))) = absurd (other_end (decimal n) whole 53 48 (omega arith) (sym a ∙ e))

pub found_whole : (text : List ℕ) (o : Option ℕ) → ((front : List ℕ) → text ≡ front ++ codes ".5" → ⊥) → ((front : List ℕ) → text ≡ front ++ codes ".0" → ⊥) → ((n : ℕ) → n < 2 ^ 32 → text ≡ decimal n → o ≡ Some (2 * n + 0)) → (m : ℕ) → IsHalves text m → o ≡ Some m
found_whole text o half none found m (n, h, inl (a, f)) = found n h a ∙ ap Some (omega (arith, f))
found_whole text o half none found m (n, h, inr (inl (a, f))) = absurd (none (decimal n) a)
found_whole text o half none found m (n, h, inr (inr (a, f))) = absurd (half (decimal n) a)

-- a level by its sign
pub level_below : (text size : List ℕ) (o : Option ℕ) → text ≡ codes "-" ++ size → ((m : ℕ) → IsHalves size m → o ≡ Some m) → (twice : ℤ) → IsLevel text twice → option_map (λ m. neg_ℤ (pos m)) o ≡ Some twice
level_below text size o e found twice (m, inl (h, f)) = absurd (halves_no_minus text size m h e)
level_below text size o e found twice (m, inr (rest, g, h, f)) =
    let s : rest ≡ size = ap (λ (t : List ℕ). drop 1 t) (sym g ∙ e) in
    ap (option_map (λ m. neg_ℤ (pos m))) (found m (subst (λ (t : List ℕ). IsHalves t m) s h)) ∙ ap Some (sym f)

pub level_above : (text : List ℕ) (o : Option ℕ) → ((rest : List ℕ) → text ≡ codes "-" ++ rest → ⊥) → ((m : ℕ) → IsHalves text m → o ≡ Some m) → (twice : ℤ) → IsLevel text twice → option_map (λ m. pos m) o ≡ Some twice
level_above text o plain found twice (m, inl (h, f)) = ap (option_map (λ m. pos m)) (found m h) ∙ ap Some (sym f)
level_above text o plain found twice (m, inr (rest, g, h, f)) = absurd (plain rest g)

pub level_below_is : (text size : List ℕ) (o : Option ℕ) → text ≡ codes "-" ++ size → IfSome o (λ m. IsHalves size m) → IfSome (option_map (λ m. neg_ℤ (pos m)) o) (λ twice. IsLevel text twice)
level_below_is text size None e h = tt
level_below_is text size (Some m) e h = (m, inr (size, e, h, refl))

pub level_above_is : (text : List ℕ) (o : Option ℕ) → IfSome o (λ m. IsHalves text m) → IfSome (option_map (λ m. pos m) o) (λ twice. IsLevel text twice)
level_above_is text None h = tt
level_above_is text (Some m) h = (m, inl (h, refl))

-- a text is one number at most
twice_is : (a b n m k : ℕ) → a ≡ b → m ≡ 2 * a + n → k ≡ 2 * b + n → Some m ≡ Some k
twice_is a b n m k e f g = ap Some (omega arith)

pub halves_once : (text : List ℕ) (m k : ℕ) → IsHalves text m → IsHalves text k → Some m ≡ Some k
halves_once text m k (n, h, inl (e, f)) i =
    found_whole text (Some m) (λ front g. no_point n text front (53 ∷ []) (omega arith) e g) (λ front g. no_point n text front (48 ∷ []) (omega arith) e g)
    (λ a b g. twice_is n a 0 m (2 * a + 0) (decimal_injective n a (omega arith) (omega arith) (sym e ∙ g)) (omega arith) refl) k i
halves_once text m k (n, h, inr (inl (e, f))) i =
    found_with_none text (decimal n) (Some m) e (λ a b g. twice_is n a 0 m (2 * a + 0) (decimal_injective n a (omega arith) (omega arith) g) (omega arith) refl) k i
halves_once text m k (n, h, inr (inr (e, f))) i =
    found_with_half text (decimal n) (Some m) e (λ a b g. twice_is n a 1 m (2 * a + 1) (decimal_injective n a (omega arith) (omega arith) g) f refl) k i

same_some : (a b : ℤ) → Some a ≡ Some b → a ≡ b
same_some a b e = cc

pub level_once : (text : List ℕ) (a b : ℤ) → IsLevel text a → IsLevel text b → a ≡ b
level_once text a b (m, inl (h, f)) l =
    let e : Some (pos m) ≡ Some b = level_above text (Some m) (λ rest g. halves_no_minus text rest m h g) (λ k i. halves_once text m k h i) b l in
    f ∙ same_some (pos m) b e
level_once text a b (m, inr (rest, g, h, f)) l =
    let e : Some (neg_ℤ (pos m)) ≡ Some b = level_below text rest (Some m) g (λ k i. halves_once rest m k h i) b l in
    f ∙ same_some (neg_ℤ (pos m)) b e
