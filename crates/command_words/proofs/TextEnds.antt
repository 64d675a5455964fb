-- The two ends of a text.
use Rattle.std.proofs.Common.{◌≡◌, ◌≢◌, ◌-◌, ◌<◌, slice_index_or, List, ℕ, [], ◌∷◌, ◌++◌, length, take, drop, true, false, refl, ap, sym, ◌∙◌, arith, length-append}
use Rattle.std.proofs.lemmas.Slice.Eq.{bytes_eq-Decides}
use Rattle.std.specs.Str.{bytes_eq}
use Rattle.std.proofs.lemmas.List.{take_at, drop_at, append_cancel_right}

pub front_of : (text front back : List ℕ) → text ≡ front ++ back → take (length text - length back) text ≡ front
front_of text front back e = rw e (take_at front back (length (front ++ back) - length back) (rw length-append (omega arith)))

pub back_of : (text front back : List ℕ) → text ≡ front ++ back → drop (length text - length back) text ≡ back
back_of text front back e = rw e (drop_at front back (length (front ++ back) - length back) (rw length-append (omega arith)))

pub start_of : (text start rest : List ℕ) → text ≡ start ++ rest → take (length start) text ≡ start
start_of text start rest e = rw e (take_at start rest (length start) (omega arith))

pub rest_of : (text start rest : List ℕ) → text ≡ start ++ rest → drop (length start) text ≡ rest
rest_of text start rest e = rw e (drop_at start rest (length start) (omega arith))

-- bytes that a test tells apart are not the same
pub unlike : (xs ys : List ℕ) → bytes_eq xs ys ≡ false → {A : Type 0} → xs ≡ ys → A
unlike xs ys f e = let t : bytes_eq xs ys ≡ true = (bytes_eq-Decides xs ys).1 e in cc

-- two texts that are the same before one end
pub same_front : (xs ys end : List ℕ) → xs ++ end ≡ ys ++ end → xs ≡ ys
same_front xs ys end e = append_cancel_right xs ys end e

-- two texts with other last bytes
pub other_end : (xs ys : List ℕ) (a b : ℕ) → a ≢ b → xs ++ 46 ∷ a ∷ [] ≡ ys ++ 46 ∷ b ∷ [] → ⊥
other_end xs ys a b ne e =
    let l : length xs ≡ length ys = omega (arith, ap length e, length-append xs (46 ∷ a ∷ []), length-append ys (46 ∷ b ∷ [])) in
    let x : drop (length xs) (xs ++ 46 ∷ a ∷ []) ≡ 46 ∷ a ∷ [] = drop_at xs (46 ∷ a ∷ []) (length xs) refl in
    let y : drop (length xs) (ys ++ 46 ∷ b ∷ []) ≡ 46 ∷ b ∷ [] = drop_at ys (46 ∷ b ∷ []) (length xs) (sym l) in
    let t : 46 ∷ a ∷ [] ≡ 46 ∷ b ∷ [] = sym x ∙ ap (drop (length xs)) e ∙ y in
    ne cc

-- two texts with other first bytes
abbrev first_byte : List ℕ → ℕ
first_byte text = slice_index_or text 0 0

pub other_first : (a b : List ℕ) (m n : ℕ) → first_byte a ≡ m → first_byte b ≡ n → m < n → a ≡ b → ⊥
other_first a b m n p q lt e = let f : first_byte a ≡ first_byte b = ap first_byte e in omega arith
