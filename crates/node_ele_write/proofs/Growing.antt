-- Texts that grow in pieces.
use Rattle.std.proofs.Common.{◌≡◌, ℕ, ◌+◌, ◌-◌, zero, suc, zero-add, List, [], ◌∷◌, ◌++◌, length, take, drop, Option, Some, None, refl, ap, sym, ◌∙◌, arith, append_assoc, length-drop}
use Rattle.std.proofs.lemmas.Grind.{common_steps}
use Rattle.std.proofs.lemmas.List.{take_all}
use Rattle.std.specs.Io.KnownBytes.{Appends}

pub appends_trans : (a b c : Option (List ℕ)) (xs ys zs : List ℕ) → Appends a b xs → Appends b c ys → zs ≡ xs ++ ys → Appends a c zs
appends_trans None b c xs ys zs h k e = tt
appends_trans (Some xas) None c xs ys zs h k e = absurd h
appends_trans (Some xas) (Some bs) None xs ys zs h k e = absurd k
appends_trans (Some xas) (Some bs) (Some cs) xs ys zs h k e =
    k ∙ ap (λ (t : List ℕ). t ++ ys) h ∙ append_assoc xas xs ys ∙ ap (λ (t : List ℕ). xas ++ t) (sym e)

take_plus : (i n : ℕ) (xs : List ℕ) → take (i + n) xs ≡ take i xs ++ take n (drop i xs)
take_plus zero n xs = rw zero-add refl
take_plus (suc i) n [] = grind (arith, common_steps)
take_plus (suc i) n (x ∷ xs) =
    let e : suc i + n ≡ suc (i + n) = omega arith in
    rw e (ap (λ (t : List ℕ). x ∷ t) (take_plus i n xs))

pub take_more : (i n : ℕ) (xs : List ℕ) → take (i + n) xs ≡ take i xs ++ take n (take (length xs - i) (drop i xs))
take_more i n xs =
    let e : take (length xs - i) (drop i xs) ≡ drop i xs = take_all (length xs - i) (drop i xs) (omega (arith, length-drop i xs)) in
    take_plus i n xs ∙ ap (λ (t : List ℕ). take i xs ++ take n t) (sym e)
