-- Texts that go to a port one after another, and parts of them.
use Rattle.std.proofs.Common.{◌≡◌, ℕ, ◌+◌, ◌≤◌, suc, List, [], ◌∷◌, ◌++◌, length, take, Option, ap, sym, subst, arith, length-append}
use Rattle.std.proofs.KnownBytes.{Appends-trans}
use Rattle.std.proofs.lemmas.List.{take-append-le}
use Rattle.std.specs.Prelude.{OnErr, Result, Ok, Err}
use Rattle.std.specs.Io.KnownBytes.{Appends}
use Rattle.st_base.specs.Desk.{AppendsPart}

pub on_err : {T E P : Type 0} (r : Result T E) → P → OnErr r P
on_err (Ok x) p = tt
on_err (Err e) p = p

-- a part of a text is a part of a longer one
pub part_longer : (a b : Option (List ℕ)) (xs ys : List ℕ) → AppendsPart a b xs → AppendsPart a b (xs ++ ys)
part_longer a b xs ys p =
    let n = p.0 in
    let within : n ≤ length xs = p.1 in
    let same : take n (xs ++ ys) ≡ take n xs = rw take-append-le in
    (n, omega (arith, length-append xs ys), subst (λ (t : List ℕ). Appends a b t) (sym same) p.2)

take_behind : (xs ys : List ℕ) (n : ℕ) → take (length xs + n) (xs ++ ys) ≡ xs ++ take n ys
take_behind [] ys n = let e : 0 + n ≡ n = omega arith in rw e
take_behind (x ∷ xs) ys n =
    let e : suc (length xs) + n ≡ suc (length xs + n) = omega arith in
    rw e (ap (λ (t : List ℕ). x ∷ t) (take_behind xs ys n))

-- a text, and then a part of what stands behind it
pub part_behind : (a b c : Option (List ℕ)) (xs ys : List ℕ) → Appends a b xs → AppendsPart b c ys → AppendsPart a c (xs ++ ys)
part_behind a b c xs ys h p =
    let n = p.0 in
    (length xs + n, omega (arith, length-append xs ys, p.1), subst (λ (t : List ℕ). Appends a c t) (sym (take_behind xs ys n)) (Appends-trans a b c xs (take n ys) h p.2))
