-- Lists that are made of numbered elements.
use Rattle.std.proofs.Common.{◌≡◌, ℕ, ◌+◌, ◌<◌, suc, sym, ◌∙◌, ap, arith, List, [], ◌∷◌, ◌++◌, length, take, get_or, append_assoc, append-nil}
use Rattle.std.specs.Prelude.{flat_map}
use Rattle.std.specs.List.{enumerate_from}
use Rattle.std.proofs.lemmas.List.{length-take, take_more}

-- in two parts
pub numbered_append : {X Y : Type 0} (f : ℕ × X → List Y) (from : ℕ) (xs ys : List X) → flat_map f (enumerate_from from (xs ++ ys)) ≡ flat_map f (enumerate_from from xs) ++ flat_map f (enumerate_from (from + length xs) ys)
numbered_append f from [] ys = let e : from + 0 ≡ from = omega arith in ap (λ n. flat_map f (enumerate_from n ys)) (sym e)
numbered_append f from (x ∷ xs) ys =
    let e : from + 1 + length xs ≡ from + suc (length xs) = omega arith in
    ap (λ l. f (from, x) ++ l) (numbered_append f (from + 1) xs ys ∙ ap (λ n. flat_map f (enumerate_from (from + 1) xs) ++ flat_map f (enumerate_from n ys)) e)
    ∙ sym (append_assoc (f (from, x)) (flat_map f (enumerate_from (from + 1) xs)) (flat_map f (enumerate_from (from + suc (length xs)) ys)))

-- with one element more
pub numbered_more : {X Y : Type 0} (f : ℕ × X → List Y) (from n : ℕ) (xs : List X) (d : X) → n < length xs → flat_map f (enumerate_from from (take (n + 1) xs)) ≡ flat_map f (enumerate_from from (take n xs)) ++ f (from + n, get_or xs n d)
numbered_more f from n xs d within =
    let more = take_more xs n d within in
    let count : from + length (take n xs) ≡ from + n = omega (arith, length-take n xs) in
    rw (more, numbered_append f from (take n xs) (get_or xs n d ∷ []), count, append-nil)
