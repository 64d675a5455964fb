-- Lines of numbered elements.
use Rattle.std.proofs.Common.{◌≡◌, ℕ, ◌+◌, ◌<◌, suc, List, [], ◌∷◌, ◌++◌, length, map, take, drop, get_or, sym, ap, ◌∙◌, append_assoc, append-nil, arith}
use Rattle.std.specs.Prelude.{flat_map}
use Rattle.std.specs.List.{enumerate_from}
use Rattle.std.proofs.lemmas.List.{length-take, take-append-drop, take_more}

abbrev pub numbered_lines : {X Y : Type 0} → (ℕ × Y → List ℕ) → (X → Y) → ℕ → List X → List ℕ
numbered_lines line told from xs = flat_map line (enumerate_from from (map told xs))

-- in two parts
pub lines_append : {X Y : Type 0} (line : ℕ × Y → List ℕ) (told : X → Y) (from : ℕ) (xs ys : List X) → numbered_lines line told from (xs ++ ys) ≡ numbered_lines line told from xs ++ numbered_lines line told (from + length xs) ys
lines_append line told from [] ys = let e : from + 0 ≡ from = omega arith in ap (λ n. numbered_lines line told n ys) (sym e)
lines_append line told from (x ∷ xs) ys =
    let e : from + 1 + length xs ≡ from + suc (length xs) = omega arith in
    ap (λ l. line (from, told x) ++ l) (lines_append line told (from + 1) xs ys ∙ ap (λ n. numbered_lines line told (from + 1) xs ++ numbered_lines line told n ys) e)
    ∙ sym (append_assoc (line (from, told x)) (numbered_lines line told (from + 1) xs) (numbered_lines line told (from + suc (length xs)) ys))

-- with one more
pub lines_more : {X Y : Type 0} (line : ℕ × Y → List ℕ) (told : X → Y) (from n : ℕ) (xs : List X) (d : X) → n < length xs → numbered_lines line told from (take n xs) ++ line (from + n, told (get_or xs n d)) ≡ numbered_lines line told from (take (n + 1) xs)
lines_more line told from n xs d lt =
    let count : from + length (take n xs) ≡ from + n = omega (arith, length-take n xs) in
    sym (ap (numbered_lines line told from) (take_more xs n d lt) ∙ lines_append line told from (take n xs) (get_or xs n d ∷ []) ∙ ap (λ m. numbered_lines line told from (take n xs) ++ (line (m, told (get_or xs n d)) ++ [])) count ∙ ap (λ l. numbered_lines line told from (take n xs) ++ l) (append-nil (line (from + n, told (get_or xs n d)))))

-- those of the first and those of the others
pub lines_split : {X Y : Type 0} (line : ℕ × Y → List ℕ) (told : X → Y) (from n : ℕ) (xs : List X) → numbered_lines line told from (take n xs) ++ numbered_lines line told (from + length (take n xs)) (drop n xs) ≡ numbered_lines line told from xs
lines_split line told from n xs = sym (lines_append line told from (take n xs) (drop n xs)) ∙ ap (numbered_lines line told from) (take-append-drop n xs)

-- lines behind lines
pub lines_behind : {X Y : Type 0} (line : ℕ × Y → List ℕ) (told : X → Y) (from next : ℕ) (xs ys : List X) (a b c : List ℕ) → b ≡ a ++ numbered_lines line told from xs → next ≡ from + length xs → c ≡ b ++ numbered_lines line told next ys → c ≡ a ++ numbered_lines line told from (xs ++ ys)
lines_behind line told from next xs ys a b c e k h =
    h ∙ ap (λ l. l ++ numbered_lines line told next ys) e ∙ append_assoc a (numbered_lines line told from xs) (numbered_lines line told next ys)
    ∙ ap (λ l. a ++ l) (ap (λ n. numbered_lines line told from xs ++ numbered_lines line told n ys) k ∙ sym (lines_append line told from xs ys))
