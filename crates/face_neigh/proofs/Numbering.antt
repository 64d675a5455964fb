-- Numbers from 0 are numbers from `first` where that is 0.
use Rattle.std.proofs.Common.{◌≡◌, ℕ, ◌+◌, Some, None, Option, List, [], ◌∷◌, map, refl, ap, zero-add}
use Rattle.std.specs.Option.{option_map}
use Rattle.adjacency.specs.Texts.{face_line, neigh_line}

numbers : (xs : List ℕ) → map (λ n. 0 + n) xs ≡ xs
numbers [] = refl
numbers (x ∷ xs) = λ i. zero-add x i ∷ numbers xs i

option : (o : Option ℕ) → option_map (λ n. 0 + n) o ≡ o
option None = refl
option (Some x) = ap (λ n. Some n) (zero-add x)

options : (xs : List (Option ℕ)) → map (option_map (λ n. 0 + n)) xs ≡ xs
options [] = refl
options (x ∷ xs) = λ i. option x i ∷ options xs i

pub face_line_from_zero : (number : ℕ) (nodes : List ℕ) → face_line (number, map (λ n. 0 + n) nodes) ≡ face_line (number, nodes)
face_line_from_zero number nodes = ap (λ xs. face_line (number, xs)) (numbers nodes)

pub neigh_line_from_zero : (number : ℕ) (across : List (Option ℕ)) → neigh_line (number, map (option_map (λ n. 0 + n)) across) ≡ neigh_line (number, across)
neigh_line_from_zero number across = ap (λ xs. neigh_line (number, xs)) (options across)
