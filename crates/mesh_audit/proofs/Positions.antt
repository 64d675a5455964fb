-- The first place that passes, where it is known.
use Rattle.std.proofs.Common.{◌≡◌, ℕ, ◌<◌, ◌≤◌, List, length, get_or, Bool, true, false, Some, None, ap, sym, refl, ◌∙◌, arith, ltb, cond}
use Rattle.std.proofs.lemmas.Bool.{lt-ltb, le-ltb, ltb-false}
use Rattle.std.proofs.lemmas.List.Sums.{position_or_len_is, fails_before_first}
use Rattle.std.specs.List.{All, position, position_or_len}

pub position_is : {X : Type 0} (p : X → Bool) (xs : List X) (i : ℕ) (d : X) → i < length xs → ((k : ℕ) → k < i → p (get_or xs k d) ≡ false) → p (get_or xs i d) ≡ true → position p xs ≡ Some i
position_is p xs i d lt before at =
    let e : position_or_len p xs ≡ i = position_or_len_is p xs i d (omega arith) before (λ _. at) in
    let t : ltb (position_or_len p xs) (length xs) ≡ true = lt-ltb (position_or_len p xs) (length xs) (omega arith) in
    ap (λ b. cond b (Some (position_or_len p xs)) None) t ∙ ap Some e

pub position_none : {X : Type 0} (p : X → Bool) (xs : List X) (d : X) → ((k : ℕ) → k < length xs → p (get_or xs k d) ≡ false) → position p xs ≡ None
position_none p xs d before =
    let e : position_or_len p xs ≡ length xs = position_or_len_is p xs (length xs) d (omega arith) before (λ lt. absurd (omega arith)) in
    let t : ltb (position_or_len p xs) (length xs) ≡ false = le-ltb (position_or_len p xs) (length xs) (omega arith) in
    ap (λ b. cond b (Some (position_or_len p xs)) None) t

-- where none is found, each element fails
pub all_fail : {X : Type 0} (p : X → Bool) (xs : List X) → position p xs ≡ None → All (λ x. p x ≡ false) xs
all_fail p xs h k d lt = by_test (ltb (position_or_len p xs) (length xs)) refl
  where
    by_test : (b : Bool) → ltb (position_or_len p xs) (length xs) ≡ b → p (get_or xs k d) ≡ false
    by_test true t = let e : Some (position_or_len p xs) ≡ None = ap (λ b. cond b (Some (position_or_len p xs)) None) (sym t) ∙ h in cc
    by_test false t = let le : length xs ≤ position_or_len p xs = ltb-false _ _ t in fails_before_first p xs k d (omega arith)
