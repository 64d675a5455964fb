-- Told lists of names that grow.
use Rattle.std.proofs.Common.{suc, ◌+◌, ◌≡◌, List, [], ◌∷◌, ◌++◌, ℕ, Option, refl, ap, sym, ◌∙◌}
use Rattle.std.specs.Prelude.{length, take}
use Rattle.std.proofs.Common.{arith}
use Rattle.std.proofs.lemmas.List.{take_all}
use Rattle.st_base.specs.Desk.{with_name}
use Rattle.file_audit.specs.Status.{GrowsAlong, with_names}
use Rattle.file_audit.proofs.Tried.{joined_names}

-- all names are some first ones
pub all_along : (names : List (List ℕ)) (old opened new : Option (List (List ℕ))) → opened ≡ with_names old names → new ≡ opened → GrowsAlong names old new
all_along names old opened new e f = (length names, f ∙ (e ∙ ap (λ (t : List (List ℕ)). with_names old t) (sym (take_all (length names) names (omega arith)))))

-- one name, and then some first ones of others
pub one_then : (old mid new : Option (List (List ℕ))) (name : List ℕ) (rest : List (List ℕ)) → mid ≡ with_name old name → GrowsAlong rest mid new → GrowsAlong (name ∷ rest) old new
one_then old mid new name rest e (n, f) = (1 + n, f ∙ ap (λ (m : Option (List (List ℕ))). with_names m (take n rest)) e ∙ joined_names old (name ∷ []) (take n rest) ∙ ap (λ (t : List (List ℕ)). with_names old t) (first_more n name rest))
  where
    first_more : (n : ℕ) (x : List ℕ) (xs : List (List ℕ)) → x ∷ [] ++ take n xs ≡ take (1 + n) (x ∷ xs)
    first_more n x xs = let e : 1 + n ≡ suc n = omega arith in rw e refl

pub one_then_all : (old mid new : Option (List (List ℕ))) (name : List ℕ) (rest : List (List ℕ)) → mid ≡ with_name old name → new ≡ with_names mid rest → new ≡ with_names old (name ∷ rest)
one_then_all old mid new name rest e f = f ∙ ap (λ (m : Option (List (List ℕ))). with_names m rest) e ∙ joined_names old (name ∷ []) rest
