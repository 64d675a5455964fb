-- Told lists of names that grow.
use Rattle.std.proofs.Common.{◌≡◌, List, [], ◌∷◌, ◌++◌, ℕ, true, false, Option, Some, None, Result, Ok, Err, refl, ap, sym, ◌∙◌, append_assoc}
use Rattle.std.proofs.lemmas.List.{append-nil}
use Rattle.std.specs.Prelude.{OnOk, OnErr}
use Rattle.st_base.specs.Desk.{MayTry, with_name}
use Rattle.file_audit.specs.Status.{GrowsAlong, with_names}

pub same_names : (old : Option (List (List ℕ))) → old ≡ with_names old []
same_names None = refl
same_names (Some names) = ap Some (sym (append-nil names))

pub joined_names : (old : Option (List (List ℕ))) (a b : List (List ℕ)) → with_names (with_names old a) b ≡ with_names old (a ++ b)
joined_names None a b = refl
joined_names (Some names) a b = ap Some (append_assoc names a b)

pub may_grow : (old new : Option (List (List ℕ))) (name : List ℕ) (rest : List (List ℕ)) → MayTry old new name → GrowsAlong (name ∷ rest) old new
may_grow old new name rest (true, e) = (1, e)
may_grow old new name rest (false, e) = (0, e ∙ same_names old)

-- one name, and then another
two_grow : (old mid new : Option (List (List ℕ))) (a b : List ℕ) → mid ≡ with_name old a → new ≡ with_name mid b → GrowsAlong (a ∷ b ∷ []) old new
two_grow old mid new a b e f = (2, f ∙ ap (λ (m : Option (List (List ℕ))). with_names m (b ∷ [])) e ∙ joined_names old (a ∷ []) (b ∷ []))

-- one name, and then another where this is told, or perhaps
pub one_grows : {T E : Type 0} (r : Result T E) (old mid new : Option (List (List ℕ))) (a b : List ℕ) → mid ≡ with_name old a → OnOk r (new ≡ with_name mid b) → OnErr r (MayTry mid new b) → GrowsAlong (a ∷ b ∷ []) old new
one_grows (Ok x) old mid new a b e all may = two_grow old mid new a b e all
one_grows (Err x) old mid new a b e all may = by_last may
  where
    by_last : MayTry mid new b → GrowsAlong (a ∷ b ∷ []) old new
    by_last (true, f) = two_grow old mid new a b e f
    by_last (false, f) = (1, f ∙ e)
