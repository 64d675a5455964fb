-- The first of some faults, and heads without any.
use Rattle.std.specs.Prelude.{◌≡◌, ℕ, Bool, List, [], ◌∷◌, ◌++◌, filter_map, Option, Some, None, Result, Ok, Err, ⊤}
use Rattle.formats.specs.declared.Head.{Head}
use Rattle.formats.specs.declared.HeadFault.{HeadFault}
use Rattle.formats.specs.declared.HeadFault.TheVariants.{Missing, BadValue, Unsupported}
use Rattle.formats.specs.Heads.{head_of_pairs, form_fault, refusal, keys}

abbrev pub first_of : List HeadFault → Option HeadFault
first_of [] = None
first_of (fault ∷ more) = Some fault

abbrev pub head_or_first : Head → List HeadFault → Result Head HeadFault
head_or_first head [] = Ok head
head_or_first head (fault ∷ more) = Err fault

-- the head of the pairs, or their first fault
abbrev pub judged : Bool → List (List ℕ × List ℕ) → Result Head HeadFault
judged world pairs = head_or_first (head_of_pairs world pairs) (filter_map (form_fault pairs) (keys world) ++ filter_map (refusal pairs) (keys world))

-- no key has a fault of form
pub record AreFormed (world : Bool) (pairs : List (List ℕ × List ℕ)) : Type 0 where
  pub none : filter_map (form_fault pairs) (keys world) ≡ []

-- no key is refused
pub record AreSupported (world : Bool) (pairs : List (List ℕ × List ℕ)) : Type 0 where
  pub none : filter_map (refusal pairs) (keys world) ≡ []

-- the faults of keys and their values
abbrev pub IsJudgement : HeadFault → Type 0
IsJudgement (Missing key) = ⊤
IsJudgement (BadValue key) = ⊤
IsJudgement (Unsupported key) = ⊤
IsJudgement fault = ⊥
