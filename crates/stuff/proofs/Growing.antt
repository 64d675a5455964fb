-- Texts that grow in pieces.
use Rattle.std.proofs.Common.{◌≡◌, ℕ, List, ◌++◌, length, Option, refl, ap, sym, ◌∙◌, arith, append_assoc, subst}
use Rattle.std.proofs.lemmas.List.{take_all}
use Rattle.std.specs.Io.KnownBytes.{Appends}
use Rattle.st_base.specs.Desk.{AppendsPart}
use Rattle.std.specs.Prelude.{OnOk, OnErr}
use Rattle.st_base.specs.Causes.{HasCause}
use Rattle.formats.specs.Faults.{fault_line, trouble_text}
use Rattle.formats.specs.declared.Status.{Status}
use Rattle.formats.specs.declared.Status.TheVariants.{Done, BadWords, BadHeader, Unsupported, TooLarge, Truncated, ReadFault, WriteFault, NoMemory, TooManyTets, BadMesh, NotSound}
use Rattle.std.specs.declared.result.Result.{Result}
use Rattle.std.specs.declared.result.Result.TheVariants.{Ok, Err}

-- a list that grows by one part after another
pub two_parts : (line mid end a b : List ℕ) → mid ≡ line ++ a → end ≡ mid ++ b → end ≡ line ++ (a ++ b)
two_parts line mid end a b e f = f ∙ ap (λ (t : List ℕ). t ++ b) e ∙ append_assoc line a b

-- all of it is a front of it
pub all_is_part : (a b : Option (List ℕ)) (xs : List ℕ) → Appends a b xs → AppendsPart a b xs
all_is_part a b xs h = (length xs, omega arith, subst (λ (t : List ℕ). Appends a b t) (sym (take_all (length xs) xs (omega arith))) h)

pub part_whatever : {T E : Type 0} (r : Result T E) (a b : Option (List ℕ)) (xs : List ℕ) → OnOk r (Appends a b xs) → OnErr r (AppendsPart a b xs) → AppendsPart a b xs
part_whatever (Ok x) a b xs all part = all_is_part a b xs all
part_whatever (Err e) a b xs all part = part

pub whole_without_fault : {T E : Type 0} (r : Result T E) (before now : ℕ) (a b : Option (List ℕ)) (xs : List ℕ) → OnOk r (Appends a b xs) → HasCause before now r → before ≡ 0 → now ≡ 0 → Appends a b xs
whole_without_fault (Ok x) before now a b xs all cause e f = all
whole_without_fault (Err y) before now a b xs all cause e f = absurd (omega (arith, cause.failed))

-- the line of a status other than Done
pub trouble_is : (s : Status) → (s ≡ Done → ⊥) → fault_line s ≡ trouble_text s
trouble_is Done not_done = absurd (not_done refl)
trouble_is (BadWords place) not_done = refl
trouble_is (BadHeader fault) not_done = refl
trouble_is (Unsupported key) not_done = refl
trouble_is (TooLarge padded) not_done = refl
trouble_is (Truncated got wanted) not_done = refl
trouble_is ReadFault not_done = refl
trouble_is (WriteFault port) not_done = refl
trouble_is NoMemory not_done = refl
trouble_is (TooManyTets tets) not_done = refl
trouble_is (BadMesh file fault) not_done = refl
trouble_is (NotSound v) not_done = refl
