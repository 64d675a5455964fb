-- The answer to a whole head.
use Rattle.std.proofs.Common.{◌≡◌, ℕ, Bool, List, [], ◌∷◌, Option, IfErr, refl, ap, sym, ◌∙◌, subst}
use Rattle.std.specs.declared.result.Result.{Result}
use Rattle.std.specs.declared.result.Result.TheVariants.{Ok, Err}
use Rattle.formats.specs.declared.Head.{Head}
use Rattle.formats.specs.declared.HeadFault.{HeadFault}
use Rattle.formats.specs.declared.HeadFault.TheVariants.{BadLine, Missing, BadValue, Unsupported, HeaderTooLong, HeadEnds, ReadFault, NoMemory}
use Rattle.formats.specs.HeadLines.{Pairs, pairs_of}
use Rattle.formats.specs.Heads.{head_of, head_of_found, head_of_pairs, first_fault_or, faults, head_taken}
use Rattle.mha_read.specs.Faults.{head_or_first, judged, IsJudgement}
use Rattle.mha_read.specs.LinesRead.{Leaves}
use Rattle.mha_read.specs.Told.{PairsRead, Answers}

head_is : (world : Bool) (text : List ℕ) (found : Result Pairs HeadFault) → pairs_of text ≡ found → head_of world text ≡ head_of_found world found
unfolding head_of
head_is world text found e = ap (head_of_found world) e

head_whole : (h head : Head) (n : ℕ) (fs : List HeadFault) → Ok head ≡ head_or_first h fs → first_fault_or (record { head = h; len = n }) fs ≡ Ok (record { head = head; len = n })
head_whole h head n [] e = let same : head ≡ h = cc in λ i. Ok (record { head = sym same i; len = n })
head_whole h head n (fault ∷ fs) e = cc

head_refused : (h : Head) (n : ℕ) (fs : List HeadFault) (fault : HeadFault) → Err fault ≡ head_or_first h fs → first_fault_or (record { head = h; len = n }) fs ≡ Err fault
head_refused h n [] fault e = cc
head_refused h n (f ∷ fs) fault e = let same : fault ≡ f = cc in ap Err (sym same)

refusal_answers : (world : Bool) (text : List ℕ) (pairs : List (List ℕ × List ℕ)) (left : Option (List ℕ)) (fault : HeadFault) → Err fault ≡ judged world pairs → PairsRead (Ok pairs) text left → (head_of world text ≡ Err fault) × Leaves text (head_taken text) left
refusal_answers world text pairs left fault e read = (
  head_is world text (Ok (record { pairs = pairs; len = read.0 })) read.1 ∙ head_refused (head_of_pairs world pairs) read.0 (faults world pairs) fault e,
  subst (λ (n : ℕ). Leaves text n left) read.2 read.3,
)

-- what is judged of the pairs is said of the text
pub judged_answers : (world : Bool) (text : List ℕ) (pairs : List (List ℕ × List ℕ)) (left : Option (List ℕ)) (r : Result Head HeadFault) → r ≡ judged world pairs → IfErr r IsJudgement → PairsRead (Ok pairs) text left → Answers world r text left
judged_answers world text pairs left (Ok head) e kind read = (
  record { head = head; len = read.0 },
  head_is world text (Ok (record { pairs = pairs; len = read.0 })) read.1 ∙ head_whole (head_of_pairs world pairs) head read.0 (faults world pairs) e,
  refl,
  read.2,
  read.3,
)
judged_answers world text pairs left (Err (BadLine at)) e kind read = absurd kind
judged_answers world text pairs left (Err (Missing key)) e kind read = refusal_answers world text pairs left (Missing key) e read
judged_answers world text pairs left (Err (BadValue key)) e kind read = refusal_answers world text pairs left (BadValue key) e read
judged_answers world text pairs left (Err (Unsupported key)) e kind read = refusal_answers world text pairs left (Unsupported key) e read
judged_answers world text pairs left (Err HeaderTooLong) e kind read = absurd kind
judged_answers world text pairs left (Err HeadEnds) e kind read = absurd kind
judged_answers world text pairs left (Err ReadFault) e kind read = absurd kind
judged_answers world text pairs left (Err NoMemory) e kind read = absurd kind

line_answers : (world : Bool) (text : List ℕ) (left : Option (List ℕ)) (fault : HeadFault) → (pairs_of text ≡ Err fault) × Leaves text (head_taken text) left → (head_of world text ≡ Err fault) × Leaves text (head_taken text) left
line_answers world text left fault read = (head_is world text (Err fault) read.0, read.1)

-- and so is why there are no pairs
pub lines_answer : (world : Bool) (text : List ℕ) (left : Option (List ℕ)) (fault : HeadFault) → PairsRead (Err fault) text left → Answers world (Err fault) text left
lines_answer world text left (BadLine at) read = line_answers world text left (BadLine at) read
lines_answer world text left (Missing key) read = line_answers world text left (Missing key) read
lines_answer world text left (BadValue key) read = line_answers world text left (BadValue key) read
lines_answer world text left (Unsupported key) read = line_answers world text left (Unsupported key) read
lines_answer world text left HeaderTooLong read = line_answers world text left HeaderTooLong read
lines_answer world text left HeadEnds read = line_answers world text left HeadEnds read
lines_answer world text left ReadFault read = read
lines_answer world text left NoMemory read = read
