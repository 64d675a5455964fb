-- What opening and reading a told file comes to.
use Rattle.std.proofs.Common.{◌≡◌, inr, ℕ, ◌<◌, ◌≤◌, List, length, Bool, true, false, ltb, Option, Some, None, Result, Ok, Err, refl, sym, ap, ◌∙◌, arith}
use Rattle.std.proofs.lemmas.Bool.{ltb-true, ltb-false}
use Rattle.std.proofs.lemmas.List.{drop_all}
use Rattle.formats.specs.declared.MeshFault.{MeshFault}
use Rattle.formats.specs.declared.MeshFault.TheVariants.{TooLong, BadLine, BadPlace, BadNode, EndsEarly, ReadFault, NoMemory}
use Rattle.mesh_files.specs.Lines.{text_limit}
use Rattle.mesh_read.specs.Told.{FileTold}
use Rattle.st_base.specs.Desk.{InputState, IsTold}
use Rattle.file_audit.specs.Opening.{FileSays, FileTaken}

pub told_left : (held left : Option (List ℕ)) (text : List ℕ) → held ≡ Some text → IsTold held left → left ≡ Some text
told_left None left text e h = cc
told_left (Some bytes) left text e h = h ∙ e

pub file_said : {X Y : Type 0} (shown : X → Y) (wanted : Result Y MeshFault) (r : Result X MeshFault) (text : List ℕ) (left : Option (List ℕ)) → FileTold shown wanted r text left → FileSays shown r wanted
file_said shown wanted (Ok x) text left h = h.0
file_said shown wanted (Err TooLong) text left h = λ of_text. h.0
file_said shown wanted (Err (BadLine place)) text left h = λ of_text. h.0
file_said shown wanted (Err (BadPlace place)) text left h = λ of_text. h.0
file_said shown wanted (Err (BadNode place)) text left h = λ of_text. h.0
file_said shown wanted (Err (EndsEarly got all)) text left h = λ of_text. h.0
file_said shown wanted (Err ReadFault) text left h = λ of_text. absurd of_text
file_said shown wanted (Err NoMemory) text left h = λ of_text. absurd of_text

within : {X : Type 0} (wanted : Result X MeshFault) (x : X) (text : List ℕ) → (text_limit < length text → wanted ≡ Err TooLong) → wanted ≡ Ok x → length text ≤ text_limit
within {X} wanted x text long e = by_length (ltb text_limit (length text)) refl
  where
    by_length : (b : Bool) → ltb text_limit (length text) ≡ b → length text ≤ text_limit
    by_length true t = let too : wanted ≡ Err TooLong = long (ltb-true _ _ t) in absurd cc
    by_length false t = ltb-false _ _ t

pub file_took : {X Y : Type 0} (shown : X → Y) (wanted : Result Y MeshFault) (r : Result X MeshFault) (text : List ℕ) (old new : InputState) → (text_limit < length text → wanted ≡ Err TooLong) → FileTold shown wanted r text new.left → FileTaken r old new text
file_took shown wanted (Ok x) text old new long h = (length text, within wanted (shown x) text long h.0, h.1 ∙ ap Some (sym (drop_all (length text) text (omega arith))))
file_took shown wanted (Err ReadFault) text old new long h = λ e. inr (h.0, h.1, h.3)
file_took shown wanted (Err TooLong) text old new long h = λ e. absurd cc
file_took shown wanted (Err (BadLine place)) text old new long h = λ e. absurd cc
file_took shown wanted (Err (BadPlace place)) text old new long h = λ e. absurd cc
file_took shown wanted (Err (BadNode place)) text old new long h = λ e. absurd cc
file_took shown wanted (Err (EndsEarly got all)) text old new long h = λ e. absurd cc
file_took shown wanted (Err NoMemory) text old new long h = λ e. absurd cc
