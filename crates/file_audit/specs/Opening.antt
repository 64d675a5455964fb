-- What opening and reading a finished file comes to.
use Rattle.std.specs.Prelude.{◌≡◌, ◌≤◌, ◌⊎◌, ℕ, List, drop, Option, Some, IfSome, Result, Ok, Err, ⊤}
use Rattle.formats.specs.declared.MeshFault.{MeshFault}
use Rattle.formats.specs.declared.MeshFault.TheVariants.{TooLong, BadLine, BadPlace, BadNode, EndsEarly, ReadFault, NoMemory}
use Rattle.mesh_files.specs.Lines.{text_limit}
use Rattle.st_base.specs.Desk.{InputState, SameInput}

-- a fault that the text of a file has
abbrev pub IsOfText : MeshFault → Type 0
IsOfText TooLong = ⊤
IsOfText (BadLine place) = ⊤
IsOfText (BadPlace place) = ⊤
IsOfText (BadNode place) = ⊤
IsOfText (EndsEarly got wanted) = ⊤
IsOfText ReadFault = ⊥
IsOfText NoMemory = ⊥

-- An answer is the one that the text has, unless reading failed or memory ran out.
abbrev pub FileSays : {X Y : Type 0} → (X → Y) → Result X MeshFault → Result Y MeshFault → Type 0
FileSays shown (Ok x) wanted = wanted ≡ Ok (shown x)
FileSays shown (Err fault) wanted = IsOfText fault → wanted ≡ Err fault

-- at most as many bytes of a text were taken as a text may have
abbrev pub TookPart : List ℕ → Option (List ℕ) → Type 0
TookPart text left = (n : ℕ) × (n ≤ text_limit) × (left ≡ Some (drop n text))

-- Bytes of the text were taken, or it could not be opened.
abbrev pub FileTaken : {X : Type 0} → Result X MeshFault → InputState → InputState → List ℕ → Type 0
FileTaken (Ok x) old new text = TookPart text new.left
FileTaken (Err fault) old new text = fault ≡ ReadFault → SameInput old new ⊎ TookPart text new.left

-- the same of a file that is told or not
abbrev pub PartlyTaken : Option (List ℕ) → Option (List ℕ) → Type 0
PartlyTaken held left = IfSome held (λ text. TookPart text left)
