-- What reading a mesh file comes to.
use Rattle.std.specs.Prelude.{◌≡◌, ◌≤◌, ℕ, ◌+◌, List, [], length, drop, Option, Some, Result, Ok, Err, Vec, ⊤}
use Rattle.std.specs.declared.alloc.Global.{Global}
use Rattle.std.specs.Io.KnownBytes.{Consumes, IsAtEnd}
use Rattle.formats.specs.declared.MeshFault.{MeshFault}
use Rattle.formats.specs.declared.MeshFault.TheVariants.{TooLong, BadLine, BadPlace, BadNode, EndsEarly, ReadFault, NoMemory}
use Rattle.mesh_files.specs.Lines.{text_limit}

-- An answer is the one that is wanted, unless memory ran out.
abbrev pub Says : {X Y : Type 0} → (X → Y) → Result X MeshFault → Result Y MeshFault → Type 0
Says shown (Ok x) wanted = wanted ≡ Ok (shown x)
Says shown (Err NoMemory) wanted = ⊤
Says shown (Err TooLong) wanted = wanted ≡ Err TooLong
Says shown (Err (BadLine place)) wanted = wanted ≡ Err (BadLine place)
Says shown (Err (BadPlace place)) wanted = wanted ≡ Err (BadPlace place)
Says shown (Err (BadNode place)) wanted = wanted ≡ Err (BadNode place)
Says shown (Err (EndsEarly got all)) wanted = wanted ≡ Err (EndsEarly got all)
Says shown (Err ReadFault) wanted = ⊥

abbrev pub items_in : {X : Type 0} → Vec X Global → List X
items_in v = v.items

-- What reading a whole text comes to: all bytes up to the end, one more than the limit, or a fault behind some of them.
abbrev pub ReadsText : Option (List ℕ) → Option (List ℕ) → Result (Vec ℕ Global) MeshFault → Type 0
ReadsText old new (Ok v) = Consumes old new v.items × IsAtEnd new
ReadsText old new (Err TooLong) = (bytes : List ℕ) × Consumes old new bytes × (length bytes ≡ text_limit + 1)
ReadsText old new (Err ReadFault) = (bytes : List ℕ) × Consumes old new bytes × (length bytes ≤ text_limit)
ReadsText old new (Err NoMemory) = ⊤
ReadsText old new (Err (BadLine place)) = ⊥
ReadsText old new (Err (BadPlace place)) = ⊥
ReadsText old new (Err (BadNode place)) = ⊥
ReadsText old new (Err (EndsEarly got wanted)) = ⊥

-- Where the input is told, the answer is the one that its text has, and it was taken to its end, or to one byte past the limit. A fault of reading comes behind some of its bytes, at most as many as the limit.
abbrev pub FileTold : {X Y : Type 0} → (X → Y) → Result Y MeshFault → Result X MeshFault → List ℕ → Option (List ℕ) → Type 0
FileTold shown wanted (Ok x) text left = (wanted ≡ Ok (shown x)) × (left ≡ Some [])
FileTold shown wanted (Err TooLong) text left = (wanted ≡ Err TooLong) × (left ≡ Some (drop (text_limit + 1) text))
FileTold shown wanted (Err ReadFault) text left = (n : ℕ) × (n ≤ text_limit) × (n ≤ length text) × (left ≡ Some (drop n text))
FileTold shown wanted (Err NoMemory) text left = ⊤
FileTold shown wanted (Err (BadLine place)) text left = (wanted ≡ Err (BadLine place)) × (left ≡ Some [])
FileTold shown wanted (Err (BadPlace place)) text left = (wanted ≡ Err (BadPlace place)) × (left ≡ Some [])
FileTold shown wanted (Err (BadNode place)) text left = (wanted ≡ Err (BadNode place)) × (left ≡ Some [])
FileTold shown wanted (Err (EndsEarly got all)) text left = (wanted ≡ Err (EndsEarly got all)) × (left ≡ Some [])
