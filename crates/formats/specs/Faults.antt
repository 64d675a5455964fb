-- The line that tells why a command was not carried out, and the exit code.
use Rattle.std.specs.Prelude.{ℕ, List, [], ◌∷◌, ◌++◌, codes, decimal}
use Rattle.formats.specs.declared.Key.{Key}
use Rattle.formats.specs.declared.HeadFault.{HeadFault}
use Rattle.formats.specs.declared.HeadFault.TheVariants as head
use Rattle.formats.specs.declared.Port.{Port}
use Rattle.formats.specs.declared.Port.TheVariants as port
use Rattle.formats.specs.declared.Verdict.{Verdict}
use Rattle.formats.specs.declared.Verdict.TheVariants as verdict
use Rattle.formats.specs.declared.Status.{Status}
use Rattle.formats.specs.declared.Status.TheVariants as status
use Rattle.formats.specs.Heads.{names_of}

abbrev pub key_text : Key → List ℕ
key_text k = first_of_names (names_of k)
  where
    first_of_names : List (List ℕ) → List ℕ
    first_of_names [] = []
    first_of_names (n ∷ ns) = n

abbrev pub head_fault_text : HeadFault → List ℕ
head_fault_text (head.BadLine place) = codes "bad header line at byte " ++ decimal place
head_fault_text (head.Missing key) = codes "header key missing: " ++ key_text key
head_fault_text (head.BadValue key) = codes "bad header value: " ++ key_text key
head_fault_text (head.Unsupported key) = codes "unsupported: " ++ key_text key
head_fault_text head.HeaderTooLong = codes "header too long"
head_fault_text head.HeadEnds = codes "header ends early"
head_fault_text head.ReadFault = codes "read fault"
head_fault_text head.NoMemory = codes "no memory"

abbrev pub port_text : Port → List ℕ
port_text port.Node = codes "node"
port_text port.Ele = codes "ele"
port_text port.Report = codes "report"
port_text port.Trouble = codes "trouble"
port_text port.Face = codes "face"
port_text port.Neigh = codes "neigh"

-- the number of the tetrahedron that a verdict names
abbrev pub verdict_text : Verdict → List ℕ
verdict_text (verdict.NotPositive tet) = decimal tet
verdict_text (verdict.Crowded tet) = decimal tet
verdict_text (verdict.Turned tet) = decimal tet
verdict_text (verdict.Sound nodes tets boundary) = []

abbrev pub status_text : Status → List ℕ
status_text status.Done = []
status_text (status.BadWords place) = codes "bad words at " ++ decimal place
status_text (status.BadHeader fault) = head_fault_text fault
status_text (status.Unsupported key) = codes "unsupported: " ++ key_text key
status_text (status.TooLarge padded) = codes "too large: " ++ decimal padded
status_text (status.Truncated got wanted) = codes "truncated: " ++ (decimal got ++ (codes " of " ++ (decimal wanted ++ codes " bytes")))
status_text status.ReadFault = codes "read fault"
status_text (status.WriteFault p) = codes "write fault: " ++ port_text p
status_text status.NoMemory = codes "no memory"
status_text (status.TooManyTets tets) = codes "too many tetrahedra: " ++ decimal tets
status_text (status.BadMesh file fault) = codes "bad mesh file: " ++ port_text file
status_text (status.NotSound v) = codes "not sound: tetrahedron " ++ verdict_text v

-- the line of a status other than Done
abbrev pub fault_line : Status → List ℕ
fault_line s = codes "stuff: " ++ (status_text s ++ (10 ∷ []))

-- what is written to Trouble after a status: nothing after Done
abbrev pub trouble_text : Status → List ℕ
trouble_text status.Done = []
trouble_text s = fault_line s

-- the exit code of a status
abbrev pub status_code : Status → ℕ
status_code status.Done = 0
status_code (status.BadWords place) = 2
status_code (status.BadHeader fault) = 3
status_code (status.Unsupported key) = 4
status_code (status.TooLarge padded) = 5
status_code (status.Truncated got wanted) = 6
status_code status.ReadFault = 7
status_code (status.WriteFault p) = 8
status_code status.NoMemory = 9
status_code (status.TooManyTets tets) = 10
status_code (status.BadMesh file fault) = 11
status_code (status.NotSound v) = 12

-- the status of a head that is refused
abbrev pub status_of : HeadFault → Status
status_of (head.Unsupported key) = status.Unsupported key
status_of head.ReadFault = status.ReadFault
status_of head.NoMemory = status.NoMemory
status_of fault = status.BadHeader fault
