-- What stands on the ports when a command has ended.
use Rattle.std.specs.Prelude.{◌≡◌, ◌≢◌, ◌⊎◌, ◌↔◌, ◌<◌, ◌==◌, nat_lt, if◌then◌else◌, ℕ, List, [], ◌∷◌, Bool, IsTrue, true, false, ⊤}
use Rattle.std.specs.List.{list_any}
use Rattle.std.specs.Io.KnownBytes.{Appends}
use Rattle.formats.specs.declared.Port.{Port}
use Rattle.formats.specs.declared.Port.TheVariants.{Node, Ele, Report, Trouble, Face, Neigh}
use Rattle.formats.specs.declared.Status.{Status}
use Rattle.formats.specs.declared.Status.TheVariants.{Done, WriteFault, NoMemory}
use Rattle.st_base.specs.Desk.{PortState, BeginsAs, IsFile, SamePort, AppendsPart}

-- How far a command came: it used no port; it could not open a file; it was in the midst of a file's text, or between its files and Report, or in the midst of the text of Report; it wrote all.
pub data Stage : Type 0 where
  Reading : Stage
  Opening : Port → Stage
  Writing : Port → Stage
  BeforeReport : Stage
  WritingReport : Stage
  Finished : Stage

-- The turn of a port. The files of a command are opened in this order, all of them before anything is written, and then written in this order.
abbrev pub turn : Port → ℕ
turn Node = 0
turn Ele = 1
turn Face = 2
turn Neigh = 3
turn Report = 4
turn Trouble = 5

-- the files of a mesh, with those of faces and neighbours or without
abbrev pub mesh_files : Bool → List Port
mesh_files true = Node ∷ Ele ∷ Face ∷ Neigh ∷ []
mesh_files false = Node ∷ Ele ∷ []

-- whether a port is among the files of a command
abbrev pub is_among : List Port → Port → Bool
is_among files p = list_any (λ q. turn q == turn p) files

-- how far a command can have come where memory ran out: it used no port; or, if it writes files, it had opened all and wrote one of them, or had written all
abbrev pub LacksMemoryAt : List Port → Stage → Type 0
LacksMemoryAt [] stage = stage ≡ Reading
LacksMemoryAt files stage = (stage ≡ Reading) ⊎ (((p : Port) × IsTrue (is_among files p) × (stage ≡ Writing p)) ⊎ (stage ≡ BeforeReport))

-- how far a command with a status can have come; `files` are the ports of its files
abbrev pub EndsAt : Status → List Port → Stage → Type 0
EndsAt Done files stage = stage ≡ Finished
EndsAt (WriteFault Report) files stage = stage ≡ WritingReport
EndsAt (WriteFault Trouble) files stage = ⊥
EndsAt (WriteFault p) files stage = IsTrue (is_among files p) × ((stage ≡ Opening p) ⊎ (stage ≡ Writing p))
EndsAt NoMemory files stage = LacksMemoryAt files stage
EndsAt status files stage = stage ≡ Reading

-- no port but Trouble has a fault
abbrev pub HasNoFault : (Port → PortState) → Type 0
HasNoFault ports = (p : Port) → p ≢ Trouble → (ports p).faults ≡ 0

-- every port but Trouble is as before
abbrev pub KeepsPorts : (Port → PortState) → (Port → PortState) → Type 0
KeepsPorts before after = (p : Port) → p ≢ Trouble → after p ≡ before p

-- how much of its text a port holds
pub data Extent : Type 0 where
  Untouched : Extent
  Unopened : Extent
  Empty : Extent
  Part : Extent
  Whole : Extent

-- the extent of a port whose turn comes before the n-th, is it, or comes after it
abbrev pub around : ℕ → Extent → Extent → Extent → Port → Extent
around n before here after p = if nat_lt (turn p) n then before else if turn p == n then here else after

abbrev pub extent_at : Stage → Port → Extent
extent_at Reading p = Untouched
extent_at (Opening q) p = around (turn q) Empty Unopened Untouched p
extent_at (Writing q) p = around (turn q) Whole Part Empty p
extent_at stage p = Whole

-- nothing of a port is touched that is not among the command's files
abbrev pub among : List Port → (Port → Extent) → Port → Extent
among files extent p = if is_among files p then extent p else Untouched

abbrev pub report_extent : Stage → Extent
report_extent WritingReport = Part
report_extent Finished = Whole
report_extent stage = Untouched

-- a port was just opened with a name
abbrev pub IsOpened : PortState → List ℕ → Type 0
IsOpened port name = (port.is_open ≡ true) × BeginsAs port name

-- A file was opened with a name, on the desk as it was at some time, and holds some front of its text, or is finished and holds all.
pub record HoldsPart {D : Type 0} (ports : D → Port → PortState) (p : Port) (name : List ℕ) (IsText : List ℕ → Type 0) (after : D) : Type 0 where
  pub opened : D
  pub begins : IsOpened (ports opened p) name
  pub named : (ports after p).name ≡ (ports opened p).name
  pub part : (text : List ℕ) → IsText text → AppendsPart (ports opened p).text (ports after p).text text

pub record HoldsAll {D : Type 0} (ports : D → Port → PortState) (p : Port) (name : List ℕ) (IsText : List ℕ → Type 0) (after : D) : Type 0 where
  pub opened : D
  pub begins : IsOpened (ports opened p) name
  pub named : (ports after p).name ≡ (ports opened p).name
  pub all : (text : List ℕ) → IsText text → Appends (ports opened p).text (ports after p).text text
  pub closed : (ports after p).is_open ≡ false

-- what an extent says of a file
abbrev pub FileAt : {D : Type 0} → (D → Port → PortState) → Port → Extent → List ℕ → (List ℕ → Type 0) → D → D → Type 0
FileAt ports p Untouched name IsText before after = ports after p ≡ ports before p
FileAt ports p Unopened name IsText before after = SamePort (ports before p) (ports after p)
FileAt ports p Empty name IsText before after = IsOpened (ports after p) name
FileAt ports p Part name IsText before after = HoldsPart ports p name IsText after
FileAt ports p Whole name IsText before after = HoldsAll ports p name IsText after

-- what an extent says of Report, which is open from the start
abbrev pub ReportAt : Extent → (List ℕ → Type 0) → PortState → PortState → Type 0
ReportAt Part IsText before after = (text : List ℕ) → IsText text → AppendsPart before.text after.text text
ReportAt Whole IsText before after = (text : List ℕ) → IsText text → Appends before.text after.text text
ReportAt extent IsText before after = after ≡ before

-- a port has a fault exactly where the status says so
abbrev pub TellsFault : Status → Port → PortState → Type 0
TellsFault status p port = (status ≡ WriteFault p) ↔ (0 < port.faults)

-- How a command leaves the ports: `files` are the ports of its files, `name` is what they are called, and `IsText p text` says that a port's text is this one.
pub record PortsEnd {D : Type 0} (ports : D → Port → PortState) (status : Status) (files : List Port) (name : Port → List ℕ) (IsText : Port → List ℕ → Type 0) (before after : D) : Type 0 where
  pub stage : Stage
  pub at : EndsAt status files stage
  pub file : (p : Port) → IsFile p → FileAt ports p (among files (extent_at stage) p) (name p) (IsText p) before after
  pub report : ReportAt (report_extent stage) (IsText Report) (ports before Report) (ports after Report)
  pub faults : (p : Port) → p ≢ Trouble → TellsFault status p (ports after p)

-- How a command that was carried out leaves the ports: its files hold their whole texts and are finished, and Report holds its text.
pub record HasWritten {D : Type 0} (ports : D → Port → PortState) (files : List Port) (name : Port → List ℕ) (IsText : Port → List ℕ → Type 0) (before after : D) : Type 0 where
  pub file : (p : Port) → IsFile p → FileAt ports p (among files (λ q. Whole) p) (name p) (IsText p) before after
  pub report : (text : List ℕ) → IsText Report text → Appends (ports before Report).text (ports after Report).text text

-- the statuses of a command whose input was read whole
abbrev pub IsAtOutput : Status → Type 0
IsAtOutput Done = ⊤
IsAtOutput (WriteFault p) = ⊤
IsAtOutput NoMemory = ⊤
IsAtOutput status = ⊥
