-- What the steps of writing leave behind.
use Rattle.std.specs.Prelude.{◌≡◌, ◌⊎◌, ◌<◌, ℕ, List, map, false, Option, Result, Ok, Err}
use Rattle.std.specs.Io.KnownBytes.{Appends}
use Rattle.formats.specs.declared.Port.{Port}
use Rattle.formats.specs.declared.Port.TheVariants.{Report}
use Rattle.formats.specs.declared.Status.{Status}
use Rattle.formats.specs.declared.Status.TheVariants.{Done, WriteFault, NoMemory}
use Rattle.st_base.specs.Desk.{PortState, IsFile, AppendsPart}
use Rattle.node_ele_write.specs.declared.PutFault.{PutFault}
use Rattle.node_ele_write.specs.declared.PutFault.TheVariants as put
use Rattle.file_audit.specs.Status.{GrowsAlong, with_names}
use Rattle.stuff.specs.declared.outputs.MeshFile.{MeshFile}
use Rattle.stuff.specs.Ports.{Extent, Untouched, Empty, Whole, FileAt, HasNoFault, PortsEnd, among, around}

-- Where no fault has come yet: what each file holds. Report is as it was.
pub record Stands {D : Type 0} (ports : D → Port → PortState) (files : List Port) (extent : Port → Extent) (name : Port → List ℕ) (IsText : Port → List ℕ → Type 0) (before now : D) : Type 0 where
  pub file : (p : Port) → IsFile p → FileAt ports p (among files extent p) (name p) (IsText p) before now
  pub report : ports now Report ≡ ports before Report
  pub none : HasNoFault (ports now)

-- the first n files were opened
abbrev pub AreOpened : {D : Type 0} → (D → Port → PortState) → List Port → ℕ → (Port → List ℕ) → (Port → List ℕ → Type 0) → D → D → Type 0
AreOpened ports files n name IsText before now = Stands ports files (around n Empty Untouched Untouched) name IsText before now

-- all files were opened, and the first n of them written and finished
abbrev pub AreWritten : {D : Type 0} → (D → Port → PortState) → List Port → ℕ → (Port → List ℕ) → (Port → List ℕ → Type 0) → D → D → Type 0
AreWritten ports files n name IsText before now = Stands ports files (around n Whole Empty Empty) name IsText before now

-- a step of writing brought the command to where the first n files are written, or ended it
abbrev pub Reaches : {D T : Type 0} → Result T Status → (D → Port → PortState) → List Port → ℕ → (Port → List ℕ) → (Port → List ℕ → Type 0) → D → D → Type 0
Reaches (Ok x) ports files n name IsText before now = AreWritten ports files n name IsText before now
Reaches (Err status) ports files n name IsText before now = PortsEnd ports status files name IsText before now

-- so it does wherever the first m were written before it
abbrev pub Continues : {D T : Type 0} → Result T Status → (D → Port → PortState) → List Port → ℕ → ℕ → (Port → List ℕ) → (Port → List ℕ → Type 0) → D → D → Type 0
Continues {D} result ports files m n name IsText old new = (before : D) → AreWritten ports files m name IsText before old → Reaches result ports files n name IsText before new

-- the text of a port is this one
abbrev pub IsThis : (Port → List ℕ) → Port → List ℕ → Type 0
IsThis texts p text = text ≡ texts p

-- the ports and the names of files that are to be opened
abbrev pub ports_of : List MeshFile → List Port
ports_of files = map (λ f. f.port) files

abbrev pub names_of : List MeshFile → List (List ℕ)
names_of files = map (λ f. f.name.items) files

abbrev pub TriesFiles : {T : Type 0} → Result T Status → List (List ℕ) → Option (List (List ℕ)) → Option (List (List ℕ)) → Type 0
TriesFiles (Ok x) names old new = new ≡ with_names old names
TriesFiles (Err status) names old new = GrowsAlong names old new

-- a text was written to a port, or some first bytes of it before a fault or the end of memory
abbrev pub HasPut : {T : Type 0} → Result T PutFault → PortState → PortState → List ℕ → Type 0
HasPut (Ok x) before after text = Appends before.text after.text text × (after.name ≡ before.name) × (after.faults ≡ 0)
HasPut (Err put.WriteFault) before after text = AppendsPart before.text after.text text × (after.name ≡ before.name) × (0 < after.faults)
HasPut (Err put.NoMemory) before after text = AppendsPart before.text after.text text × (after.name ≡ before.name) × (after.faults ≡ 0)

-- a file was written and finished
pub record IsWritten (before after : PortState) (text : List ℕ) : Type 0 where
  pub all : Appends before.text after.text text
  pub closed : after.is_open ≡ false
  pub named : after.name ≡ before.name
  pub faults : after.faults ≡ 0

-- a file was written in part
pub record IsBroken (status : Status) (p : Port) (before after : PortState) (text : List ℕ) : Type 0 where
  pub part : AppendsPart before.text after.text text
  pub named : after.name ≡ before.name
  pub cause : ((status ≡ WriteFault p) × (0 < after.faults)) ⊎ ((status ≡ NoMemory) × (after.faults ≡ 0))

abbrev pub Puts : {T : Type 0} → Result T Status → Port → PortState → PortState → List ℕ → Type 0
Puts (Ok x) p before after text = IsWritten before after text
Puts (Err status) p before after text = IsBroken status p before after text

-- a text was written to Report, or was not
abbrev pub Reports : Status → PortState → PortState → List ℕ → Type 0
Reports status before after text = ((status ≡ Done) × Appends before.text after.text text × (after.faults ≡ 0)) ⊎ ((status ≡ WriteFault Report) × AppendsPart before.text after.text text × (0 < after.faults))
