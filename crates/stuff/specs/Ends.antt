-- How a command ends for its input, status by status.
use Rattle.std.specs.Prelude.{◌≡◌, ◌≢◌, ◌⊎◌, ℕ, ◌<◌, List, false, Option, Some, IfSome, ⊤, Result, Ok, Err}
use Rattle.formats.specs.declared.Axis.{Axis}
use Rattle.formats.specs.declared.Status.{Status}
use Rattle.formats.specs.declared.Status.TheVariants.{Done, BadWords, BadHeader, Unsupported, TooLarge, Truncated, ReadFault, WriteFault, NoMemory, TooManyTets, BadMesh, NotSound}
use Rattle.formats.specs.Volumes.{Volume}
use Rattle.file_audit.specs.Opening.{PartlyTaken}
use Rattle.file_audit.specs.Status.{audit_status, AreRead}
use Rattle.mesh_audit.specs.FitTogether.{FitTogether}
use Rattle.mesh_files.specs.Files.{Nodes}
use Rattle.formats.specs.declared.Verdict.{Verdict}
use Rattle.formats.specs.declared.Verdict.TheVariants.{Sound}
use Rattle.command_line.specs.Grammar.{Command, Reads, IsBadPlace}
use Rattle.formats.specs.declared.Port.{Port}
use Rattle.formats.specs.declared.Port.TheVariants.{Trouble}
use Rattle.st_base.specs.Desk.{InputState, PortState}
use Rattle.stuff.specs.Ports.{IsAtOutput}
use Rattle.stuff.specs.Inputs.{Outcome, Settings, outcome_for, outcome_of, IsLeft, BreaksOff}
use Rattle.stuff.specs.declared.input.Scan.{Scan}
use Rattle.stuff.specs.Outputs.{field_from, status_of_input}

-- a status that tells why an input is refused
abbrev pub IsRefusal : Status → Type 0
IsRefusal (BadHeader fault) = ⊤
IsRefusal (Unsupported key) = ⊤
IsRefusal (TooLarge padded) = ⊤
IsRefusal (Truncated got wanted) = ⊤
IsRefusal ReadFault = ⊤
IsRefusal NoMemory = ⊤
IsRefusal status = ⊥

-- what refusing a told input comes to that has this outcome
abbrev pub RefusesInput : Status → Outcome → List ℕ → Option (List ℕ) → Type 0
RefusesInput ReadFault o text left = BreaksOff o text left
RefusesInput NoMemory o text left = ⊤
RefusesInput status o text left = (o.status ≡ status) × IsLeft text o.taken left

-- a told input holds a volume, and was read whole
abbrev pub Accepts : Outcome → List ℕ → Option (List ℕ) → Type 0
Accepts o text left = (o.status ≡ Done) × IsLeft text o.taken left

-- what reading a told input comes to: its volume and its axes, or why it is refused
abbrev pub ReadsInput : Result (Volume × List Axis) Status → Outcome → List ℕ → Option (List ℕ) → Type 0
ReadsInput (Ok r) o text left = (o.volume ≡ Some r.0) × (o.axes ≡ r.1) × Accepts o text left
ReadsInput (Err status) o text left = RefusesInput status o text left

-- the same of the field of its volume
abbrev pub ReadsField : Result Scan Status → Settings → List ℕ → Option (List ℕ) → Type 0
ReadsField (Ok scan) s text left = (v : Volume) × (scan.field ≡ field_from s v) × ReadsInput (Ok (v, scan.axes)) (outcome_of s.world s.step text) text left
ReadsField (Err status) s text left = RefusesInput status (outcome_of s.world s.step text) text left

-- the statuses that a told input gives where nothing fails
abbrev pub IsOutcome : Status → Type 0
IsOutcome Done = ⊤
IsOutcome (BadHeader fault) = ⊤
IsOutcome (Unsupported key) = ⊤
IsOutcome (TooLarge padded) = ⊤
IsOutcome (Truncated got wanted) = ⊤
IsOutcome (TooManyTets tets) = ⊤
IsOutcome status = ⊥

-- these bytes are left of the input, and the command is this one
abbrev pub HoldsInput : Option (List ℕ) → Command → Command → List ℕ → Type 0
HoldsInput left command c text = (left ≡ Some text) × (c ≡ command)

-- the input was read without fault, and what is told of it was refused; `IsTold c text` says that the command and its bytes are these
pub record Refuses (status : Status) (IsTold : Command → List ℕ → Type 0) (now : InputState) : Type 0 where
  pub faults : now.faults ≡ 0
  pub told : (c : Command) (text : List ℕ) → IsTold c text → RefusesInput status (outcome_for c text) text now.left

-- the volume of the input was read
pub record ReadsWhole (IsTold : Command → List ℕ → Type 0) (now : InputState) : Type 0 where
  pub faults : now.faults ≡ 0
  pub told : (c : Command) (text : List ℕ) → IsTold c text → Accepts (outcome_for c text) text now.left

-- the same, and the command comes to this status
pub record ComesTo (status : Status) (IsTold : Command → List ℕ → Type 0) (now : InputState) : Type 0 where
  pub whole : ReadsWhole IsTold now
  pub comes : (c : Command) (text : List ℕ) → IsTold c text → status_of_input c text ≡ status

-- how a command leaves its input, status by status
abbrev pub InputEnds : Status → (Command → List ℕ → Type 0) → InputState → Type 0
InputEnds Done IsTold now = ComesTo Done IsTold now
InputEnds (TooManyTets tets) IsTold now = ComesTo (TooManyTets tets) IsTold now
InputEnds (WriteFault port) IsTold now = ReadsWhole IsTold now
InputEnds ReadFault IsTold now = (0 < now.faults) × ((c : Command) (text : List ℕ) → IsTold c text → (now.is_open ≡ false) ⊎ BreaksOff (outcome_for c text) text now.left)
InputEnds status IsTold now = Refuses status IsTold now

-- the statuses before any port is used
abbrev pub LeavesPorts : Status → Type 0
LeavesPorts Done = ⊥
LeavesPorts (WriteFault port) = ⊥
LeavesPorts NoMemory = ⊥
LeavesPorts status = ⊤

-- what the status of a run says of its words
abbrev pub WordsEnd : Status → List (List ℕ) → Type 0
WordsEnd (BadWords place) words = IsBadPlace words place
WordsEnd status words = (c : Command) × Reads words c

-- how a demo ends: it reads nothing, and has no other port than Report, of which it writes nothing where memory runs out
pub record DemoEnds {D : Type 0} (ports : D → Port → PortState) (status : Status) (input now : InputState) (before after : D) : Type 0 where
  pub input_is : now ≡ input
  pub kind : IsAtOutput status
  pub no_memory : status ≡ NoMemory → (p : Port) → p ≢ Trouble → ports after p ≡ ports before p

-- how a command ends whose mesh comes to a status: at its outputs, or with that refusal, or without memory
abbrev pub MeshEnds : Status → Status → Type 0
MeshEnds Done status = IsAtOutput status
MeshEnds refusal status = (status ≡ refusal) ⊎ (status ≡ NoMemory)

-- how an audit ends whose files, if they are told, come to a status
abbrev pub AuditEnds : Status → Option Status → Type 0
AuditEnds Done wanted = IfSome wanted (λ s. s ≡ Done)
AuditEnds (BadMesh file fault) wanted = IfSome wanted (λ s. s ≡ BadMesh file fault)
AuditEnds (NotSound v) wanted = IfSome wanted (λ s. s ≡ NotSound v)
AuditEnds ReadFault wanted = ⊤
AuditEnds (WriteFault port) wanted = ⊤
AuditEnds NoMemory wanted = ⊤
AuditEnds status wanted = ⊥

-- how the telling of a verdict ends: a sound mesh is told of, and another refused
abbrev pub VerdictEnds : Status → Verdict → Type 0
VerdictEnds status (Sound nodes tets boundary) = IsAtOutput status
VerdictEnds status v = status ≡ NotSound v

-- how an audit ends whose files are told or not
pub record AuditOf (status : Status) (now : InputState) (node ele : Option (List ℕ)) : Type 0 where
  pub ends : AuditEnds status (audit_status node ele)
  pub sound : status ≡ Done → (nodes : Nodes) (tets : List (List ℕ)) → AreRead node ele nodes tets → FitTogether nodes.places tets
  pub taken : status ≡ ReadFault → (now.is_open ≡ false) ⊎ (PartlyTaken node now.left ⊎ PartlyTaken ele now.left)
