-- The trace of a command: how the states of its mesh were made.
use Rattle.std.specs.Prelude.{◌≡◌, ℕ, List, Option, Some, None}
use Rattle.definitions.specs.Values.{Field}
use Rattle.definitions.specs.States.{Shares}
use Rattle.formats.specs.Volumes.{Volume}
use Rattle.formats.specs.declared.Status.{Status}
use Rattle.formats.specs.declared.Status.TheVariants.{Done}
use Rattle.command_line.specs.Grammar.{Command, CountSigns, MakeMesh, MakeDemo, AuditFiles, ProbePoint, StreamMesh}
use Rattle.survey.specs.Surveys.{IsSurvey, SurveyValue}
use Rattle.stuff.specs.Inputs.{settings_of, told_input}
use Rattle.stuff.specs.Outputs.{field_from, usual_shares, volume_of}

-- the field that a command is about
pub record IsFieldOf (told : Option (List ℕ)) (c : Command) (f : Field) : Type 0 where
  pub volume : Volume
  pub volume_is : volume_of told c ≡ Some volume
  pub field_is : f ≡ field_from (settings_of c) volume

-- the same of what the desk holds under the name of the command's input
abbrev pub IsFieldFor : (List ℕ → Option (List ℕ)) → List (List ℕ) → Command → Field → Type 0
IsFieldFor held words c = IsFieldOf (told_input held words c) c

-- it is that of a survey of a field, with shares and a size of slabs
pub record IsTraceOf (f : Field) (s : Shares) (slab : ℕ) (t : SurveyValue) : Type 0 where
  pub subject : t.subject ≡ record { field = f; shares = s }
  pub layout : t.layout ≡ record { dims = f.dims; slab = slab }
  pub survey : IsSurvey t

-- a trace is kept where the command was carried out, and else none
abbrev pub KeepsTrace : Status → SurveyValue → Option SurveyValue → Type 0
KeepsTrace Done t trace = trace ≡ Some t
KeepsTrace status t trace = trace ≡ None

-- a command has a trace where a mesh was made and told of, and else none
abbrev pub TracesMesh : Status → Field → Shares → ℕ → Option SurveyValue → Type 0
TracesMesh Done f s slab trace = (t : SurveyValue) × (trace ≡ Some t) × IsTraceOf f s slab t
TracesMesh status f s slab trace = trace ≡ None

-- the same of a command about a field; one that counts or audits has none
abbrev pub Traces : Status → Command → Field → Option SurveyValue → Type 0
Traces status (CountSigns input level below step) f trace = trace ≡ None
Traces status (MakeMesh m) f trace = TracesMesh status f m.shares m.plan.slab trace
Traces status (MakeDemo size seed plan) f trace = TracesMesh status f usual_shares plan.slab trace
Traces status (AuditFiles input) f trace = trace ≡ None
Traces status (ProbePoint input level below step shares point) f trace = TracesMesh status f shares 4 trace
Traces status (StreamMesh m) f trace = TracesMesh status f m.shares m.plan.slab trace

-- the same of some field, whether it is told or not
abbrev pub HasTrace : Status → Command → Option SurveyValue → Type 0
HasTrace status c trace = (f : Field) × Traces status c f trace

-- how a command ends for its trace
pub record TraceEnds (status : Status) (c : Command) (IsField : Field → Type 0) (trace : Option SurveyValue) : Type 0 where
  pub there : HasTrace status c trace
  pub is : (f : Field) → IsField f → Traces status c f trace
