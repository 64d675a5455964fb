-- What a told input comes to, where nothing fails and memory is there.
use Rattle.std.specs.Prelude.{◌≡◌, ℕ, ◌+◌, ◌<◌, ◌≤◌, ◌⊎◌, List, [], ◌∷◌, length, drop, Bool, true, false, IsTrue, Option, Some, None, Result, Ok, Err, ℤ, pos, slice_index_or}
use Rattle.formats.specs.declared.Axis.{Axis}
use Rattle.formats.specs.declared.Status.{Status}
use Rattle.formats.specs.declared.Status.TheVariants.{Done, TooLarge, Truncated}
use Rattle.formats.specs.declared.HeadFault.{HeadFault}
use Rattle.formats.specs.Faults.{status_of}
use Rattle.formats.specs.Heads.{HeadAt, head_of, head_taken, ends_in_head}
use Rattle.formats.specs.Volumes.{Volume, VolumeAnswer, Large, EndsEarly, Whole, volume_answer, wanted_bytes, second_limits}
use Rattle.command_line.specs.Grammar.{Command, Reads, Meshing, CountSigns, MakeMesh, MakeDemo, AuditFiles, ProbePoint, StreamMesh}
use Rattle.file_audit.specs.Status.{node_name, ele_name}

-- What an input comes to: a status, how many of its bytes are read, whether that is known only at its end, the volume that it holds, and the axes of its head.
pub record Outcome : Type 0 where
  pub status : Status
  pub taken : ℕ
  pub at_end : Bool
  pub volume : Option Volume
  pub axes : List Axis

abbrev pub outcome : Status → ℕ → Bool → Option Volume → List Axis → Outcome
outcome status taken at_end volume axes = record { status = status; taken = taken; at_end = at_end; volume = volume; axes = axes }

abbrev pub outcome_of_volume : List ℕ → HeadAt → VolumeAnswer → Outcome
outcome_of_volume text h (Large padded) = outcome (TooLarge padded) h.len false None h.head.axes
outcome_of_volume text h (EndsEarly got wanted) = outcome (Truncated got wanted) (length text) true None h.head.axes
outcome_of_volume text h (Whole v) = outcome Done (h.len + wanted_bytes h.head) false (Some v) h.head.axes

abbrev pub outcome_of_head : ℕ → List ℕ → Result HeadAt HeadFault → Outcome
outcome_of_head step text (Err fault) = outcome (status_of fault) (head_taken text) (ends_in_head text) None []
outcome_of_head step text (Ok h) = outcome_of_volume text h (volume_answer second_limits text h step)

-- coordinates are in the volume's own units where `world` is set
unfoldable pub outcome_of : Bool → ℕ → List ℕ → Outcome
outcome_of world step text = outcome_of_head step text (head_of world text)

-- What the words say of the volume: twice the level, whether the region lies below it, each how many samples one is taken, and whether coordinates are in its own units. A demo is at level 199.5.
pub record Settings : Type 0 where
  pub twice : ℤ
  pub below : Bool
  pub step : ℕ
  pub world : Bool

abbrev pub meshing_settings : Meshing → Settings
meshing_settings m = record { twice = m.level; below = m.below; step = m.step; world = m.world }

abbrev pub settings_of : Command → Settings
settings_of (CountSigns input level below step) = record { twice = level; below = below; step = step; world = false }
settings_of (MakeMesh m) = meshing_settings m
settings_of (MakeDemo size seed plan) = record { twice = pos 399; below = false; step = 1; world = false }
settings_of (AuditFiles input) = record { twice = pos 0; below = false; step = 1; world = false }
settings_of (ProbePoint input level below step shares point) = record { twice = level; below = below; step = step; world = false }
settings_of (StreamMesh m) = meshing_settings m

-- what its input comes to
abbrev pub outcome_for : Command → List ℕ → Outcome
outcome_for c text = outcome_of (settings_of c).world (settings_of c).step text

-- the names of the files that a command reads
abbrev pub input_names : List (List ℕ) → Command → List (List ℕ)
input_names words (CountSigns input level below step) = slice_index_or words input [] ∷ []
input_names words (MakeMesh m) = slice_index_or words m.input [] ∷ []
input_names words (MakeDemo size seed plan) = []
input_names words (AuditFiles input) = node_name (slice_index_or words input []) ∷ ele_name (slice_index_or words input []) ∷ []
input_names words (ProbePoint input level below step shares point) = slice_index_or words input [] ∷ []
input_names words (StreamMesh m) = slice_index_or words m.input [] ∷ []

-- what is told of its volume's file, if it has one
abbrev pub told_input : (List ℕ → Option (List ℕ)) → List (List ℕ) → Command → Option (List ℕ)
told_input held words (CountSigns input level below step) = held (slice_index_or words input [])
told_input held words (MakeMesh m) = held (slice_index_or words m.input [])
told_input held words (MakeDemo size seed plan) = None
told_input held words (AuditFiles input) = None
told_input held words (ProbePoint input level below step shares point) = held (slice_index_or words input [])
told_input held words (StreamMesh m) = held (slice_index_or words m.input [])

-- so many bytes of the text were read
pub record IsLeft (text : List ℕ) (n : ℕ) (left : Option (List ℕ)) : Type 0 where
  pub left_is : left ≡ Some (drop n text)
  pub within : n ≤ length text

-- A fault of reading comes before the last byte that is read, or where the end of the input decides.
pub record BreaksOff (o : Outcome) (text : List ℕ) (left : Option (List ℕ)) : Type 0 where
  pub taken : ℕ
  pub is_left : IsLeft text taken left
  pub early : (taken < o.taken) ⊎ ((taken ≡ length text) × IsTrue o.at_end)

-- the words read as a command that names an input whose bytes are told
pub record IsInput (words : List (List ℕ)) (held : List ℕ → Option (List ℕ)) (c : Command) (text : List ℕ) : Type 0 where
  pub reads : Reads words c
  pub told : told_input held words c ≡ Some text
