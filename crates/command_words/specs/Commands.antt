-- What the code's commands mean by the grammar.
use Rattle.std.specs.Prelude.{◌≡◌, ℕ, ◌+◌, ◌<◌, ◌≤◌, ℤ, pos, unsigned_abs, ◌^◌, option_map, option_and_then, Bool, true, false, ◌&&◌, not, nat_lt, ◌==◌, List, [], ◌∷◌, length, slice_index_or, Option, Some, None, unwrap_or}
use Rattle.std.specs.Str.{bytes_eq}
use Rattle.definitions.specs.declared.Place.{Place}
use Rattle.definitions.specs.States.{Shares}
use Rattle.command_line.specs.declared.Verb.{Verb}
use Rattle.command_line.specs.declared.Verb.TheVariants as verb
use Rattle.command_line.specs.Grammar.{Command as Meaning, CountSigns, MakeMesh, MakeDemo, AuditFiles, ProbePoint, StreamMesh, verb_text}
use Rattle.command_words.specs.declared.command.Command.{Command}
use Rattle.command_words.specs.declared.command.Command.TheVariants.{Count, Mesh, Demo, Audit, Probe, Stream}
use Rattle.command_words.specs.declared.command.MeshSettings.{MeshSettings}
use Rattle.command_words.specs.declared.command.ProbeSettings.{ProbeSettings}
use Rattle.command_words.specs.declared.command.Source.{Source}
use Rattle.command_words.specs.declared.command.Source.TheVariants.{File, Phantom, Finished}
use Rattle.command_line.specs.declared.Plan.{Plan}
use Rattle.command_words.specs.declared.settings.Seen.{Seen}

abbrev pub meaning_of : Command → Meaning
meaning_of (Count input level below step) = CountSigns input level below step
meaning_of (Mesh input output level below step shares plan numbering world faces) =
    MakeMesh (record { input = input; output = output; level = level; below = below; step = step; shares = shares; plan = plan; numbering = numbering; world = world; faces = faces })
meaning_of (Demo size seed plan) = MakeDemo size seed plan
meaning_of (Audit input) = AuditFiles input
meaning_of (Probe input level below step shares at) = ProbePoint input level below step shares at
meaning_of (Stream input output level below step shares plan numbering world) =
    StreamMesh (record { input = input; output = output; level = level; below = below; step = step; shares = shares; plan = plan; numbering = numbering; world = world; faces = false })

-- what it is carried out on
abbrev pub source_of : Command → Source
source_of (Count input level below step) = File input
source_of (Mesh input output level below step shares plan numbering world faces) = File input
source_of (Demo size seed plan) = Phantom size seed
source_of (Audit input) = Finished input
source_of (Probe input level below step shares at) = File input
source_of (Stream input output level below step shares plan numbering world) = File input

-- the word that names the input is there, or the size is within its limits
abbrev pub IsSourceWithin : Source → ℕ → Type 0
IsSourceWithin (File input) count = input < count
IsSourceWithin (Phantom size seed) count = (1 ≤ size) × (size ≤ 128)
IsSourceWithin (Finished input) count = input < count

-- twice its level
abbrev pub level_of : Command → ℤ
level_of (Count input level below step) = level
level_of (Mesh input output level below step shares plan numbering world faces) = level
level_of (Demo size seed plan) = pos 399
level_of (Audit input) = pos 0
level_of (Probe input level below step shares at) = level
level_of (Stream input output level below step shares plan numbering world) = level

-- whether it speaks of the region below the level
abbrev pub below_of : Command → Bool
below_of (Count input level below step) = below
below_of (Mesh input output level below step shares plan numbering world faces) = below
below_of (Demo size seed plan) = false
below_of (Audit input) = false
below_of (Probe input level below step shares at) = below
below_of (Stream input output level below step shares plan numbering world) = below

-- its step, in samples
abbrev pub step_of : Command → ℕ
step_of (Count input level below step) = step
step_of (Mesh input output level below step shares plan numbering world faces) = step
step_of (Demo size seed plan) = 1
step_of (Audit input) = 1
step_of (Probe input level below step shares at) = step
step_of (Stream input output level below step shares plan numbering world) = step

-- whether its coordinates are in the volume's own units
abbrev pub world_of : Command → Bool
world_of (Count input level below step) = false
world_of (Mesh input output level below step shares plan numbering world faces) = world
world_of (Demo size seed plan) = false
world_of (Audit input) = false
world_of (Probe input level below step shares at) = false
world_of (Stream input output level below step shares plan numbering world) = world

-- what a mesh alone has
abbrev pub mesh_of : Command → Option MeshSettings
mesh_of (Count input level below step) = None
mesh_of (Mesh input output level below step shares plan numbering world faces) = Some (record { output = output; shares = shares; plan = plan; numbering = numbering; world = world; faces = faces; streamed = false })
mesh_of (Demo size seed plan) = None
mesh_of (Audit input) = None
mesh_of (Probe input level below step shares at) = None
mesh_of (Stream input output level below step shares plan numbering world) = Some (record { output = output; shares = shares; plan = plan; numbering = numbering; world = world; faces = false; streamed = true })

-- what a probe alone has
abbrev pub probe_of : Command → Option ProbeSettings
probe_of (Count input level below step) = None
probe_of (Mesh input output level below step shares plan numbering world faces) = None
probe_of (Demo size seed plan) = None
probe_of (Audit input) = None
probe_of (Probe input level below step shares at) = Some (record { shares = shares; at = at })
probe_of (Stream input output level below step shares plan numbering world) = None

-- each coordinate is below 2^40 in size
pub record IsNear (p : Place) : Type 0 where
  pub x : unsigned_abs p.x < 2 ^ 40
  pub y : unsigned_abs p.y < 2 ^ 40
  pub z : unsigned_abs p.z < 2 ^ 40

-- how its work is shared out
abbrev pub plan_of : Command → Option Plan
plan_of (Count input level below step) = None
plan_of (Mesh input output level below step shares plan numbering world faces) = Some plan
plan_of (Demo size seed plan) = Some plan
plan_of (Audit input) = None
plan_of (Probe input level below step shares at) = None
plan_of (Stream input output level below step shares plan numbering world) = Some plan

-- the same, and the usual way where there is none
abbrev pub plan_with : Command → Plan
plan_with c = unwrap_or (plan_of c) (record { workers = 4; slab = 4 })

abbrev pub shares_seen : Seen → Shares
shares_seen seen = record { long = unwrap_or seen.long 1023; short = unwrap_or seen.short 1687 }

abbrev pub plan_seen : Seen → Plan
plan_seen seen = record { workers = unwrap_or seen.workers 4; slab = unwrap_or seen.slab 4 }

-- the command of a verb, by what its named words set, if all are there that must be
abbrev pub command_seen : Verb → Seen → Option Command
command_seen verb.Count seen = option_map (λ level. Count 1 level seen.below (unwrap_or seen.step 1)) seen.level
command_seen verb.Mesh seen = option_map (λ level. Mesh 1 2 level seen.below (unwrap_or seen.step 1) (shares_seen seen) (plan_seen seen) (unwrap_or seen.first 0) (unwrap_or seen.world false) seen.faces) seen.level
command_seen verb.Demo seen = option_and_then (λ size. option_map (λ seed. Demo size seed (plan_seen seen)) seen.seed) seen.size
command_seen verb.Audit seen = Some (Audit 1)
command_seen verb.Probe seen = option_and_then (λ level. option_map (λ at. Probe 1 level seen.below (unwrap_or seen.step 1) (shares_seen seen) at) seen.at) seen.level
command_seen verb.Stream seen = option_map (λ level. Stream 1 2 level seen.below (unwrap_or seen.step 1) (shares_seen seen) (plan_seen seen) (unwrap_or seen.first 0) (unwrap_or seen.world false)) seen.level

-- word n is this text
abbrev pub is_word : List (List ℕ) → ℕ → List ℕ → Bool
is_word words n text = nat_lt n (length words) && bytes_eq (slice_index_or words n []) text

-- the first word is the verb's
abbrev pub HasVerb : List (List ℕ) → Verb → Type 0
HasVerb words v = (rest : List (List ℕ)) × (words ≡ verb_text v ∷ rest)

-- word n can be a file's name: it is there, and is not empty
abbrev pub is_name : List (List ℕ) → ℕ → Bool
is_name words n = nat_lt n (length words) && not (length (slice_index_or words n []) == 0)

-- the words behind the first can be names of so many files
abbrev pub AreNames : List (List ℕ) → ℕ → Type 0
AreNames words count = (k : ℕ) → k < count → is_name words (k + 1) ≡ true

-- The first of so many words behind the first that cannot be a file's name.
pub record IsBadName (words : List (List ℕ)) (count place : ℕ) : Type 0 where
  pub names : ℕ
  pub place_is : place ≡ names + 1
  pub within : names < count
  pub before : AreNames words names
  pub bad : is_name words (names + 1) ≡ false
