-- The words of the command line, as a grammar of whole lists.
use Rattle.std.specs.Prelude.{◌≡◌, ℕ, ◌+◌, ◌-◌, ◌*◌, ◌^◌, ◌<◌, ◌≤◌, Bool, ◌||◌, ◌==◌, IsTrue, List, [], ◌∷◌, ◌++◌, length, take, count_by, codes, decimal, ◌⊎◌, option_map, Option, Some, None, find, nat_lt, ℤ, pos, neg_ℤ, unsigned_abs}
use Rattle.std.specs.List.{AllZip, list_any, list_all}
use Rattle.definitions.specs.declared.Place.{Place}
use Rattle.definitions.specs.Places.{place}
use Rattle.definitions.specs.States.{Shares}
use Rattle.command_line.specs.declared.Name.{Name}
use Rattle.command_line.specs.declared.Name.TheVariants.{Level, Below, Step, Long, Short, Workers, Slab, First, Units, Faces, At, Size, Seed}
use Rattle.command_line.specs.declared.Verb.{Verb}
use Rattle.command_line.specs.declared.Verb.TheVariants.{Count, Mesh, Demo, Audit, Probe, Stream}
use Rattle.command_line.specs.declared.Plan.{Plan}

-- Names of named words are told apart by their numbers.
abbrev pub name_number : Name → ℕ
name_number Level = 0
name_number Below = 1
name_number Step = 2
name_number Long = 3
name_number Short = 4
name_number Workers = 5
name_number Slab = 6
name_number First = 7
name_number Units = 8
name_number Faces = 9
name_number At = 10
name_number Size = 11
name_number Seed = 12

abbrev pub same_name : Name → Name → Bool
same_name a b = name_number a == name_number b

abbrev pub name_text : Name → List ℕ
name_text Level = codes "level="
name_text Below = codes "below="
name_text Step = codes "step="
name_text Long = codes "long="
name_text Short = codes "short="
name_text Workers = codes "workers="
name_text Slab = codes "slab="
name_text First = codes "first="
name_text Units = codes "units="
name_text Faces = codes "faces="
name_text At = codes "at="
name_text Size = codes "size="
name_text Seed = codes "seed="

-- The text is a whole number from `low` to `high`, without a sign or a leading zero, and `value` is that number.
abbrev pub IsNumber : ℕ → ℕ → List ℕ → ℤ → Type 0
IsNumber low high text value = (n : ℕ) × (low ≤ n) × (n ≤ high) × (text ≡ decimal n) × (value ≡ pos n)

-- The text is a number in halves, and `twice` is twice that number: a whole number below 2^32 without a sign or a leading zero, and then nothing, `.0` or `.5`.
abbrev pub IsHalves : List ℕ → ℕ → Type 0
IsHalves text twice =
    (n : ℕ) × (n < 2 ^ 32) × (((text ≡ decimal n) × (twice ≡ 2 * n)) ⊎ (((text ≡ decimal n ++ codes ".0") × (twice ≡ 2 * n)) ⊎ ((text ≡ decimal n ++ codes ".5") × (twice ≡ 2 * n + 1))))

-- the same with an optional minus sign
abbrev pub IsLevel : List ℕ → ℤ → Type 0
IsLevel text twice =
    (m : ℕ) × ((IsHalves text m × (twice ≡ pos m)) ⊎ ((rest : List ℕ) × (text ≡ codes "-" ++ rest) × IsHalves rest m × (twice ≡ neg_ℤ (pos m))))

-- The text is `index`, which is 0, or `world`, which is 1.
abbrev pub IsUnits : List ℕ → ℤ → Type 0
IsUnits text value = ((text ≡ codes "index") × (value ≡ pos 0)) ⊎ ((text ≡ codes "world") × (value ≡ pos 1))

abbrev pub IsYes : List ℕ → ℤ → Type 0
IsYes text value = (text ≡ codes "yes") × (value ≡ pos 1)

-- The text is a whole number below 2^40 in size, with an optional minus sign and without a leading zero.
abbrev pub IsCoordinate : List ℕ → ℤ → Type 0
IsCoordinate text value = (n : ℕ) × (n < 2 ^ 40) × (((text ≡ decimal n) × (value ≡ pos n)) ⊎ ((text ≡ codes "-" ++ decimal n) × (value ≡ neg_ℤ (pos n))))

-- three of them with a comma between each two
abbrev pub IsPoint : List ℕ → Place → Type 0
IsPoint text p = (x y z : List ℕ) × (text ≡ x ++ (codes "," ++ (y ++ (codes "," ++ z)))) × IsCoordinate x p.x × IsCoordinate y p.y × IsCoordinate z p.z

-- What a named word is set to: a number, or a point in units of 1/8192 of a kept voxel step.
pub data Value : Type 0 where
  Number : ℤ → Value
  Point : Place → Value

-- What may stand behind a name, and the number that it says.
abbrev pub IsNumeric : Name → List ℕ → ℤ → Type 0
IsNumeric Level text value = IsLevel text value
IsNumeric Below text value = IsYes text value
IsNumeric Step text value = IsNumber 1 64 text value
IsNumeric Long text value = IsNumber 0 1023 text value
IsNumeric Short text value = IsNumber 0 2047 text value
IsNumeric Workers text value = IsNumber 1 64 text value
IsNumeric Slab text value = IsNumber 1 64 text value
IsNumeric First text value = IsNumber 0 1 text value
IsNumeric Units text value = IsUnits text value
IsNumeric Faces text value = IsYes text value
IsNumeric At text value = ⊥
IsNumeric Size text value = IsNumber 1 128 text value
IsNumeric Seed text value = IsNumber 0 (2 ^ 64 - 1) text value

-- the same, and the point behind `at=`
abbrev pub IsValue : Name → List ℕ → Value → Type 0
IsValue At text (Point p) = IsPoint text p
IsValue name text (Point p) = ⊥
IsValue name text (Number value) = IsNumeric name text value

-- a named word, read
pub record Setting : Type 0 where
  pub name : Name
  pub value : Value

pub record ReadsSetting (word : List ℕ) (s : Setting) : Type 0 where
  pub text : List ℕ
  pub word_is : word ≡ name_text s.name ++ text
  pub value_is : IsValue s.name text s.value

abbrev pub verb_text : Verb → List ℕ
verb_text Count = codes "count"
verb_text Mesh = codes "mesh"
verb_text Demo = codes "demo"
verb_text Audit = codes "audit"
verb_text Probe = codes "probe"
verb_text Stream = codes "stream"

-- how many file names follow
abbrev pub file_count : Verb → ℕ
file_count Count = 1
file_count Mesh = 2
file_count Demo = 0
file_count Audit = 1
file_count Probe = 1
file_count Stream = 2

-- the names that must be there, and those that may
abbrev pub required : Verb → List Name
required Count = Level ∷ []
required Mesh = Level ∷ []
required Demo = Size ∷ Seed ∷ []
required Audit = []
required Probe = Level ∷ At ∷ []
required Stream = Level ∷ []

abbrev pub optional : Verb → List Name
optional Count = Below ∷ Step ∷ []
optional Mesh = Below ∷ Step ∷ Long ∷ Short ∷ Workers ∷ Slab ∷ First ∷ Units ∷ Faces ∷ []
optional Demo = Workers ∷ Slab ∷ []
optional Audit = []
optional Probe = Below ∷ Step ∷ Long ∷ Short ∷ []
optional Stream = Below ∷ Step ∷ Long ∷ Short ∷ Workers ∷ Slab ∷ First ∷ Units ∷ []

abbrev pub is_among : List Name → Name → Bool
is_among names n = list_any (same_name n) names

abbrev pub is_of : Name → Setting → Bool
is_of n s = same_name n s.name

abbrev pub is_set : List Setting → Name → Bool
is_set settings n = list_any (is_of n) settings

-- the settings of a command: each name at most once, no other names, and those that must be there
pub record IsComplete (v : Verb) (settings : List Setting) : Type 0 where
  pub once : (n : Name) → count_by (is_of n) settings ≤ 1
  pub known : IsTrue (list_all (λ s. is_among (required v) s.name || is_among (optional v) s.name) settings)
  pub there : IsTrue (list_all (is_set settings) (required v))

-- what a name is set to, if it is
abbrev pub value_of : List Setting → Name → Option Value
value_of settings n = option_map (λ (s : Setting). s.value) (find (is_of n) settings)

abbrev pub number_in : Option Value → ℤ → ℤ
number_in (Some (Number value)) default = value
number_in value default = default

abbrev pub point_in : Option Value → Place → Place
point_in (Some (Point p)) default = p
point_in value default = default

-- the number that a name is set to, or its default
abbrev pub value_or : List Setting → Name → ℤ → ℤ
value_or settings n default = number_in (value_of settings n) default

abbrev pub number_or : List Setting → Name → ℕ → ℕ
number_or settings n default = unsigned_abs (value_or settings n (pos default))

abbrev pub shares_of : List Setting → Shares
shares_of settings = record { long = number_or settings Long 1023; short = number_or settings Short 1687 }

abbrev pub plan_of : List Setting → Plan
plan_of settings = record { workers = number_or settings Workers 4; slab = number_or settings Slab 4 }

-- the limits of a plan
pub record IsPlan (plan : Plan) : Type 0 where
  pub some_workers : 1 ≤ plan.workers
  pub most_workers : plan.workers ≤ 64
  pub some_slab : 1 ≤ plan.slab
  pub most_slab : plan.slab ≤ 64

-- What a mesh is made of, and how its files are written. File names are the numbers of their words, and a level is given as twice the level. Nodes and tetrahedra are numbered from `numbering`, coordinates are in the volume's own units where `world` is set, and faces and neighbours are written too where `faces` is.
pub record Meshing : Type 0 where
  pub input : ℕ
  pub output : ℕ
  pub level : ℤ
  pub below : Bool
  pub step : ℕ
  pub shares : Shares
  pub plan : Plan
  pub numbering : ℕ
  pub world : Bool
  pub faces : Bool

-- A command. A demo is of a volume that is made from a size and a seed. A point is in units of 1/8192 of a kept voxel step.
pub data Command : Type 0 where
  CountSigns : (input : ℕ) (level : ℤ) (below : Bool) (step : ℕ) → Command
  MakeMesh : Meshing → Command
  MakeDemo : (size seed : ℕ) (plan : Plan) → Command
  AuditFiles : (input : ℕ) → Command
  ProbePoint : (input : ℕ) (level : ℤ) (below : Bool) (step : ℕ) (shares : Shares) (point : Place) → Command
  StreamMesh : Meshing → Command

-- what it makes and writes files of, if it does: `mesh` and `stream` differ in how alone
abbrev pub meshing_of : Command → Option Meshing
meshing_of (MakeMesh m) = Some m
meshing_of (StreamMesh m) = Some m
meshing_of c = None

abbrev pub meshing_with : List Setting → Meshing
meshing_with s =
    record {
      input = 1;
      output = 2;
      level = value_or s Level (pos 0);
      below = is_set s Below;
      step = number_or s Step 1;
      shares = shares_of s;
      plan = plan_of s;
      numbering = number_or s First 0;
      world = number_or s Units 0 == 1;
      faces = is_set s Faces;
    }

abbrev pub command_of : Verb → List Setting → Command
command_of Count s = CountSigns 1 (value_or s Level (pos 0)) (is_set s Below) (number_or s Step 1)
command_of Mesh s = MakeMesh (meshing_with s)
command_of Demo s = MakeDemo (number_or s Size 1) (number_or s Seed 0) (plan_of s)
command_of Audit s = AuditFiles 1
command_of Probe s = ProbePoint 1 (value_or s Level (pos 0)) (is_set s Below) (number_or s Step 1) (shares_of s) (point_in (value_of s At) (place (pos 0) (pos 0) (pos 0)))
command_of Stream s = StreamMesh (meshing_with s)

-- A list of words reads as a command: the verb, the file names, and named words in any order.
pub record Reads (words : List (List ℕ)) (c : Command) : Type 0 where
  pub verb : Verb
  pub files : List (List ℕ)
  pub named : List (List ℕ)
  pub settings : List Setting
  pub words_are : words ≡ verb_text verb ∷ (files ++ named)
  pub files_len : length files ≡ file_count verb
  pub files_named : IsTrue (list_all (λ f. nat_lt 0 (length f)) files)
  pub named_are : AllZip ReadsSetting named settings
  pub complete : IsComplete verb settings
  pub command_is : c ≡ command_of verb settings

-- some list of the grammar begins with these words
abbrev pub Begins : List (List ℕ) → Type 0
Begins words = (rest : List (List ℕ)) × (c : Command) × Reads (words ++ rest) c

-- The place of bad words: the words before it begin a list of the grammar, and with the word at it none does. It is the number of words where all of them begin one.
pub record IsBadPlace (words : List (List ℕ)) (n : ℕ) : Type 0 where
  pub unread : (c : Command) → Reads words c → ⊥
  pub within : n ≤ length words
  pub begins : Begins (take n words)
  pub ends : n < length words → Begins (take (n + 1) words) → ⊥
