-- Named words as they are read one after another.
use Rattle.std.specs.Prelude.{◌≡◌, ℕ, ◌+◌, ◌<◌, ◌≤◌, Bool, true, ◌||◌, IsTrue, List, [], length, take, drop, count_by, Option, Some, None, option_map, if◌then◌else◌, slice_index_or, ℤ, pos}
use Rattle.std.specs.List.{AllZip, list_all}
use Rattle.std.specs.Option.{option_or}
use Rattle.command_line.specs.Grammar.{Setting, ReadsSetting, Value, Number, Point, value_of, is_among, is_of, same_name, required, optional}
use Rattle.command_line.specs.declared.Name.{Name}
use Rattle.command_line.specs.declared.Name.TheVariants.{Level, Below, Step, Long, Short, Workers, Slab, First, Units, Faces, At, Size, Seed}
use Rattle.command_line.specs.declared.Verb.{Verb}
use Rattle.command_words.specs.declared.settings.Setting.{Setting as Choice}
use Rattle.command_words.specs.declared.settings.Setting.TheVariants as choice
use Rattle.command_words.specs.declared.settings.Seen.{Seen}

-- Units as a number: 0 is index, 1 is world.
abbrev pub units_value : Bool → ℤ
units_value world = if world then pos 1 else pos 0

abbrev pub natural : ℕ → Value
natural n = Number (pos n)

abbrev pub is_yes : Bool → Option Value
is_yes set = if set then Some (natural 1) else None

-- what a named word sets
abbrev pub setting_of : Choice → Setting
setting_of (choice.Level twice) = record { name = Level; value = Number twice }
setting_of choice.Below = record { name = Below; value = natural 1 }
setting_of (choice.Step n) = record { name = Step; value = natural n }
setting_of (choice.Long n) = record { name = Long; value = natural n }
setting_of (choice.Short n) = record { name = Short; value = natural n }
setting_of (choice.Workers n) = record { name = Workers; value = natural n }
setting_of (choice.Slab n) = record { name = Slab; value = natural n }
setting_of (choice.First n) = record { name = First; value = natural n }
setting_of (choice.World world) = record { name = Units; value = Number (units_value world) }
setting_of choice.Faces = record { name = Faces; value = natural 1 }
setting_of (choice.At p) = record { name = At; value = Point p }
setting_of (choice.Size n) = record { name = Size; value = natural n }
setting_of (choice.Seed n) = record { name = Seed; value = natural n }

-- what a name is set to by what was seen
abbrev pub held : Seen → Name → Option Value
held seen Level = option_map Number seen.level
held seen Below = is_yes seen.below
held seen Step = option_map natural seen.step
held seen Long = option_map natural seen.long
held seen Short = option_map natural seen.short
held seen Workers = option_map natural seen.workers
held seen Slab = option_map natural seen.slab
held seen First = option_map natural seen.first
held seen Units = option_map (λ world. Number (units_value world)) seen.world
held seen Faces = is_yes seen.faces
held seen At = option_map Point seen.at
held seen Size = option_map natural seen.size
held seen Seed = option_map natural seen.seed

-- what a name is set to by one setting
abbrev pub said : Setting → Name → Option Value
said s n = if same_name n s.name then Some s.value else None

-- whether a command has the name
abbrev pub is_known : Verb → Name → Bool
is_known v n = is_among (required v) n || is_among (optional v) n

-- Named words that are read as settings of a command, each name at most once.
pub record IsSettled (v : Verb) (named : List (List ℕ)) (settings : List Setting) : Type 0 where
  pub named_are : AllZip ReadsSetting named settings
  pub once : (n : Name) → count_by (is_of n) settings ≤ 1
  pub known : IsTrue (list_all (λ s. is_known v s.name) settings)

-- named words, of which this was seen
pub record IsTaken (v : Verb) (named : List (List ℕ)) (seen : Seen) : Type 0 where
  pub settings : List Setting
  pub settled : IsSettled v named settings
  pub held_are : (n : Name) → held seen n ≡ value_of settings n

-- The word sets what was not set before, and this is seen then.
pub record IsTakenAs (v : Verb) (seen : Seen) (word : List ℕ) (next : Seen) : Type 0 where
  pub setting : Setting
  pub word_reads : ReadsSetting word setting
  pub known : is_known v setting.name ≡ true
  pub first : held seen setting.name ≡ None
  pub next_held : (n : Name) → held next n ≡ option_or (held seen n) (said setting n)

-- a word that no command goes on with
abbrev pub IsStuck : Verb → Seen → List ℕ → Type 0
IsStuck v seen word = (s : Setting) → ReadsSetting word s → is_known v s.name ≡ true → held seen s.name ≡ None → ⊥

-- The first word that is not taken, so many after the first of the named words.
pub record IsStop (v : Verb) (words : List (List ℕ)) (start place : ℕ) : Type 0 where
  pub taken : ℕ
  pub seen : Seen
  pub place_is : place ≡ start + taken
  pub within : taken < length (drop start words)
  pub before : IsTaken v (take taken (drop start words)) seen
  pub stuck : IsStuck v seen (slice_index_or (drop start words) taken [])
