-- The rule of the cells: what holds of the words and of all seats between any two steps, and what each step does to a seat.
use Rattle.std.specs.Prelude.{◌≡◌, ◌≢◌, ◌⊎◌, ℕ, ◌+◌, ◌-◌, ◌<◌, ◌≤◌, ◌==◌, List, [], ◌∷◌, ◌++◌, Bool, true, false, if◌then◌else◌, length, slice_index}
use mathlib.Core.Option.{some}
use lib.ListN.{get_elem?}
use Rattle.atomic_table.specs.Table.{State, Step, Me}
use Rattle.definitions.specs.Lattice.{vertices, vertex_at, layers}
use Rattle.definitions.specs.Layout.{layer_ids, layer_len, layer_start}
use Rattle.definitions.specs.States.{code, state_of}
use Rattle.list_words.specs.Words.{has, has_all, joined, without}
use Rattle.layer_cells.specs.declared.rule.View.{View}
use Rattle.layer_cells.specs.Seats.{Subject}

-- the code of the vertex with an id
unfoldable pub wanted : Subject → ℕ → ℕ
wanted a id = code (state_of a.field a.shares (vertex_at a.field.dims id))

-- there is one word for each vertex, and behind them one for each layer
abbrev pub vertex_words : Subject → ℕ
vertex_words a = length (vertices a.field.dims)

abbrev pub layer_words : Subject → ℕ
layer_words a = layers a.field.dims

-- the flag of layer h
abbrev pub flag : Subject → List ℕ → ℕ → ℕ
flag a words h = slice_index words (vertex_words a + h)

-- all ids of layer h are in the list
abbrev pub has_layer : Subject → ℕ → List ℕ → Bool
has_layer a h ids = has_all (layer_ids a.field.dims h) ids

-- all words of layer h are its codes
abbrev pub IsWhole : Subject → List ℕ → ℕ → Type 0
IsWhole a words h = (id : ℕ) → layer_start a.field.dims h ≤ id → id < layer_start a.field.dims h + layer_len a.field.dims h → slice_index words id ≡ wanted a id

-- whose states a seat makes
abbrev pub subject : View → Subject
subject v = record { field = v.field; shares = v.shares }

-- Of one seat: it is of this subject; the layers that it knows have their flag up, what it put is set, and it knows what it made. One that isn't live was joined to another.
pub record Fits (a : Subject) (words : List ℕ) (v : View) : Type 0 where
  pub of : v.live ≡ true → subject v ≡ a
  pub seen : (h : ℕ) → has h v.seen ≡ true → (h < layer_words a) × (flag a words h ≢ 0)
  pub put : (id : ℕ) → has id v.put ≡ true → (id < vertex_words a) × (slice_index words id ≡ wanted a id)
  pub made : (h : ℕ) → has h v.made ≡ true → has h v.seen ≡ true

-- Of all: a word is 0 or its vertex's code, and the layer of a flag that is up is whole.
pub record KeepsWords (a : Subject) (words : List ℕ) (views : List View) : Type 0 where
  pub size : length words ≡ vertex_words a + layer_words a
  pub codes : (id : ℕ) → id < vertex_words a → (slice_index words id ≡ 0) ⊎ (slice_index words id ≡ wanted a id)
  pub flags : (h : ℕ) → h < layer_words a → flag a words h ≢ 0 → IsWhole a words h
  pub each : (k : ℕ) (v : View) → get_elem? views k ≡ some v → Fits a words v

abbrev pub KeepsRule : Subject → State ℕ View → Type 0
KeepsRule a s = KeepsWords a s.words s.views

-- the seat that the table begins with
abbrev pub first_view : Subject → View
first_view a = record { live = true; field = a.field; shares = a.shares; seen = []; down = []; put = []; made = [] }

-- a seat after a look at the flag of layer h found n
abbrev pub after_look : View → ℕ → ℕ → View
after_look v h n = if n == 0 then record v { down = joined h v.down } else record v { seen = joined h v.seen; down = without h v.down }

-- a seat that finds a flag down didn't know its layer
abbrev pub Looks : Step ℕ → Me ℕ View → ℕ → Me ℕ View → Type 0
Looks s old n new =
    (new ≡ (after_look old.0 (s.word - vertex_words (subject old.0)) n, old.1)) × (n ≡ 0 → has (s.word - vertex_words (subject old.0)) old.0.seen ≡ false)

abbrev pub Puts : Step ℕ → Me ℕ View → ℕ → Me ℕ View → Type 0
Puts s old n new = new ≡ (record old.0 { put = joined s.word old.0.put }, old.1)

abbrev pub after_raise : View → ℕ → View
after_raise v h = record v { seen = joined h v.seen; down = without h v.down; made = v.made ++ h ∷ [] }

abbrev pub Raises : Step ℕ → Me ℕ View → ℕ → Me ℕ View → Type 0
Raises s old n new = new ≡ (after_raise old.0 (s.word - vertex_words (subject old.0)), old.1)

-- a word of a layer that the seat knows is its code
abbrev pub Reads : Step ℕ → Me ℕ View → ℕ → Me ℕ View → Type 0
Reads s old n new =
    (new ≡ old)
    × ((h : ℕ) → has h old.0.seen ≡ true → layer_start old.0.field.dims h ≤ s.word → s.word < layer_start old.0.field.dims h + layer_len old.0.field.dims h → n ≡ wanted (subject old.0) s.word)

-- a new seat, which knows what the old one knows
abbrev pub knows_alike : View → View
knows_alike v = record v { down = []; put = []; made = [] }

-- two seats as one, and what is left of the other
abbrev pub joint : View → View → View
joint v w = record v { seen = v.seen ++ w.seen; made = v.made ++ w.made }

abbrev pub spent : View
spent = record {
  live = false;
  field = record { dims = record { nx = 0; ny = 0; nz = 0 }; differences = [] };
  shares = record { long = 0; short = 0 };
  seen = [];
  down = [];
  put = [];
  made = [];
}
