-- Words that are codes of states, and their states.
use Rattle.std.specs.Prelude.{◌≡◌, ℕ, ◌/◌, ◌%◌, Bool, ◌&&◌, ◌||◌, nat_le, ◌==◌, List, All, IsTrue, length, if◌then◌else◌}
use Rattle.definitions.specs.declared.Dims.{Dims}
use Rattle.definitions.specs.declared.State.{State}
use Rattle.definitions.specs.declared.State.TheVariants as state
use Rattle.definitions.specs.Lattice.{IsDims, vertices}

-- the state of a word, if it is a code
abbrev pub state_of_code : ℕ → State
state_of_code word = if word == 1 then state.Minus else if word == 3 then state.Plus else state.Zero (word / 4 % 16) (word / 64)

-- the word is a code: 1, 3, or that of a Zero vertex on none or one of fourteen edges
abbrev pub is_code : ℕ → Bool
is_code word =
    word == 1 || (word == 3 || (word % 4 == 2 && ((word / 4 % 16 == 0 && word / 64 == 0) || (nat_le 1 (word / 4 % 16) && (nat_le (word / 4 % 16) 14 && nat_le (word / 64) 4096)))))

-- the sizes, and the states of all vertices in order
pub record StateList : Type 0 where
  pub dims : Dims
  pub states : List State

-- as many words as there are vertices, each a code
pub record AreCodes (d : Dims) (words : List ℕ) : Type 0 where
  pub sizes : IsDims d
  pub whole : length words ≡ length (vertices d)
  pub each : All (λ word. IsTrue (is_code word)) words
