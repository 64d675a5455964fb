-- Words of 64 bits, one for each sign, that tell the signs of things in a row: a bit that is set says that the thing of its number has this sign, one that is not says nothing.
use Rattle.std.specs.Prelude.{◌≡◌, ℕ, ◌+◌, ◌*◌, ◌/◌, ◌<◌, ◌≤◌, List, length, ℤ, pos, slice_index_or}
use Rattle.std.specs.Int.{bit_at}
use Rattle.definitions.specs.declared.Sign.{Sign}
use Rattle.definitions.specs.declared.Sign.TheVariants.{Minus, Zero, Plus}
use Rattle.definitions.specs.Values.{Field, corner_difference, sign_of}
use Rattle.samples.specs.declared.sign_words.SignWords.{SignWords}

-- the word of a sign
abbrev pub word_of : Sign → SignWords → ℕ
word_of Plus w = w.plus
word_of Zero w = w.zero
word_of Minus w = w.minus

-- thing b is told to have the sign
abbrev pub IsTold : SignWords → Sign → ℕ → Type 0
IsTold w s b = bit_at (word_of s w) b ≡ 1

-- nothing is told
abbrev pub none_told : SignWords
none_told = record { plus = 0; zero = 0; minus = 0 }

-- the words tell the signs of the numbers from number n on
abbrev pub TellNumbers : List ℤ → ℕ → SignWords → Type 0
TellNumbers zs n w = (s : Sign) (b : ℕ) → IsTold w s b → sign_of (slice_index_or zs (n + b) (pos 0)) ≡ s

-- there are words for all the numbers, 64 each, and one more
pub record AreWordsOf (zs : List ℤ) (words : List SignWords) : Type 0 where
  pub room : length zs / 64 + 2 ≤ length words
  pub each : (q : ℕ) → q < length words → TellNumbers zs (64 * q) (slice_index_or words q none_told)

-- the words tell the signs of the corners of row (j, k), from the one before corner i on
abbrev pub TellCorners : Field → ℕ → ℕ → ℕ → SignWords → Type 0
TellCorners f i j k w = (s : Sign) (b : ℕ) → IsTold w s b → (c : ℕ) → c + 1 ≡ i + b → sign_of (corner_difference f c j k) ≡ s
