-- Samples of one type, each kept as how far it is above the least number of the type.
use Rattle.std.specs.Prelude.{ℕ, List, map, ℤ, pos, ◌+ℤ◌}
use Rattle.formats.specs.declared.Kind.{Kind}
use Rattle.formats.specs.Volumes.{least_of}

pub record Samples : Type 0 where
  pub kind : Kind
  pub numbers : List ℤ

-- the sample that is so far above the least number of its type
abbrev pub sample_above : Kind → ℕ → ℤ
sample_above kind word = least_of kind +ℤ pos word

abbrev pub samples_above : Kind → List ℕ → Samples
samples_above kind words = record { kind = kind; numbers = map (sample_above kind) words }
