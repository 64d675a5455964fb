-- Samples, taken from an input in whole rows.
use Rattle.std.specs.Prelude.{◌≡◌, ◌<◌, ◌≤◌, ℕ, ◌+◌, ◌*◌, ◌^◌, ℤ, List, ◌++◌, length, Option, Result, Ok, Err, ⊤}
use Rattle.std.specs.Io.KnownBytes.{Consumes, IsAtEnd}
use Rattle.formats.specs.Samples.{bytes_per_sample, sample_of_bytes}
use Rattle.st_base.specs.Samples.{Samples}
use Rattle.mha_read.specs.RawRows.{kept_of_rows}
use Rattle.mha_read.specs.declared.samples.Grid.{Grid}
use Rattle.mha_read.specs.declared.samples.SampleFault.{SampleFault}
use Rattle.mha_read.specs.declared.samples.SampleFault.TheVariants.{Truncated, ReadFault, NoMemory}

-- rows within the limits, and a step that may be taken
pub record IsGrid (grid : Grid) : Type 0 where
  pub width_positive : 1 ≤ grid.width
  pub height_positive : 1 ≤ grid.height
  pub step_positive : 1 ≤ grid.step
  pub width_bound : grid.width ≤ 8192
  pub height_bound : grid.height ≤ 8192
  pub step_bound : grid.step ≤ 64

-- the number of bytes in a row
abbrev pub row_bytes : Grid → ℕ
row_bytes grid = grid.width * bytes_per_sample grid.kind

-- what is kept of n rows from row q on, whose bytes begin with these
abbrev pub kept_rows : Grid → List ℕ → ℕ → ℕ → List ℤ
kept_rows grid bytes q n = kept_of_rows (sample_of_bytes grid.kind grid.big bytes) grid.width grid.height grid.step q n

-- the bytes of so many rows from the first on were taken, and these are the samples that are kept of them
pub record TakesRows (grid : Grid) (old new : Option (List ℕ)) (rows : ℕ) (samples : List ℤ) : Type 0 where
  pub bytes : List ℕ
  pub taken : Consumes old new bytes
  pub len : length bytes ≡ rows * row_bytes grid
  pub numbers : samples ≡ kept_rows grid bytes 0 rows

-- bytes were taken, fewer than these
pub record TakesFewer (old new : Option (List ℕ)) (count : ℕ) : Type 0 where
  pub bytes : List ℕ
  pub taken : Consumes old new bytes
  pub fewer : length bytes < count

-- so many bytes were taken, all that were left and fewer than these
pub record TakesLast (old new : Option (List ℕ)) (got count : ℕ) : Type 0 where
  pub bytes : List ℕ
  pub taken : Consumes old new bytes
  pub len : length bytes ≡ got
  pub fewer : got < count
  pub last : IsAtEnd new

-- rows from row q on were taken behind others
pub record TakesMore (grid : Grid) (old new : Option (List ℕ)) (q rows : ℕ) (before after : List ℤ) : Type 0 where
  pub bytes : List ℕ
  pub taken : Consumes old new bytes
  pub len : length bytes ≡ rows * row_bytes grid
  pub numbers : after ≡ before ++ kept_rows grid bytes q rows

-- what reading rows comes to
abbrev pub ReadsRows : Grid → Option (List ℕ) → Option (List ℕ) → ℕ → ℕ → List ℤ → List ℤ → Result (Unit {0}) SampleFault → Type 0
ReadsRows grid old new q rows before after (Ok done) = TakesMore grid old new q rows before after
ReadsRows grid old new q rows before after (Err (Truncated got)) = TakesLast old new got (rows * row_bytes grid)
ReadsRows grid old new q rows before after (Err ReadFault) = TakesFewer old new (rows * row_bytes grid)
ReadsRows grid old new q rows before after (Err NoMemory) = ⊤

-- what reading all rows comes to
abbrev pub ReadsSamples : Grid → Option (List ℕ) → Option (List ℕ) → ℕ → Result Samples SampleFault → Type 0
ReadsSamples grid old new rows (Ok s) = TakesRows grid old new rows s.numbers
ReadsSamples grid old new rows (Err (Truncated got)) = TakesLast old new got (rows * row_bytes grid)
ReadsSamples grid old new rows (Err ReadFault) = TakesFewer old new (rows * row_bytes grid)
ReadsSamples grid old new rows (Err NoMemory) = ⊤

-- a fault behind bytes that were taken before
abbrev pub fault_behind : SampleFault → ℕ → SampleFault
fault_behind (Truncated got) before = Truncated (before + got)
fault_behind ReadFault before = ReadFault
fault_behind NoMemory before = NoMemory

-- the bytes in all can be counted
abbrev pub FitsBehind : SampleFault → ℕ → Type 0
FitsBehind (Truncated got) before = before + got < 2 ^ 64
FitsBehind ReadFault before = ⊤
FitsBehind NoMemory before = ⊤
