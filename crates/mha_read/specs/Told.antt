-- What reading a head comes to where the input is told.
use Rattle.std.specs.Prelude.{◌≡◌, ◌⊎◌, ◌<◌, ℕ, List, [], ◌∷◌, ◌++◌, length, filter_map, Option, Result, Ok, Err, Bool, IsTrue, true, false, ⊤}
use Rattle.formats.specs.declared.Head.{Head}
use Rattle.formats.specs.declared.HeadFault.{HeadFault}
use Rattle.formats.specs.declared.HeadFault.TheVariants.{ReadFault, NoMemory}
use Rattle.formats.specs.HeadLines.{meaning_of, is_bad, is_data_line, pair_of, pairs_of}
use Rattle.formats.specs.Heads.{HeadAt, head_of, head_taken, ends_in_head}
use Rattle.st_base.specs.declared.NoMemory.{NoMemory as Memory}
use Rattle.mha_read.specs.LinesRead.{Leaves}
use Rattle.mha_read.specs.declared.pairs.Turn.{Turn}
use Rattle.mha_read.specs.declared.pairs.Turn.TheVariants.{GoesOn, IsData, IsBad}

-- the pairs in some lines
abbrev pub pairs_in : List (List ℕ) → List (List ℕ × List ℕ)
pairs_in lines = filter_map (λ line. pair_of (meaning_of line)) lines

-- what a line does to the pairs before it
abbrev pub Turns : Result Turn Memory → List (List ℕ × List ℕ) → List (List ℕ × List ℕ) → List ℕ → Type 0
Turns (Ok GoesOn) old new line = (is_bad (meaning_of line) ≡ false) × (is_data_line (meaning_of line) ≡ false) × (new ≡ old ++ pairs_in (line ∷ []))
Turns (Ok IsData) old new line = (is_bad (meaning_of line) ≡ false) × (is_data_line (meaning_of line) ≡ true) × (new ≡ old ++ pairs_in (line ∷ []))
Turns (Ok IsBad) old new line = is_bad (meaning_of line) ≡ true
Turns (Err fault) old new line = ⊤

-- A fault of reading comes before the last byte that is read for a head, or where the text ends in its head.
abbrev pub IsEarly : List ℕ → ℕ → Type 0
IsEarly text n = (n < head_taken text) ⊎ ((n ≡ length text) × IsTrue (ends_in_head text))

-- The pairs are those of the text, or the fault is the one that it has, and what is left stands behind them.
abbrev pub PairsRead : Result (List (List ℕ × List ℕ)) HeadFault → List ℕ → Option (List ℕ) → Type 0
PairsRead (Ok pairs) text left = (n : ℕ) × (pairs_of text ≡ Ok (record { pairs = pairs; len = n })) × (n ≡ head_taken text) × Leaves text n left
PairsRead (Err ReadFault) text left = (n : ℕ) × Leaves text n left × IsEarly text n
PairsRead (Err NoMemory) text left = ⊤
PairsRead (Err fault) text left = (pairs_of text ≡ Err fault) × Leaves text (head_taken text) left

-- the answer is the one that the text has, and so is what is left
abbrev pub Answers : Bool → Result Head HeadFault → List ℕ → Option (List ℕ) → Type 0
Answers world (Ok head) text left = (h : HeadAt) × (head_of world text ≡ Ok h) × (head ≡ h.head) × (h.len ≡ head_taken text) × Leaves text h.len left
Answers world (Err ReadFault) text left = (n : ℕ) × Leaves text n left × IsEarly text n
Answers world (Err NoMemory) text left = ⊤
Answers world (Err fault) text left = (head_of world text ≡ Err fault) × Leaves text (head_taken text) left
