-- What reading the next line of a head comes to.
use Rattle.std.specs.Prelude.{◌≡◌, ◌<◌, ℕ, List, [], ◌∷◌, ◌++◌, length, take, Option, Result, Ok, Err, ⊤}
use Rattle.formats.specs.declared.HeadFault.{HeadFault}
use Rattle.formats.specs.declared.HeadFault.TheVariants.{HeaderTooLong, HeadEnds, ReadFault, NoMemory}
use Rattle.formats.specs.Counts.{head_limit}
use Rattle.mha_read.specs.LinesRead.{LinesRead, NoLine, CutShort}

-- a line and the place behind it, or why there is none
abbrev pub NextLine : ℕ → Result ℕ HeadFault → List ℕ → List (List ℕ) → List ℕ → Option (List ℕ) → Type 0
NextLine place (Ok next) text done line left = LinesRead text next left (done ++ line ∷ [])
NextLine place (Err HeaderTooLong) text done line left = NoLine text done left × (length (take head_limit text) ≡ head_limit)
NextLine place (Err HeadEnds) text done line left = NoLine text done left × (length (take head_limit text) < head_limit)
NextLine place (Err ReadFault) text done line left = CutShort text place done left
NextLine place (Err NoMemory) text done line left = ⊤
NextLine place (Err fault) text done line left = ⊥
