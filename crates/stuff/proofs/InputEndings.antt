-- How a command leaves its input.
use Rattle.std.proofs.Common.{true, false, ◌≡◌, ◌≢◌, ◌⊎◌, inl, inr, Bool, ℕ, ◌<◌, List, [], ◌∷◌, Option, Some, None, refl, ap, sym, ◌∙◌, subst, arith}
use Rattle.std.specs.Prelude.{Ok, nat_lt, if◌then◌else◌}
use Rattle.formats.specs.declared.Port.{Port}
use Rattle.formats.specs.declared.Status.{Status}
use Rattle.formats.specs.declared.Status.TheVariants.{Done, BadWords, BadHeader, Unsupported, TooLarge, Truncated, ReadFault, WriteFault, NoMemory, TooManyTets, BadMesh, NotSound}
use Rattle.command_line.specs.Grammar.{Command as Meaning, Reads, IsBadPlace}
use Rattle.st_base.specs.Desk.{InputState, IsTold}
use Rattle.command_words.proofs.Places.{one_command, one_place}
use Rattle.stuff.specs.Inputs.{Settings, settings_of, told_input, outcome_for, IsInput, IsLeft, BreaksOff}
use Rattle.stuff.specs.Outputs.{made_status, mesh_status, status_made, status_of_input}
use Rattle.stuff.specs.Ports.{Reading, EndsAt, LacksMemoryAt, IsAtOutput}
use Rattle.stuff.proofs.TextsWritten.{ReadsFile}
use Rattle.stuff.specs.declared.input.Scan.{Scan}
use Rattle.stuff.specs.Ends.{Accepts, ReadsField, InputEnds, Refuses, ReadsWhole, ComesTo, RefusesInput, MeshEnds, IsRefusal, IsOutcome, WordsEnd, HoldsInput}

-- an input was refused
pub refusal_ends : (status : Status) (P : Meaning → List ℕ → Type 0) (now : InputState) → IsRefusal status → (status ≡ ReadFault → 0 < now.faults) → (status ≢ ReadFault → now.faults ≡ 0)
    → ((c : Meaning) (text : List ℕ) → P c text → RefusesInput status (outcome_for c text) text now.left) → InputEnds status P now
refusal_ends Done P now is broke whole told = absurd is
refusal_ends (BadWords place) P now is broke whole told = absurd is
refusal_ends (BadHeader fault) P now is broke whole told = record { faults = whole (λ e. cc); told = told }
refusal_ends (Unsupported key) P now is broke whole told = record { faults = whole (λ e. cc); told = told }
refusal_ends (TooLarge padded) P now is broke whole told = record { faults = whole (λ e. cc); told = told }
refusal_ends (Truncated got wanted) P now is broke whole told = record { faults = whole (λ e. cc); told = told }
refusal_ends ReadFault P now is broke whole told = (broke refl, λ c text p. inr (told c text p))
refusal_ends (WriteFault port) P now is broke whole told = absurd is
refusal_ends NoMemory P now is broke whole told = record { faults = whole (λ e. cc); told = told }
refusal_ends (TooManyTets tets) P now is broke whole told = absurd is
refusal_ends (BadMesh file why) P now is broke whole told = absurd is
refusal_ends (NotSound verdict) P now is broke whole told = absurd is

-- no port was used then
lacks_while_reading : (files : List Port) → LacksMemoryAt files Reading
lacks_while_reading [] = refl
lacks_while_reading (p ∷ ps) = inl refl

pub refusal_reads : (status : Status) (files : List Port) → IsRefusal status → EndsAt status files Reading
refusal_reads Done files is = absurd is
refusal_reads (BadWords place) files is = absurd is
refusal_reads (BadHeader fault) files is = refl
refusal_reads (Unsupported key) files is = refl
refusal_reads (TooLarge padded) files is = refl
refusal_reads (Truncated got wanted) files is = refl
refusal_reads ReadFault files is = refl
refusal_reads (WriteFault port) files is = absurd is
refusal_reads NoMemory files is = lacks_while_reading files
refusal_reads (TooManyTets tets) files is = absurd is
refusal_reads (BadMesh file why) files is = absurd is
refusal_reads (NotSound verdict) files is = absurd is

-- the input was read whole, and the command comes to Done
pub whole_ends : (status : Status) (P : Meaning → List ℕ → Type 0) (now : InputState) → IsAtOutput status → ReadsWhole P now → ((c : Meaning) (text : List ℕ) → P c text → status_of_input c text ≡ Done) → InputEnds status P now
whole_ends Done P now is r comes = record { whole = r; comes = comes }
whole_ends (BadWords place) P now is r comes = absurd is
whole_ends (BadHeader fault) P now is r comes = absurd is
whole_ends (Unsupported key) P now is r comes = absurd is
whole_ends (TooLarge padded) P now is r comes = absurd is
whole_ends (Truncated got wanted) P now is r comes = absurd is
whole_ends ReadFault P now is r comes = absurd is
whole_ends (WriteFault port) P now is r comes = r
whole_ends NoMemory P now is r comes = record { faults = r.faults; told = λ c text p. tt }
whole_ends (TooManyTets tets) P now is r comes = absurd is
whole_ends (BadMesh file why) P now is r comes = absurd is
whole_ends (NotSound verdict) P now is r comes = absurd is

-- or its mesh has too many tetrahedra
mesh_ends_by : (b : Bool) (tets : ℕ) (status : Status) (P : Meaning → List ℕ → Type 0) (now : InputState) → MeshEnds (if b then TooManyTets tets else Done) status → ReadsWhole P now
    → ((c : Meaning) (text : List ℕ) → P c text → status_of_input c text ≡ (if b then TooManyTets tets else Done)) → InputEnds status P now
mesh_ends_by true tets status P now (inl e) r comes = subst (λ (s : Status). InputEnds s P now) (sym e) (record { whole = r; comes = comes })
mesh_ends_by true tets status P now (inr e) r comes = subst (λ (s : Status). InputEnds s P now) (sym e) (record { faults = r.faults; told = λ c text p. tt })
mesh_ends_by false tets status P now is r comes = whole_ends status P now is r comes

pub mesh_ends : (faces : Bool) (tets : ℕ) (status : Status) (P : Meaning → List ℕ → Type 0) (now : InputState) → MeshEnds (mesh_status faces tets) status → ReadsWhole P now
    → ((c : Meaning) (text : List ℕ) → P c text → status_of_input c text ≡ mesh_status faces tets) → InputEnds status P now
mesh_ends true tets status P now is r comes = mesh_ends_by (nat_lt 33554432 tets) tets status P now is r comes
mesh_ends false tets status P now is r comes = whole_ends status P now is r comes

-- what is told may be told in other words
module _ (P Q : Meaning → List ℕ → Type 0) (now : InputState) (f : (c : Meaning) (text : List ℕ) → Q c text → P c text) where
  refuses_along : (status : Status) → Refuses status P now → Refuses status Q now
  refuses_along status r = record { faults = r.faults; told = λ c text q. r.told c text (f c text q) }

  whole_along : ReadsWhole P now → ReadsWhole Q now
  whole_along r = record { faults = r.faults; told = λ c text q. r.told c text (f c text q) }

  comes_along : (status : Status) → ComesTo status P now → ComesTo status Q now
  comes_along status r = record { whole = whole_along r.whole; comes = λ c text q. r.comes c text (f c text q) }

  pub input_along : (status : Status) → InputEnds status P now → InputEnds status Q now
  input_along Done e = comes_along Done e
  input_along (BadWords place) e = refuses_along (BadWords place) e
  input_along (BadHeader fault) e = refuses_along (BadHeader fault) e
  input_along (Unsupported key) e = refuses_along (Unsupported key) e
  input_along (TooLarge padded) e = refuses_along (TooLarge padded) e
  input_along (Truncated got wanted) e = refuses_along (Truncated got wanted) e
  input_along ReadFault e = (e.0, λ c text q. e.1 c text (f c text q))
  input_along (WriteFault port) e = whole_along e
  input_along NoMemory e = refuses_along NoMemory e
  input_along (TooManyTets tets) e = comes_along (TooManyTets tets) e
  input_along (BadMesh file why) e = refuses_along (BadMesh file why) e
  input_along (NotSound verdict) e = refuses_along (NotSound verdict) e

-- the input that was opened is the one that the words name
pub opened : (words : List (List ℕ)) (held : List ℕ → Option (List ℕ)) (c : Meaning) (name : List ℕ) (left : Option (List ℕ)) → Reads words c → ReadsFile words c name → IsTold (held name) left
    → (d : Meaning) (text : List ℕ) → IsInput words held d text → HoldsInput left c d text
opened words held c name left r n told d text i =
    let same : d ≡ c = one_command words d c i.reads r in
    let h : held name ≡ Some text = sym (n.told held) ∙ ap (told_input held words) (sym same) ∙ i.told in
    (rw h at told, same)

-- a command that reads no volume has no input
pub none_told : (words : List (List ℕ)) (held : List ℕ → Option (List ℕ)) (c d : Meaning) → Reads words c → told_input held words c ≡ None → (text : List ℕ) → IsInput words held d text → ⊥
none_told words held c d r none text i =
    let h : None ≡ Some text = sym none ∙ ap (told_input held words) (one_command words c d r i.reads) ∙ i.told in
    cc

-- it has no input to leave
pub no_input : (status : Status) (words : List (List ℕ)) (held : List ℕ → Option (List ℕ)) (c : Meaning) (now : InputState) → Reads words c → told_input held words c ≡ None → IsAtOutput status → now.faults ≡ 0 → InputEnds status (IsInput words held) now
no_input status words held c now r none is z =
    whole_ends status (IsInput words held) now is (record { faults = z; told = λ d text i. absurd (none_told words held c d r none text i) }) (λ d text i. absurd (none_told words held c d r none text i))

pub bad_words : (words : List (List ℕ)) (held : List ℕ → Option (List ℕ)) (place : ℕ) (now : InputState) → IsBadPlace words place → now.faults ≡ 0 → InputEnds (BadWords place) (IsInput words held) now
bad_words words held place now bad none = record { faults = none; told = λ c text i. absurd (bad.unread c i.reads) }

-- a field was read whole
module _ (said : Settings) (c : Meaning) (scan : Scan) (text : List ℕ) (e : said ≡ settings_of c) where
  pub accepts_field : (mid now : InputState) → now ≡ mid → ReadsField (Ok scan) said text mid.left → Accepts (outcome_for c text) text now.left
  accepts_field mid now same r = subst (λ (i : InputState). Accepts (outcome_for c text) text i.left) (sym same) (subst (λ (x : Settings). ReadsField (Ok scan) x text mid.left) e r).2.2

  pub field_comes_to : (left : Option (List ℕ)) → ReadsField (Ok scan) said text left → status_of_input c text ≡ made_status c scan.field
  field_comes_to left read =
      let r = subst (λ (x : Settings). ReadsField (Ok scan) x text left) e read in
      (λ i. status_made c (r.2.2.0 i) (r.2.0 i)) ∙ ap (made_status c) (sym r.1)

-- ---- what follows

pub words_bad : (status : Status) (words : List (List ℕ)) (place : ℕ) → WordsEnd status words → IsBadPlace words place → status ≡ BadWords place
words_bad Done words place e bad = absurd (bad.unread e.0 e.1)
words_bad (BadWords p) words place e bad = ap BadWords (one_place words p place e bad)
words_bad (BadHeader fault) words place e bad = absurd (bad.unread e.0 e.1)
words_bad (Unsupported key) words place e bad = absurd (bad.unread e.0 e.1)
words_bad (TooLarge padded) words place e bad = absurd (bad.unread e.0 e.1)
words_bad (Truncated got wanted) words place e bad = absurd (bad.unread e.0 e.1)
words_bad ReadFault words place e bad = absurd (bad.unread e.0 e.1)
words_bad (WriteFault port) words place e bad = absurd (bad.unread e.0 e.1)
words_bad NoMemory words place e bad = absurd (bad.unread e.0 e.1)
words_bad (TooManyTets tets) words place e bad = absurd (bad.unread e.0 e.1)
words_bad (BadMesh file why) words place e bad = absurd (bad.unread e.0 e.1)
words_bad (NotSound verdict) words place e bad = absurd (bad.unread e.0 e.1)

pub bad_words_end : (status : Status) (words : List (List ℕ)) (place : ℕ) → WordsEnd status words → status ≡ BadWords place → IsBadPlace words place
bad_words_end status words place e same = rw same at e

pub read_fault_rose : (status : Status) (P : Meaning → List ℕ → Type 0) (now : InputState) → InputEnds status P now → status ≡ ReadFault → 0 < now.faults
read_fault_rose status P now e same = (rw same at e).0

pub rose_is_read_fault : (status : Status) (P : Meaning → List ℕ → Type 0) (now : InputState) → InputEnds status P now → 0 < now.faults → status ≡ ReadFault
rose_is_read_fault Done P now e lt = absurd (omega (arith, e.whole.faults, lt))
rose_is_read_fault (BadWords place) P now e lt = absurd (omega (arith, e.faults, lt))
rose_is_read_fault (BadHeader fault) P now e lt = absurd (omega (arith, e.faults, lt))
rose_is_read_fault (Unsupported key) P now e lt = absurd (omega (arith, e.faults, lt))
rose_is_read_fault (TooLarge padded) P now e lt = absurd (omega (arith, e.faults, lt))
rose_is_read_fault (Truncated got wanted) P now e lt = absurd (omega (arith, e.faults, lt))
rose_is_read_fault ReadFault P now e lt = refl
rose_is_read_fault (WriteFault port) P now e lt = absurd (omega (arith, e.faults, lt))
rose_is_read_fault NoMemory P now e lt = absurd (omega (arith, e.faults, lt))
rose_is_read_fault (TooManyTets tets) P now e lt = absurd (omega (arith, e.whole.faults, lt))
rose_is_read_fault (BadMesh file why) P now e lt = absurd (omega (arith, e.faults, lt))
rose_is_read_fault (NotSound verdict) P now e lt = absurd (omega (arith, e.faults, lt))

module _ (P : Meaning → List ℕ → Type 0) (now : InputState) (c : Meaning) (text : List ℕ) (p : P c text) where
  -- a refusal is what the input comes to
  refused_is : (status : Status) → (outcome_for c text).status ≡ status → status_made c status (outcome_for c text).volume ≡ status → status ≡ status_of_input c text
  refused_is status e h = sym (ap (λ (s : Status). status_made c s (outcome_for c text).volume) e ∙ h)

  pub outcome_is : (status : Status) → InputEnds status P now → IsOutcome status → status ≡ status_of_input c text
  outcome_is Done e is = sym (e.comes c text p)
  outcome_is (BadWords place) e is = absurd is
  outcome_is (BadHeader fault) e is = refused_is (BadHeader fault) (e.told c text p).0 refl
  outcome_is (Unsupported key) e is = refused_is (Unsupported key) (e.told c text p).0 refl
  outcome_is (TooLarge padded) e is = refused_is (TooLarge padded) (e.told c text p).0 refl
  outcome_is (Truncated got wanted) e is = refused_is (Truncated got wanted) (e.told c text p).0 refl
  outcome_is ReadFault e is = absurd is
  outcome_is (WriteFault port) e is = absurd is
  outcome_is NoMemory e is = absurd is
  outcome_is (TooManyTets tets) e is = sym (e.comes c text p)
  outcome_is (BadMesh file why) e is = absurd is
  outcome_is (NotSound verdict) e is = absurd is

  pub outcome_comes : (status : Status) → InputEnds status P now → now.faults ≡ 0 → ((q : Port) → status ≢ WriteFault q) → (status ≡ status_of_input c text) ⊎ (status ≡ NoMemory)
  outcome_comes Done e f g = inl (sym (e.comes c text p))
  outcome_comes (BadWords place) e f g = inl (refused_is (BadWords place) (e.told c text p).0 refl)
  outcome_comes (BadHeader fault) e f g = inl (refused_is (BadHeader fault) (e.told c text p).0 refl)
  outcome_comes (Unsupported key) e f g = inl (refused_is (Unsupported key) (e.told c text p).0 refl)
  outcome_comes (TooLarge padded) e f g = inl (refused_is (TooLarge padded) (e.told c text p).0 refl)
  outcome_comes (Truncated got wanted) e f g = inl (refused_is (Truncated got wanted) (e.told c text p).0 refl)
  outcome_comes ReadFault e f g = absurd (omega (arith, e.0, f))
  outcome_comes (WriteFault port) e f g = absurd (g port refl)
  outcome_comes NoMemory e f g = inr refl
  outcome_comes (TooManyTets tets) e f g = inl (sym (e.comes c text p))
  outcome_comes (BadMesh file why) e f g = inl (refused_is (BadMesh file why) (e.told c text p).0 refl)
  outcome_comes (NotSound verdict) e f g = inl (refused_is (NotSound verdict) (e.told c text p).0 refl)

  pub outcome_read : (status : Status) → InputEnds status P now → IsOutcome status → IsLeft text (outcome_for c text).taken now.left
  outcome_read Done e is = (e.whole.told c text p).1
  outcome_read (BadWords place) e is = absurd is
  outcome_read (BadHeader fault) e is = (e.told c text p).1
  outcome_read (Unsupported key) e is = (e.told c text p).1
  outcome_read (TooLarge padded) e is = (e.told c text p).1
  outcome_read (Truncated got wanted) e is = (e.told c text p).1
  outcome_read ReadFault e is = absurd is
  outcome_read (WriteFault port) e is = absurd is
  outcome_read NoMemory e is = absurd is
  outcome_read (TooManyTets tets) e is = (e.whole.told c text p).1
  outcome_read (BadMesh file why) e is = absurd is
  outcome_read (NotSound verdict) e is = absurd is

  pub whole_at_write_fault : (status : Status) (port : Port) → InputEnds status P now → status ≡ WriteFault port → Accepts (outcome_for c text) text now.left
  whole_at_write_fault status port e same = (rw same at e).told c text p

  pub breaks_at_read_fault : (status : Status) → InputEnds status P now → status ≡ ReadFault → (now.is_open ≡ false) ⊎ BreaksOff (outcome_for c text) text now.left
  breaks_at_read_fault status e same = (rw same at e).1 c text p

-- the words are bad, or read as a command
pub bad_or_read : (status : Status) (words : List (List ℕ)) → WordsEnd status words → ((place : ℕ) × (status ≡ BadWords place)) ⊎ ((c : Meaning) × Reads words c)
bad_or_read Done words e = inr e
bad_or_read (BadWords place) words e = inl (place, refl)
bad_or_read (BadHeader fault) words e = inr e
bad_or_read (Unsupported key) words e = inr e
bad_or_read (TooLarge padded) words e = inr e
bad_or_read (Truncated got wanted) words e = inr e
bad_or_read ReadFault words e = inr e
bad_or_read (WriteFault port) words e = inr e
bad_or_read NoMemory words e = inr e
bad_or_read (TooManyTets tets) words e = inr e
bad_or_read (BadMesh file why) words e = inr e
bad_or_read (NotSound verdict) words e = inr e

-- a command that came to its output
pub at_output_words : (status : Status) (words : List (List ℕ)) (c : Meaning) → IsAtOutput status → Reads words c → WordsEnd status words
at_output_words Done words c is r = (c, r)
at_output_words (BadWords place) words c is r = absurd is
at_output_words (BadHeader fault) words c is r = absurd is
at_output_words (Unsupported key) words c is r = absurd is
at_output_words (TooLarge padded) words c is r = absurd is
at_output_words (Truncated got wanted) words c is r = absurd is
at_output_words ReadFault words c is r = absurd is
at_output_words (WriteFault port) words c is r = (c, r)
at_output_words NoMemory words c is r = (c, r)
at_output_words (TooManyTets tets) words c is r = absurd is
at_output_words (BadMesh file why) words c is r = absurd is
at_output_words (NotSound verdict) words c is r = absurd is

pub done_or_no_memory : (status : Status) → IsAtOutput status → ((p : Port) → status ≢ WriteFault p) → (status ≡ Done) ⊎ (status ≡ NoMemory)
done_or_no_memory Done is g = inl refl
done_or_no_memory (BadWords place) is g = absurd is
done_or_no_memory (BadHeader fault) is g = absurd is
done_or_no_memory (Unsupported key) is g = absurd is
done_or_no_memory (TooLarge padded) is g = absurd is
done_or_no_memory (Truncated got wanted) is g = absurd is
done_or_no_memory ReadFault is g = absurd is
done_or_no_memory (WriteFault port) is g = absurd (g port refl)
done_or_no_memory NoMemory is g = inr refl
done_or_no_memory (TooManyTets tets) is g = absurd is
done_or_no_memory (BadMesh file why) is g = absurd is
done_or_no_memory (NotSound verdict) is g = absurd is
