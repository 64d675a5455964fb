-- How an audit ends.
use Rattle.std.proofs.Common.{◌≡◌, ◌≢◌, ◌⊎◌, inl, inr, ℕ, ◌<◌, List, [], Option, Some, refl, sym, ◌∙◌, subst}
use Rattle.std.specs.Prelude.{IfSome, Err}
use Rattle.formats.specs.declared.Port.{Port}
use Rattle.formats.specs.declared.Status.{Status}
use Rattle.formats.specs.declared.Status.TheVariants.{Done, BadWords, BadHeader, Unsupported, TooLarge, Truncated, ReadFault, WriteFault, NoMemory, TooManyTets, BadMesh, NotSound}
use Rattle.formats.specs.declared.Verdict.{Verdict}
use Rattle.formats.specs.declared.Verdict.TheVariants.{NotPositive, Crowded, Turned, Sound}
use Rattle.command_line.specs.Grammar.{Command as Meaning, Reads}
use Rattle.file_audit.specs.Status.{AnswersAs, verdict_status}
use Rattle.mesh_audit.specs.FitTogether.{IsSoundVerdict}
use Rattle.st_base.specs.Desk.{InputState}
use Rattle.stuff.specs.Ports.{Reading, EndsAt}
use Rattle.stuff.specs.Ends.{AuditEnds, InputEnds, VerdictEnds, WordsEnd}

-- what is told of a verdict
at_output : (status : Status) (wanted : Option Status) → VerdictEnds status (Sound 0 0 0) → IfSome wanted (λ s. s ≡ Done) → AuditEnds status wanted
at_output Done wanted is w = w
at_output (BadWords place) wanted is w = absurd is
at_output (BadHeader fault) wanted is w = absurd is
at_output (Unsupported key) wanted is w = absurd is
at_output (TooLarge padded) wanted is w = absurd is
at_output (Truncated got all) wanted is w = absurd is
at_output ReadFault wanted is w = absurd is
at_output (WriteFault port) wanted is w = tt
at_output NoMemory wanted is w = tt
at_output (TooManyTets tets) wanted is w = absurd is
at_output (BadMesh file why) wanted is w = absurd is
at_output (NotSound v) wanted is w = absurd is

pub judged : (v : Verdict) (status : Status) (wanted : Option Status) → VerdictEnds status v → IfSome wanted (λ s. s ≡ verdict_status v) → AuditEnds status wanted
judged (Sound nodes tets boundary) status wanted is w = at_output status wanted is w
judged (NotPositive tet) status wanted is w = subst (λ (s : Status). AuditEnds s wanted) (sym is) w
judged (Crowded tet) status wanted is w = subst (λ (s : Status). AuditEnds s wanted) (sym is) w
judged (Turned tet) status wanted is w = subst (λ (s : Status). AuditEnds s wanted) (sym is) w

-- Done and a fault of reading come of a verdict thus
pub done_is_sound : (v : Verdict) (status : Status) → VerdictEnds status v → status ≡ Done → IsSoundVerdict v
done_is_sound (Sound nodes tets boundary) status is e = tt
done_is_sound (NotPositive tet) status is e = let q = sym e ∙ is in cc
done_is_sound (Crowded tet) status is e = let q = sym e ∙ is in cc
done_is_sound (Turned tet) status is e = let q = sym e ∙ is in cc

pub no_read_fault : (v : Verdict) (status : Status) → VerdictEnds status v → status ≢ ReadFault
no_read_fault (Sound nodes tets boundary) status is e = absurd (subst (λ (s : Status). VerdictEnds s (Sound nodes tets boundary)) e is)
no_read_fault (NotPositive tet) status is e = let q = sym e ∙ is in cc
no_read_fault (Crowded tet) status is e = let q = sym e ∙ is in cc
no_read_fault (Turned tet) status is e = let q = sym e ∙ is in cc

-- a refusal of files
pub refused_files : (status : Status) (wanted : Option Status) → AnswersAs wanted (Err status) → AuditEnds status wanted
refused_files Done wanted a = absurd a
refused_files (BadWords place) wanted a = absurd a
refused_files (BadHeader fault) wanted a = absurd a
refused_files (Unsupported key) wanted a = absurd a
refused_files (TooLarge padded) wanted a = absurd a
refused_files (Truncated got all) wanted a = absurd a
refused_files ReadFault wanted a = tt
refused_files (WriteFault port) wanted a = absurd a
refused_files NoMemory wanted a = tt
refused_files (TooManyTets tets) wanted a = absurd a
refused_files (BadMesh file why) wanted a = a.2
refused_files (NotSound v) wanted a = absurd a

pub files_refused_reading : (status : Status) (wanted : Option Status) → AnswersAs wanted (Err status) → EndsAt status [] Reading
files_refused_reading Done wanted a = absurd a
files_refused_reading (BadWords place) wanted a = absurd a
files_refused_reading (BadHeader fault) wanted a = absurd a
files_refused_reading (Unsupported key) wanted a = absurd a
files_refused_reading (TooLarge padded) wanted a = absurd a
files_refused_reading (Truncated got all) wanted a = absurd a
files_refused_reading ReadFault wanted a = refl
files_refused_reading (WriteFault port) wanted a = absurd a
files_refused_reading NoMemory wanted a = refl
files_refused_reading (TooManyTets tets) wanted a = absurd a
files_refused_reading (BadMesh file why) wanted a = refl
files_refused_reading (NotSound v) wanted a = absurd a

pub not_done : (wanted : Option Status) (status : Status) → AnswersAs wanted (Err status) → status ≢ Done
not_done wanted status a e = subst (λ (s : Status). AnswersAs wanted (Err s)) e a

-- how it ends for its input, of which nothing is told
pub audit_input : (status : Status) (wanted : Option Status) (P : Meaning → List ℕ → Type 0) (now : InputState) → AuditEnds status wanted → (status ≡ ReadFault → 0 < now.faults) → (status ≢ ReadFault → now.faults ≡ 0)
    → ((c : Meaning) (text : List ℕ) → P c text → ⊥) → InputEnds status P now
audit_input Done wanted P now is broke whole none = record { whole = record { faults = whole (λ e. cc); told = λ c text p. absurd (none c text p) }; comes = λ c text p. absurd (none c text p) }
audit_input (BadWords place) wanted P now is broke whole none = absurd is
audit_input (BadHeader fault) wanted P now is broke whole none = absurd is
audit_input (Unsupported key) wanted P now is broke whole none = absurd is
audit_input (TooLarge padded) wanted P now is broke whole none = absurd is
audit_input (Truncated got all) wanted P now is broke whole none = absurd is
audit_input ReadFault wanted P now is broke whole none = (broke refl, λ c text p. absurd (none c text p))
audit_input (WriteFault port) wanted P now is broke whole none = record { faults = whole (λ e. cc); told = λ c text p. absurd (none c text p) }
audit_input NoMemory wanted P now is broke whole none = record { faults = whole (λ e. cc); told = λ c text p. absurd (none c text p) }
audit_input (TooManyTets tets) wanted P now is broke whole none = absurd is
audit_input (BadMesh file why) wanted P now is broke whole none = record { faults = whole (λ e. cc); told = λ c text p. absurd (none c text p) }
audit_input (NotSound v) wanted P now is broke whole none = record { faults = whole (λ e. cc); told = λ c text p. absurd (none c text p) }

pub audit_words : (status : Status) (wanted : Option Status) (words : List (List ℕ)) (c : Meaning) → AuditEnds status wanted → Reads words c → WordsEnd status words
audit_words Done wanted words c is r = (c, r)
audit_words (BadWords place) wanted words c is r = absurd is
audit_words (BadHeader fault) wanted words c is r = absurd is
audit_words (Unsupported key) wanted words c is r = absurd is
audit_words (TooLarge padded) wanted words c is r = absurd is
audit_words (Truncated got all) wanted words c is r = absurd is
audit_words ReadFault wanted words c is r = (c, r)
audit_words (WriteFault port) wanted words c is r = (c, r)
audit_words NoMemory wanted words c is r = (c, r)
audit_words (TooManyTets tets) wanted words c is r = absurd is
audit_words (BadMesh file why) wanted words c is r = (c, r)
audit_words (NotSound v) wanted words c is r = (c, r)

-- what told files come to comes, where nothing fails and memory is there
pub audit_comes : (status s : Status) → AuditEnds status (Some s) → status ≢ ReadFault → ((p : Port) → status ≢ WriteFault p) → (status ≡ s) ⊎ (status ≡ NoMemory)
audit_comes Done s is read write = inl (sym is)
audit_comes (BadWords place) s is read write = absurd is
audit_comes (BadHeader fault) s is read write = absurd is
audit_comes (Unsupported key) s is read write = absurd is
audit_comes (TooLarge padded) s is read write = absurd is
audit_comes (Truncated got all) s is read write = absurd is
audit_comes ReadFault s is read write = absurd (read refl)
audit_comes (WriteFault port) s is read write = absurd (write port refl)
audit_comes NoMemory s is read write = inr refl
audit_comes (TooManyTets tets) s is read write = absurd is
audit_comes (BadMesh file why) s is read write = inl (sym is)
audit_comes (NotSound v) s is read write = inl (sym is)
