-- What is taken from a desk is what was written to it.
use Rattle.std.proofs.Common.{Bool, true, false, ◌≡◌, ◌≢◌, ℕ, List, [], ◌∷◌, ◌++◌, Option, Some, None, refl, ap, ◌∙◌, map}
use Rattle.definitions.specs.Values.{Field}
use Rattle.formats.specs.declared.Port.{Port}
use Rattle.formats.specs.declared.Port.TheVariants.{Node, Ele, Report, Trouble, Face, Neigh}
use Rattle.formats.specs.declared.Status.{Status}
use Rattle.formats.specs.declared.Status.TheVariants.{Done, BadWords, BadHeader, Unsupported, TooLarge, Truncated, ReadFault, WriteFault, NoMemory, TooManyTets, BadMesh, NotSound}
use Rattle.formats.specs.Volumes.{Volume}
use Rattle.command_line.specs.Grammar.{Command, CountSigns, MakeMesh, MakeDemo, AuditFiles, ProbePoint, StreamMesh}
use Rattle.std.specs.Prelude.{slice_index_or, IfSome}
use Rattle.std.specs.Io.KnownBytes.{Appends}
use Rattle.file_audit.specs.Status.{AreRead}
use Rattle.mesh_audit.specs.FitTogether.{FitTogether}
use Rattle.mesh_files.specs.Files.{Nodes}
use Rattle.mesh_files.specs.Verdicts.{verdict}
use Rattle.st_base.specs.Desk.{IsFile, IsStart}
use Rattle.desk_mem.specs.declared.mem.MemDesk.{MemDesk}
use Rattle.desk_mem.specs.Meanings.{mem_input, mem_ports, mem_state, mem_tried, port_part}
use Rattle.stuff.specs.Outputs.{all_names, axes_for, file_name, files_of, nodes_told, tets_told, text_of, verdict_line, AreJoinedFor, IsBoundedFor, IsSoundFor, IsTextFor}
use Rattle.stuff.specs.Ports.{FileAt, HasWritten, HoldsAll, Whole, among, mesh_files}
use Rattle.stuff.specs.Traces.{IsFieldFor}
use Rattle.file_audit.specs.Status.{with_names}
use Rattle.meshed.specs.declared.answer.Answer.{Answer}
use Rattle.meshed.specs.Answers.{Judges, Makes}
use Rattle.meshed.specs.Files.{files_made, files_tried}
use Rattle.meshed.specs.Taken.{HasDone, IsTaken}

after_nothing : (a b text : List ℕ) → a ≡ [] → b ≡ a ++ text → b ≡ text
after_nothing a b text e h = h ∙ ap (λ (x : List ℕ). x ++ text) e

-- a port on which nothing stands, and one to which a text was written
empty_at : (desk : MemDesk) (p : Port) → IfSome (mem_ports desk p).text (λ text. text ≡ []) → (port_part desk p).text.items ≡ []
empty_at desk Node h = h
empty_at desk Ele h = h
empty_at desk Report h = h
empty_at desk Trouble h = h
empty_at desk Face h = h
empty_at desk Neigh h = h

grown_at : (old new : MemDesk) (p : Port) (text : List ℕ) → Appends (mem_ports old p).text (mem_ports new p).text text → (port_part new p).text.items ≡ (port_part old p).text.items ++ text
grown_at old new Node text h = h
grown_at old new Ele text h = h
grown_at old new Report text h = h
grown_at old new Trouble text h = h
grown_at old new Face text h = h
grown_at old new Neigh text h = h

module _ (words : List (List ℕ)) (held : List ℕ → Option (List ℕ)) (c : Command) (old new : MemDesk) (start : IsStart (mem_input old) (mem_ports old) (mem_tried old)) where
  told_at : Port → List ℕ
  told_at p = (port_part new p).text.items

  port_is : (text : Port → List ℕ) → ((p : Port) → IsTextFor held words c p (text p)) → (p : Port) (name : List ℕ) → HoldsAll mem_ports p name (IsTextFor held words c p) new → (port_part new p).text.items ≡ text p
  port_is text is p name h = after_nothing (port_part h.opened p).text.items (port_part new p).text.items (text p) (empty_at h.opened p h.begins.1.text) (grown_at h.opened new p (text p) (h.all (text p) (is p)))

  -- the files of a mesh
  made : (text : Port → List ℕ) → ((p : Port) → IsTextFor held words c p (text p)) → (b : Bool) (name : Port → List ℕ) → ((p : Port) → IsFile p → FileAt mem_ports p (among (mesh_files b) (λ q. Whole) p) (name p) (IsTextFor held words c p) old new) → (input : List ℕ)
      → files_tried (input ∷ map name (mesh_files b)) (λ p. (port_part new p).text.items) ≡ map (λ p. record { name = name p; bytes = text p }) (mesh_files b)
  made text is false name w input = λ i. record { name = name Node; bytes = port_is text is Node (name Node) (w Node tt) i } ∷ record { name = name Ele; bytes = port_is text is Ele (name Ele) (w Ele tt) i } ∷ []
  made text is true name w input = λ i. record { name = name Node; bytes = port_is text is Node (name Node) (w Node tt) i } ∷ record { name = name Ele; bytes = port_is text is Ele (name Ele) (w Ele tt) i } ∷ record { name = name Face; bytes = port_is text is Face (name Face) (w Face tt) i } ∷ record { name = name Neigh; bytes = port_is text is Neigh (name Neigh) (w Neigh tt) i } ∷ []

  pub report_is : (text : List ℕ) → IsTextFor held words c Report text → HasWritten mem_ports (files_of c) (file_name words c) (IsTextFor held words c) old new → (port_part new Report).text.items ≡ text
  report_is text is w = after_nothing (port_part old Report).text.items (port_part new Report).text.items text start.report.text (w.report text is)

  names_are : mem_tried new ≡ with_names (mem_tried old) (all_names words c) → (mem_state new).tried ≡ all_names words c
  names_are e = tried_is ∙ ap (λ (x : List (List ℕ)). x ++ all_names words c) start.none_tried
    where
      tried_is : (mem_state new).tried ≡ (mem_state old).tried ++ all_names words c
      tried_is = cc

  tried_files : mem_tried new ≡ with_names (mem_tried old) (all_names words c) → files_tried (mem_state new).tried (λ p. (port_part new p).text.items) ≡ files_tried (all_names words c) (λ p. (port_part new p).text.items)
  tried_files e = ap (λ (x : List (List ℕ)). files_tried x (λ p. (port_part new p).text.items)) (names_are e)

no_volume : (v : Volume) → None ≡ Some v → ⊥
no_volume v e = cc

-- the text of a command is that of its field; an audit is of none
text_of_field : (words : List (List ℕ)) (held : List ℕ → Option (List ℕ)) (c : Command) (f : Field) → IsFieldFor held words c f → (p : Port) → IsTextFor held words c p (text_of c (axes_for held words c) f p)
text_of_field words held (CountSigns input level below step) f field p = record { volume = field.volume; volume_is = field.volume_is; text_is = ap (λ (x : Field). text_of (CountSigns input level below step) (axes_for held words (CountSigns input level below step)) x p) field.field_is }
text_of_field words held (MakeMesh m) f field p = record { volume = field.volume; volume_is = field.volume_is; text_is = ap (λ (x : Field). text_of (MakeMesh m) (axes_for held words (MakeMesh m)) x p) field.field_is }
text_of_field words held (MakeDemo size seed plan) f field p = record { volume = field.volume; volume_is = field.volume_is; text_is = ap (λ (x : Field). text_of (MakeDemo size seed plan) (axes_for held words (MakeDemo size seed plan)) x p) field.field_is }
text_of_field words held (AuditFiles input) f field p = absurd (no_volume field.volume field.volume_is)
text_of_field words held (ProbePoint input level below step shares point) f field p = record { volume = field.volume; volume_is = field.volume_is; text_is = ap (λ (x : Field). text_of (ProbePoint input level below step shares point) (axes_for held words (ProbePoint input level below step shares point)) x p) field.field_is }
text_of_field words held (StreamMesh m) f field p = record { volume = field.volume; volume_is = field.volume_is; text_is = ap (λ (x : Field). text_of (StreamMesh m) (axes_for held words (StreamMesh m)) x p) field.field_is }

pub files_are : (words : List (List ℕ)) (held : List ℕ → Option (List ℕ)) (c : Command) (f : Field) (old new : MemDesk) → IsStart (mem_input old) (mem_ports old) (mem_tried old) → ((p : Port) → IsTextFor held words c p (text_of c (axes_for held words c) f p))
    → HasWritten mem_ports (files_of c) (file_name words c) (IsTextFor held words c) old new → files_tried (all_names words c) (λ p. (port_part new p).text.items) ≡ files_made words c (axes_for held words c) f
files_are words held (CountSigns input level below step) f old new start is w = refl
files_are words held (MakeMesh m) f old new start is w = made words held (MakeMesh m) old new start (text_of (MakeMesh m) (axes_for held words (MakeMesh m)) f) is m.faces (file_name words (MakeMesh m)) w.file (slice_index_or words m.input [])
files_are words held (MakeDemo size seed plan) f old new start is w = refl
files_are words held (AuditFiles input) f old new start is w = refl
files_are words held (ProbePoint input level below step shares point) f old new start is w = refl
files_are words held (StreamMesh m) f old new start is w = made words held (StreamMesh m) old new start (text_of (StreamMesh m) (axes_for held words (StreamMesh m)) f) is m.faces (file_name words (StreamMesh m)) w.file (slice_index_or words m.input [])

pub makes : (words : List (List ℕ)) (held : List ℕ → Option (List ℕ)) (c : Command) (f : Field) (old new : MemDesk) (answer : Answer) → IsStart (mem_input old) (mem_ports old) (mem_tried old) → IsFieldFor held words c f
    → HasWritten mem_ports (files_of c) (file_name words c) (IsTextFor held words c) old new → mem_tried new ≡ with_names (mem_tried old) (all_names words c) → HasDone new answer → IsSoundFor c f → IsBoundedFor c f → AreJoinedFor c f → Makes held words c f answer
makes words held c f old new answer start field w tried h sound bounded joined =
    let is = text_of_field words held c f field in
    record {
      files = h.files ∙ tried_files words held c old new start tried ∙ files_are words held c f old new start is w;
      report = h.report ∙ report_is words held c old new start (text_of c (axes_for held words c) f Report) (is Report) w;
      sound = sound;
      bounded = bounded;
      joined = joined;
    }

pub judges : (words : List (List ℕ)) (held : List ℕ → Option (List ℕ)) (input : ℕ) (nodes : Nodes) (tets : List (List ℕ)) (old new : MemDesk) (answer : Answer) → IsStart (mem_input old) (mem_ports old) (mem_tried old)
    → HasWritten mem_ports [] (file_name words (AuditFiles input)) (IsTextFor held words (AuditFiles input)) old new → HasDone new answer → AreRead (nodes_told held words input) (tets_told held words input) nodes tets → FitTogether nodes.places tets → Judges nodes tets answer
judges words held input nodes tets old new answer start w h are fit = record {
  fit = fit;
  report = h.report ∙ report_is words held (AuditFiles input) old new start (verdict_line (verdict nodes tets) Report) (record { nodes = nodes; tets = tets; are_read = are; text_is = refl }) w;
}

-- where a command is not done, nothing is made
pub nothing_made : (status : Status) (desk : MemDesk) (answer : Answer) → IsTaken status desk answer → answer.status ≢ Done → (answer.files.items ≡ []) × (answer.report.items ≡ [])
nothing_made Done desk answer h ne = absurd (ne h.status)
nothing_made (BadWords place) desk answer h ne = (h.files, h.report)
nothing_made (BadHeader fault) desk answer h ne = (h.files, h.report)
nothing_made (Unsupported key) desk answer h ne = (h.files, h.report)
nothing_made (TooLarge padded) desk answer h ne = (h.files, h.report)
nothing_made (Truncated got wanted) desk answer h ne = (h.files, h.report)
nothing_made ReadFault desk answer h ne = (h.files, h.report)
nothing_made (WriteFault port) desk answer h ne = (h.files, h.report)
nothing_made NoMemory desk answer h ne = (h.files, h.report)
nothing_made (TooManyTets tets) desk answer h ne = (h.files, h.report)
nothing_made (BadMesh file why) desk answer h ne = (h.files, h.report)
nothing_made (NotSound verdict) desk answer h ne = (h.files, h.report)

-- what is told is what stands on Trouble
pub told_is : (status : Status) (desk : MemDesk) (answer : Answer) → IsTaken status desk answer → answer.trouble.items ≡ (port_part desk Trouble).text.items
told_is Done desk answer h = h.trouble
told_is (BadWords place) desk answer h = h.trouble
told_is (BadHeader fault) desk answer h = h.trouble
told_is (Unsupported key) desk answer h = h.trouble
told_is (TooLarge padded) desk answer h = h.trouble
told_is (Truncated got wanted) desk answer h = h.trouble
told_is ReadFault desk answer h = h.trouble
told_is (WriteFault port) desk answer h = h.trouble
told_is NoMemory desk answer h = h.trouble
told_is (TooManyTets tets) desk answer h = h.trouble
told_is (BadMesh file why) desk answer h = h.trouble
told_is (NotSound verdict) desk answer h = h.trouble

pub line_is : (old new : MemDesk) (line : List ℕ) → IsStart (mem_input old) (mem_ports old) (mem_tried old) → (port_part new Trouble).text.items ≡ (port_part old Trouble).text.items ++ line → (port_part new Trouble).text.items ≡ line
line_is old new line start h = after_nothing (port_part old Trouble).text.items (port_part new Trouble).text.items line start.trouble.text h
