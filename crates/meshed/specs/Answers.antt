-- What is answered to words and files.
use Rattle.std.specs.Prelude.{◌≡◌, ◌≤◌, ◌⊎◌, ℕ, List, Option, Some, length, map, ⊤}
use Rattle.definitions.specs.Values.{Field}
use Rattle.formats.specs.declared.Port.TheVariants.{Report}
use Rattle.formats.specs.declared.Status.{Status}
use Rattle.formats.specs.declared.Status.TheVariants.{Done, ReadFault, WriteFault, NoMemory}
use Rattle.command_line.specs.Grammar.{Command, Meshing}
use Rattle.file_audit.specs.Status.{audit_status}
use Rattle.mesh_audit.specs.FitTogether.{FitTogether}
use Rattle.mesh_files.specs.Files.{Nodes}
use Rattle.mesh_files.specs.Lines.{text_limit}
use Rattle.mesh_files.specs.Verdicts.{verdict}
use Rattle.stuff.specs.Outputs.{axes_for, nodes_told, tets_told, text_of, verdict_line, AreJoinedFor, IsBoundedFor, IsSoundFor}
use Rattle.meshed.specs.declared.answer.Answer.{Answer}
use Rattle.meshed.specs.declared.answer.File.{File}
use Rattle.meshed.specs.Files.{files_made, held_in, named}

-- the statuses that want of memory brings; of an input that is not among the files ReadFault comes too
abbrev pub LacksMemory : Status → Type 0
LacksMemory NoMemory = ⊤
LacksMemory ReadFault = ⊤
LacksMemory (WriteFault port) = ⊤
LacksMemory status = ⊥

-- a status comes, unless memory is wanting
abbrev pub Comes : Status → Status → Type 0
Comes status wanted = (status ≡ wanted) ⊎ LacksMemory status

-- A command was carried out on a field: its files and its report, byte for byte; the mesh of these is sound, the angles that are told bound all of its angles, and its neighbours are mutual and missing exactly across boundary triangles.
pub record Makes (held : List ℕ → Option (List ℕ)) (words : List (List ℕ)) (c : Command) (f : Field) (answer : Answer) : Type 0 where
  pub files : map named answer.files.items ≡ files_made words c (axes_for held words c) f
  pub report : answer.report.items ≡ text_of c (axes_for held words c) f Report
  pub sound : IsSoundFor c f
  pub bounded : IsBoundedFor c f
  pub joined : AreJoinedFor c f

-- Finished files were judged: their tetrahedra fit together, and the report tells of them.
pub record Judges (nodes : Nodes) (tets : List (List ℕ)) (answer : Answer) : Type 0 where
  pub fit : FitTogether nodes.places tets
  pub report : answer.report.items ≡ verdict_line (verdict nodes tets) Report

-- each text that the files hold is no longer than that of a finished file may be
abbrev pub AreShort : List File → Type 0
AreShort files = (name text : List ℕ) → held_in files name ≡ Some text → length text ≤ text_limit

-- The files of a mesh, audited under the name of its output, come to Done.
abbrev pub AuditsAsSound : List (List ℕ) → Meshing → List File → Type 0
AuditsAsSound words m files = audit_status (nodes_told (held_in files) words m.output) (tets_told (held_in files) words m.output) ≡ Some Done
