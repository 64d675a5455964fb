-- What a survey knows of the mesh of its field.
use Rattle.std.proofs.Common.{◌≡◌, ℕ, List, Option, All, refl, sym, subst, ap, ◌∙◌, arith}
use Rattle.std.specs.Prelude.{Result, Ok, Err, IfOk}
use Rattle.formats.specs.declared.Status.{Status}
use Rattle.st_base.specs.declared.desk.Desk.{Ghosts}
use Rattle.formats.specs.declared.Port.{Port}
use Rattle.mesh_rounds.specs.Puts.{PutsText}
use Rattle.node_ele_write.specs.declared.PutFault.{PutFault}
use Rattle.node_ele_write.specs.declared.PutFault.TheVariants as fault
use Rattle.stuff.specs.Writing.{HasPut}
use Rattle.definitions.specs.declared.Extremes.{Extremes}
use Rattle.std.specs.Prelude.{IfSome, Some, None, unwrap_or}
use Rattle.command_line.specs.declared.Plan.{Plan}
use Rattle.definitions.specs.Mesh.{Mesh, mesh}
use Rattle.formats.specs.declared.Frame.{Frame}
use Rattle.formats.specs.Frames.{IsFrame}
use Rattle.command_line.specs.Grammar.{IsPlan}
use Rattle.command_words.specs.declared.Command.{Command}
use Rattle.command_words.specs.Commands.{plan_of, plan_with}
use Rattle.mesh_texts.specs.Files.{node_text}
use Rattle.mesh_texts.specs.Nodes.{nodes_of, mesh_nodes}
use Rattle.node_ele_write.specs.Printable.{IsPrintable}
use Rattle.place_laws.proofs.NodePlaces.{nodes_stand_inside}
use Rattle.mesh_lists.specs.Parts.{mesh_of}
use Rattle.mesh_lists.proofs.Meshes.{mesh_by_states}
use Rattle.slab_emit.specs.Sources.{SourceValue}
use Rattle.slab_work.specs.Surveyed.{AreKept, surveyed}
use Rattle.survey.specs.Surveys.{SurveyValue}
use Rattle.slab_work.proofs.Printing.{printable}

-- a text that was put to a port, or not all of it
pub has_put : {S T : Type 0} (desk : Ghosts S) (port : Port) (old new : S) (text : List ℕ) (put : Result T PutFault) → PutsText desk port old new text put → (desk.ports old port).faults ≡ 0 → HasPut put (desk.ports old port) (desk.ports new port) text
has_put desk port old new text (Ok x) p clean = (p.all, p.name, p.none (λ e. cc) ∙ clean)
has_put desk port old new text (Err fault.WriteFault) p clean = (p.part, p.name, let r = p.fault refl in omega (arith, clean, r))
has_put desk port old new text (Err fault.NoMemory) p clean = (p.part, p.name, p.none (λ e. cc) ∙ clean)

-- what was put is told
pub extremes_told : (put : Result (Option Extremes) PutFault) (result : Result (Option Extremes) Status) (m n : Option Extremes) → IfOk put (λ e. e ≡ m) → IfOk result (λ x. put ≡ Ok x) → m ≡ n → IfOk result (λ e. e ≡ n)
extremes_told put (Ok x) m n h e same = (subst (λ (r : Result (Option Extremes) PutFault). IfOk r (λ y. y ≡ m)) e h) ∙ same
extremes_told put (Err status) m n h e same = tt

module _ (v : SurveyValue) (source : SourceValue) (e : source ≡ surveyed v) where
  -- its mesh, as that of a source
  pub mesh_is : mesh_of source.field source.states ≡ mesh v.subject.field v.subject.shares
  mesh_is = ap (λ (x : SourceValue). mesh_of x.field x.states) e ∙ mesh_by_states v.subject.field v.subject.shares

  -- the nodes of the mesh can be printed
  pub mesh_printable : (frame : Frame) → IsFrame frame → AreKept frame.step v.subject.field.dims → All (IsPrintable frame) (mesh_of source.field source.states).places
  mesh_printable frame is kept =
      subst (λ (m : Mesh). All (IsPrintable frame) m.places) (sym mesh_is)
      (λ k p lt. printable frame v.subject.field.dims _ is kept (nodes_stand_inside v.subject.field v.subject.shares k p lt))

  -- the text of the nodes
  pub node_text_is : (frame : Frame) (first : ℕ) → node_text frame first (nodes_of source.field source.states) ≡ node_text frame first (mesh_nodes v.subject.field v.subject.shares)
  node_text_is frame first = ap (λ (x : SourceValue). node_text frame first (nodes_of x.field x.states)) e

-- the plan of a command keeps its limits
plan_or : (plan : Option Plan) → IfSome plan IsPlan → IsPlan (unwrap_or plan (record { workers = 4; slab = 4 }))
plan_or (Some plan) h = h
plan_or None h = record { some_workers = omega arith; most_workers = omega arith; some_slab = omega arith; most_slab = omega arith }

pub plan_kept : (c : Command) → IfSome (plan_of c) IsPlan → IsPlan (plan_with c)
plan_kept c h = plan_or (plan_of c) h
