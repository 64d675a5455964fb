use Rattle.std.proofs.Common.{◌≡◌, ◌⊎◌, inl, length, sym, refl, subst}
use Rattle.definitions.specs.Mesh.{mesh}
use Rattle.definitions.specs.States.{IsShares}
use Rattle.formats.specs.declared.Status.TheVariants.{Done, NoMemory}
use Rattle.layer_cells.specs.Seats.{Subject}
use Rattle.slab_work.specs.Surveyed.{AreKept}
use Rattle.stuff.specs.Ends.{MeshEnds}
use Rattle.stuff.specs.Outputs.{mesh_name, mesh_status, mesh_text}
use Rattle.stuff.specs.Ports.{KeepsPorts, PortsEnd, mesh_files}
use Rattle.stuff.specs.Writing.{IsThis}
use Rattle.stuff.proofs.Counted.{no_memory_ends}
use Rattle.stuff.proofs.PortEnds.{no_memory_reading, untouched}
use Rattle.stuff.proofs.Traced.{kept, trace_of}
use Rattle.stuff.proofs.mesh.mesh_field.Goals as goal

pub write_survey-status-requires-clause-sizes : goal.write_survey-status-requires-clause-sizes
write_survey-status-requires-clause-sizes g c κs within = subst (λ (s : Subject). AreKept c.args.frame.step s.field.dims) (sym c.in-Ok.ensures.subject) c.requires.sizes

pub write_survey-status-requires-clause-limits : goal.write_survey-status-requires-clause-limits
write_survey-status-requires-clause-limits g c κs within = subst (λ (s : Subject). IsShares s.shares) (sym c.in-Ok.ensures.subject) c.survey_of.ensures.limits

pub returns-in-Ok-clause-kind : goal.returns-in-Ok-clause-kind
returns-in-Ok-clause-kind g c =
    subst (λ (s : Subject). MeshEnds (mesh_status c.args.faces (length (mesh s.field s.shares).tets)) c.write_survey-status.result) c.in-Ok.ensures.subject c.write_survey-status.ensures.kind

pub returns-in-Ok-clause-unused : goal.returns-in-Ok-clause-unused
returns-in-Ok-clause-unused g c =
    subst (λ (s : Subject). KeepsPorts (g.D.Desk.ports c.args.desk.now) (g.D.Desk.ports c.write_survey-status.new.desk) ⊎ (mesh_status c.args.faces (length (mesh s.field s.shares).tets) ≡ Done)) c.in-Ok.ensures.subject c.write_survey-status.ensures.unused

pub returns-in-Ok-clause-ends : goal.returns-in-Ok-clause-ends
returns-in-Ok-clause-ends g c =
    subst (λ (s : Subject). PortsEnd g.D.Desk.ports c.write_survey-status.result (mesh_files c.args.faces) (mesh_name c.args.output.now) (IsThis (mesh_text c.args.frame c.args.numbering s.field s.shares)) c.args.desk.now c.write_survey-status.new.desk) c.in-Ok.ensures.subject
    c.write_survey-status.ensures.ends

pub returns-in-Err-clause-kind : goal.returns-in-Err-clause-kind
returns-in-Err-clause-kind g c = no_memory_ends c.args.faces (length (mesh c.args.field.now c.args.shares).tets)

pub returns-in-Err-clause-unused : goal.returns-in-Err-clause-unused
returns-in-Err-clause-unused g c = inl (λ p t. refl)

pub returns-in-Err-clause-ends : goal.returns-in-Err-clause-ends
returns-in-Err-clause-ends g c =
    untouched g.D.Desk.ports NoMemory (mesh_files c.args.faces) (mesh_name c.args.output.now) (IsThis (mesh_text c.args.frame c.args.numbering c.args.field.now c.args.shares)) c.args.desk.now c.args.desk.now (no_memory_reading (mesh_files c.args.faces)) (λ p t. refl)
    c.requires.faults

pub returns-in-Ok-clause-trace : goal.returns-in-Ok-clause-trace
returns-in-Ok-clause-trace g c =
    kept c.write_survey-status.result c.args.field.now c.args.shares c.args.plan.slab c.into_trace.result c.keep_trace.new.trace
    (trace_of c.args.field.now c.args.shares c.args.plan.slab c.in-Ok.survey c.into_trace.result c.into_trace.ensures.trace c.in-Ok.ensures.subject c.in-Ok.ensures.layout c.in-Ok.ensures.survey) c.keep_trace.ensures
