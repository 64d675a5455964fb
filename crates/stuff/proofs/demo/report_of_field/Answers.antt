use Rattle.std.proofs.Common.{◌∙◌, ap}
use Rattle.definitions.specs.Mesh.{mesh}
use Rattle.definitions.specs.States.{Shares}
use Rattle.layer_cells.specs.Seats.{Subject}
use Rattle.mesh_texts.specs.Report.{report}
use Rattle.stuff.specs.Outputs.{usual_shares}
use Rattle.stuff.proofs.Traced.{trace_of}
use Rattle.stuff.proofs.demo.report_of_field.Goals as goal

pub returns-clause-text : goal.returns-clause-text
returns-clause-text g c =
    c.in_ok-text.ensures ∙ ap (λ (s : Subject). report 0 (mesh s.field s.shares)) c.in_ok-survey.ensures.subject ∙ ap (λ (s : Shares). report 0 (mesh c.args.field.now s)) c.in-Some.ensures.shares

pub returns-clause-trace : goal.returns-clause-trace
returns-clause-trace g c =
    trace_of c.args.field.now usual_shares c.args.plan.slab c.in_ok-survey.survey c.into_trace.result c.into_trace.ensures.trace (c.in_ok-survey.ensures.subject ∙ (λ i. record { field = c.args.field.now; shares = c.in-Some.ensures.shares i })) c.in_ok-survey.ensures.layout c.in_ok-survey.ensures.survey
