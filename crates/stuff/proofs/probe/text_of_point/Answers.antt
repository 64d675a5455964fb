use Rattle.stuff.proofs.Traced.{trace_of}
use Rattle.stuff.proofs.probe.text_of_point.Goals as goal

pub returns-clause-trace : goal.returns-clause-trace
returns-clause-trace g c =
    trace_of c.args.field.now c.args.shares 4 c.in_ok-survey.survey c.into_trace.result c.into_trace.ensures.trace c.in_ok-survey.ensures.subject c.in_ok-survey.ensures.layout c.in_ok-survey.ensures.survey
