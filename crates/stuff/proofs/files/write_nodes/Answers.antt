use Rattle.std.proofs.Common.{ℕ, List, subst}
use Rattle.formats.specs.declared.Port.TheVariants.{Node}
use Rattle.stuff.specs.Writing.{Puts}
use Rattle.stuff.proofs.Surveys.{has_put, mesh_printable, node_text_is}
use Rattle.stuff.proofs.files.write_nodes.Goals as goal

pub put_nodes-put-requires-clause-printable : goal.put_nodes-put-requires-clause-printable
put_nodes-put-requires-clause-printable g c κs within = mesh_printable c.args.survey.now c.source_of-source.result c.source_of-source.ensures c.args.frame c.requires.frame c.requires.sizes

pub returns-clause-puts : goal.returns-clause-puts
returns-clause-puts g c =
    subst (λ (t : List ℕ). Puts c.finished.result Node (g.D.Desk.ports c.args.desk.now Node) (g.D.Desk.ports c.finished.new.desk Node) t) (node_text_is c.args.survey.now c.source_of-source.result c.source_of-source.ensures c.args.frame c.args.numbering)
    (c.finished.ensures.puts (g.D.Desk.ports c.args.desk.now Node) _
    (has_put g.D.Desk Node c.args.desk.now c.put_nodes-put.new.desk _ c.put_nodes-put.result c.put_nodes-put.ensures c.requires.faults))
