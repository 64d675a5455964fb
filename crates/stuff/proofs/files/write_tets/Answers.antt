use Rattle.std.proofs.Common.{ℕ, List, ap, subst}
use Rattle.definitions.specs.Angles.{angles, extremes_of}
use Rattle.definitions.specs.Mesh.{Mesh}
use Rattle.formats.specs.declared.Port.TheVariants.{Ele}
use Rattle.mesh_texts.specs.Files.{ele_text}
use Rattle.stuff.specs.Writing.{Puts}
use Rattle.stuff.proofs.Surveys.{extremes_told, has_put, mesh_is}
use Rattle.stuff.proofs.files.write_tets.Goals as goal

pub returns-clause-puts : goal.returns-clause-puts
returns-clause-puts g c =
    subst (λ (t : List ℕ). Puts c.finished.result Ele (g.D.Desk.ports c.args.desk.now Ele) (g.D.Desk.ports c.finished.new.desk Ele) t) (ap (λ (m : Mesh). ele_text c.args.numbering m.tets) (mesh_is c.args.survey.now c.source_of-source.result c.source_of-source.ensures))
    (c.finished.ensures.puts (g.D.Desk.ports c.args.desk.now Ele) _
    (has_put g.D.Desk Ele c.args.desk.now c.put_tets-put.new.desk _ c.put_tets-put.result c.put_tets-put.ensures.puts c.requires.faults))

pub returns-clause-extremes : goal.returns-clause-extremes
returns-clause-extremes g c =
    extremes_told c.put_tets-put.result c.finished.result _ _ c.put_tets-put.ensures.extremes c.finished.ensures.value
    (ap (λ (m : Mesh). extremes_of (angles m)) (mesh_is c.args.survey.now c.source_of-source.result c.source_of-source.ensures))
