use Rattle.mesh_files.specs.Files.{tets_of}
use Rattle.file_audit.proofs.Opened.{told_left, file_said, file_took}
use Rattle.file_audit.proofs.opening.tets_under.Goals as goal
use Rattle.mesh_read.proofs.Readings.{long_tets}

pub returns-in-Ok-clause-says : goal.returns-in-Ok-clause-says
returns-in-Ok-clause-says g c = λ text e.
    file_said (λ t. t) (tets_of c.args.nodes.now text) c.read_tets.result text _ (c.read_tets.ensures.told text (told_left (g.D.Desk.held c.args.desk.now c.args.name.now) _ text e c.in-Ok.ensures.told))

pub returns-in-Ok-clause-taken : goal.returns-in-Ok-clause-taken
returns-in-Ok-clause-taken g c = λ text e.
    file_took (λ t. t) (tets_of c.args.nodes.now text) c.read_tets.result text _ _ (long_tets c.args.nodes.now text) (c.read_tets.ensures.told text (told_left (g.D.Desk.held c.args.desk.now c.args.name.now) _ text e c.in-Ok.ensures.told))
