use Rattle.mesh_files.specs.Files.{nodes_of}
use Rattle.file_audit.proofs.Opened.{told_left, file_said, file_took}
use Rattle.file_audit.proofs.opening.nodes_under.Goals as goal
use Rattle.mesh_read.proofs.Readings.{long_nodes}

pub returns-in-Ok-clause-says : goal.returns-in-Ok-clause-says
returns-in-Ok-clause-says g c = λ text e.
    file_said (λ n. n) (nodes_of text) c.read_nodes.result text _ (c.read_nodes.ensures.told text (told_left (g.D.Desk.held c.args.desk.now c.args.name.now) _ text e c.in-Ok.ensures.told))

pub returns-in-Ok-clause-taken : goal.returns-in-Ok-clause-taken
returns-in-Ok-clause-taken g c = λ text e.
    file_took (λ n. n) (nodes_of text) c.read_nodes.result text _ _ (long_nodes text) (c.read_nodes.ensures.told text (told_left (g.D.Desk.held c.args.desk.now c.args.name.now) _ text e c.in-Ok.ensures.told))
