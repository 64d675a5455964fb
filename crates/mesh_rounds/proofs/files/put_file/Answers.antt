use Rattle.mesh_rounds.proofs.Turns.{puts_front, puts_then, whole_file}
use Rattle.mesh_rounds.proofs.files.put_file.Goals as goal

pub returns-in-Err-clause-puts : goal.returns-in-Err-clause-puts
returns-in-Err-clause-puts g c = puts_front _ _ _ _ _ _ _ _ (whole_file c.args.lines c.args.source.now) c.in-Err.ensures

pub returns-clause-puts : goal.returns-clause-puts
returns-clause-puts g c = puts_then _ _ _ _ _ _ _ _ _ _ (whole_file c.args.lines c.args.source.now) c.in-Ok.ensures c.put_lines.ensures.puts
