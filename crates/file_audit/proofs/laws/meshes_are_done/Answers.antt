use Rattle.file_audit.proofs.MeshesDone as law
use Rattle.file_audit.proofs.laws.meshes_are_done.Goals as goal

pub returns : goal.returns
returns c = law.meshes_are_done
