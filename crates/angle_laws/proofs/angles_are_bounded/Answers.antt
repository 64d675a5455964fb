use Rattle.angle_laws.proofs.MeshBounds.{angles_are_bounded}
use Rattle.angle_laws.proofs.angles_are_bounded.Goals as goal

pub returns : goal.returns
returns c = angles_are_bounded
