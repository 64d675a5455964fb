use Rattle.mesh_probe.proofs.HeldOnce as law
use Rattle.mesh_probe.proofs.inner_points_are_held_once.Goals as goal

pub returns : goal.returns
returns c = law.inner_points_are_held_once
