use Rattle.mesh_probe.proofs.TetsOfVertex.{held_near_lowest}
use Rattle.mesh_probe.proofs.held_points_are_near.Goals as goal

pub returns : goal.returns
returns c = λ f s is v k keys p m h. held_near_lowest f s is v k keys p m h
