use Rattle.place_laws.proofs.NodePlaces.{nodes_stand_inside}
use Rattle.place_laws.proofs.nodes_stand_inside.Goals as goal

pub returns : goal.returns
returns c = nodes_stand_inside
