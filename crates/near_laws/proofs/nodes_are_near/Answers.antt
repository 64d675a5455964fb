use Rattle.near_laws.proofs.NearNodes.{nodes_are_near}
use Rattle.near_laws.proofs.nodes_are_near.Goals as goal

pub returns : goal.returns
returns c = nodes_are_near
