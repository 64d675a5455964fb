use Rattle.std.proofs.Common.{subst}
use Rattle.mesh_lists.specs.Made.{IsMade}
use Rattle.mesh_lists.proofs.Meshes.{made_near, made_positive}
use Rattle.mesh_lists.proofs.mesh.Mesh.tets.Goals as goal

pub returns-clause-placed : goal.returns-clause-placed
returns-clause-placed c = made_near c.args.self.now (subst IsMade c.self.view_is c.self.invariant)

pub returns-clause-positive : goal.returns-clause-positive
returns-clause-positive c = made_positive c.args.self.now (subst IsMade c.self.view_is c.self.invariant)
