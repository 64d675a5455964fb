use Rattle.mesh_lists.proofs.Numberings.{vertex_within}
use Rattle.mesh_lists.proofs.whole.whole_at.Goals as goal

pub have_sign-requires-clause-own : goal.have_sign-requires-clause-own
have_sign-requires-clause-own c = vertex_within c.args.states.now.dims c.args.v c.args.id c.requires.domain c.requires.id
