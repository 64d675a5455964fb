use Rattle.sound_laws.proofs.Sound as law
use Rattle.conform_laws.proofs.mesh_is_sound.Goals as goal

pub returns : goal.returns
returns c = law.mesh_is_sound c.args.field.now c.args.shares (search (c.well_formed))
