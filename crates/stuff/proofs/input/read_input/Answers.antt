use Rattle.stuff.proofs.ToldInputs.{head_refused, volume_read, volume_refused}
use Rattle.stuff.proofs.KeptSizes.{kept_within}
use Rattle.stuff.proofs.input.read_input.Goals as goal

pub returns-in-Err-clause-told : goal.returns-in-Err-clause-told
returns-in-Err-clause-told g c = λ text e. rw c.header_status.ensures (head_refused c.in-Err.fault c.args.world c.args.step text _ (c.in-Err.ensures.told text e))

pub returns-in-Ok-read_volume-clause-told : goal.returns-in-Ok-read_volume-clause-told
returns-in-Ok-read_volume-clause-told g c = λ text e.
    let a = c.in-Ok.ensures.told text e in
    volume_read c.args.world c.args.step text c.second.result c.in-Ok.head a.0 c.in-Ok-read_volume.volume _ c.second.ensures a.2 a.1 a.4.within (c.in-Ok-read_volume.ensures.told text a.0.len a.4.left_is)

pub returns-in-Err-read_volume-clause-told : goal.returns-in-Err-read_volume-clause-told
returns-in-Err-read_volume-clause-told g c = λ text e.
    let a = c.in-Ok.ensures.told text e in
    rw c.volume_status.ensures
    (volume_refused c.args.world c.args.step text c.second.result c.in-Ok.head a.0 c.in-Err-read_volume.fault _ c.second.ensures a.2 a.1 a.4.within c.in-Err-read_volume.ensures.follows (c.in-Err-read_volume.ensures.told text a.0.len a.4.left_is))

pub returns-in-Ok-read_volume-clause-sizes : goal.returns-in-Ok-read_volume-clause-sizes
returns-in-Ok-read_volume-clause-sizes g c =
    kept_within c.args.step c.second.result c.in-Ok.head c.in-Ok-read_volume.volume.dims c.requires.step_bound c.second.ensures c.in-Ok.ensures.sizes c.in-Ok-read_volume.ensures.follows.0 c.in-Ok-read_volume.ensures.follows.1
