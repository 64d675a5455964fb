use Rattle.std.proofs.Common.{◌≡◌, ◌∙◌}
use Rattle.mesh_audit.specs.FitTogether.{FitTogether, IsSoundVerdict}
use Rattle.mesh_files.specs.Verdicts.{verdict}
use Rattle.mesh_audit.proofs.SoundTets.{sound_fits, if_ok_weaker}
use Rattle.mesh_audit.proofs.judging.audit.Goals as goal

pub returns-clause-sound : goal.returns-clause-sound
returns-clause-sound c =
    if_ok_weaker c.judge.result (λ v. v ≡ verdict (record { first = c.first.result; places = c.places.result.now }) c.tets.result.now) (λ v. IsSoundVerdict v → FitTogether c.args.nodes.now.places c.args.tets.now)
    (λ v e h. sound_fits c.args.nodes.now c.args.tets.now v c.places.ensures.nodes.few c.tets.ensures.tets c.requires
    (e ∙ (λ i. verdict (record { first = c.first.ensures.value i; places = c.places.ensures.value i }) (c.tets.ensures.value i))) h)
    c.judge.ensures
