use Rattle.std.proofs.Common.{◌+◌, length, ◌∙◌, sym}
use Rattle.definitions.specs.Soundness.{boundary}
use Rattle.formats.specs.declared.Verdict.TheVariants.{NotPositive, Crowded, Turned, Sound}
use Rattle.mesh_files.specs.Verdicts.{verdict, found_or, is_crowded, is_turned}
use Rattle.mesh_audit.proofs.Judgements.{plain_from_none, same_verdict}
use Rattle.std.specs.List.{position}
use Rattle.mesh_audit.proofs.judging.judge.Goals as goal

pub returns-in-Some : goal.returns-in-Some
unfolding verdict
returns-in-Some c = λ i. found_or (c.in-Some.ensures.value i) (λ n. NotPositive (c.args.first + n))
    (found_or (position (is_crowded c.args.tets.now) c.args.tets.now) (λ n. Crowded (c.args.first + n))
    (found_or (position (is_turned c.args.tets.now) c.args.tets.now) (λ n. Turned (c.args.first + n))
    (Sound (length c.args.places.now) (length c.args.tets.now) (length (boundary c.args.tets.now)))))

pub fit-requires-clause-plain : goal.fit-requires-clause-plain
fit-requires-clause-plain c = plain_from_none c.args.places.now c.args.tets.now c.requires.nodes.few c.requires.tets c.requires.of_nodes (sym c.in-None.ensures.value)

pub returns-in_ok-found-in-None : goal.returns-in_ok-found-in-None
unfolding verdict
returns-in_ok-found-in-None c =
    c.verdict_on.ensures
    ∙ same_verdict c.in_ok-found-in-None.found.crowded c.in_ok-found-in-None.found.turned (position (is_crowded c.args.tets.now) c.args.tets.now) (position (is_turned c.args.tets.now) c.args.tets.now) (λ n. Crowded (c.args.first + n)) (λ n. Turned (c.args.first + n)) (Sound (length c.args.places.now) (length c.args.tets.now) c.in_ok-found-in-None.found.boundary) c.in_ok-found-in-None.ensures.crowded c.in_ok-found-in-None.ensures.turned
    ∙ (λ i. found_or (c.in-None.ensures.value i) (λ n. NotPositive (c.args.first + n))
    (found_or (position (is_crowded c.args.tets.now) c.args.tets.now) (λ n. Crowded (c.args.first + n))
    (found_or (position (is_turned c.args.tets.now) c.args.tets.now) (λ n. Turned (c.args.first + n))
    (Sound (length c.args.places.now) (length c.args.tets.now) (c.in_ok-found-in-None.ensures.boundary i)))))
