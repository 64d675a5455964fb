use Rattle.std.proofs.Common.{ap, subst, ◌∙◌, [], ◌∷◌, ◌++◌}
use Rattle.definitions.specs.Angles.{extremes_of}
use Rattle.dihedral.specs.Fractions.{angle_in_lowest_terms}
use Rattle.dihedral.specs.Shapes.{Between}
use Rattle.dihedral.proofs.CoveredAngles.{covers_six}
use Rattle.dihedral.proofs.SixAngles.{six_after}
use Rattle.dihedral.proofs.running.Running.take.Goals as goal

pub returns-clause-angles : goal.returns-clause-angles
returns-clause-angles c =
    λ xs h.
    let tet = c.args.tet in
    let faces = c.new-faces.ensures in
    let a = angle_in_lowest_terms c.angle_at.result in
    let b = angle_in_lowest_terms c.angle_at-2.result in
    let d = angle_in_lowest_terms c.angle_at-3.result in
    let e = angle_in_lowest_terms c.angle_at-4.result in
    let f = angle_in_lowest_terms c.angle_at-5.result in
    let g = angle_in_lowest_terms c.angle_at-6.result in
    let one = c.offer.ensures.angle xs h in
    let two = c.offer-2.ensures.angle (xs ++ a ∷ []) one in
    let three = c.offer-3.ensures.angle ((xs ++ a ∷ []) ++ b ∷ []) two in
    let four = c.offer-4.ensures.angle (((xs ++ a ∷ []) ++ b ∷ []) ++ d ∷ []) three in
    let five = c.offer-5.ensures.angle ((((xs ++ a ∷ []) ++ b ∷ []) ++ d ∷ []) ++ e ∷ []) four in
    c.offer-6.ensures.angle (((((xs ++ a ∷ []) ++ b ∷ []) ++ d ∷ []) ++ e ∷ []) ++ f ∷ []) five
    ∙ ap extremes_of (six_after xs a b d e f g)
    ∙ (λ i.
    extremes_of
    (xs
    ++ c.angle_at.ensures.value tet faces i ∷ c.angle_at-2.ensures.value tet faces i ∷ c.angle_at-3.ensures.value tet faces i ∷ c.angle_at-4.ensures.value tet faces i ∷ c.angle_at-5.ensures.value tet faces i ∷ c.angle_at-6.ensures.value tet faces i ∷ []))

pub returns-clause-covers : goal.returns-clause-covers
returns-clause-covers c =
    let tet = c.args.tet in
    let faces = c.new-faces.ensures in
    covers_six tet c.requires.positive c.offer.new.self c.offer-2.new.self c.offer-3.new.self c.offer-4.new.self c.offer-5.new.self c.offer-6.new.self
    (subst (Between c.offer.new.self) (ap (λ a. a.cosine) (c.angle_at.ensures.value tet faces)) c.offer.ensures.covers) c.offer-2.ensures.widens
    (subst (Between c.offer-2.new.self) (ap (λ a. a.cosine) (c.angle_at-2.ensures.value tet faces)) c.offer-2.ensures.covers) c.offer-3.ensures.widens
    (subst (Between c.offer-3.new.self) (ap (λ a. a.cosine) (c.angle_at-3.ensures.value tet faces)) c.offer-3.ensures.covers) c.offer-4.ensures.widens
    (subst (Between c.offer-4.new.self) (ap (λ a. a.cosine) (c.angle_at-4.ensures.value tet faces)) c.offer-4.ensures.covers) c.offer-5.ensures.widens
    (subst (Between c.offer-5.new.self) (ap (λ a. a.cosine) (c.angle_at-5.ensures.value tet faces)) c.offer-5.ensures.covers) c.offer-6.ensures.widens
    (subst (Between c.offer-6.new.self) (ap (λ a. a.cosine) (c.angle_at-6.ensures.value tet faces)) c.offer-6.ensures.covers)

pub returns-clause-widens : goal.returns-clause-widens
returns-clause-widens c =
    λ x r b. c.offer-6.ensures.widens x r (c.offer-5.ensures.widens x r (c.offer-4.ensures.widens x r (c.offer-3.ensures.widens x r (c.offer-2.ensures.widens x r (c.offer.ensures.widens x r b)))))
