use Rattle.std.proofs.Common.{◌≡◌, ◌^◌, ◌<◌, All, length, sym, subst}
use Rattle.std.proofs.lemmas.Result.{IfOk-weaker}
use Rattle.definitions.specs.Mesh.{mesh}
use Rattle.definitions.specs.Soundness.{IsPositive}
use Rattle.place_laws.specs.Inside.{StandsInside}
use Rattle.place_laws.proofs.NodePlaces.{nodes_stand_inside}
use Rattle.sound_laws.proofs.Positive.{tets_are_positive}
use Rattle.sound_laws.proofs.Sound.{mesh_is_sound}
use Rattle.mesh_lists.proofs.Meshes.{few_places, few_tets}
use Rattle.mesh_lists.proofs.build.build_mesh.Goals as goal

pub returns-clause-inside : goal.returns-clause-inside
returns-clause-inside c =
    let f = c.args.field.now in
    let s = c.args.shares in
    IfOk-weaker c.mesh_of.result (λ m. m ≡ mesh f s) (λ m. All (StandsInside f.dims) m.places)
    (λ m e. subst (λ n. All (StandsInside f.dims) n.places) (sym e) (nodes_stand_inside f s))
    c.mesh_of.ensures

pub returns-clause-positive : goal.returns-clause-positive
returns-clause-positive c =
    let f = c.args.field.now in
    let s = c.args.shares in
    IfOk-weaker c.mesh_of.result (λ m. m ≡ mesh f s) (λ m. All (IsPositive m.places) m.tets)
    (λ m e. subst (λ n. All (IsPositive n.places) n.tets) (sym e) (tets_are_positive f s c.states_of.ensures.limits))
    c.mesh_of.ensures

pub returns-clause-few : goal.returns-clause-few
returns-clause-few c =
    let f = c.args.field.now in
    let s = c.args.shares in
    IfOk-weaker c.mesh_of.result (λ m. m ≡ mesh f s) (λ m. length m.places < 2 ^ 31)
    (λ m e. subst (λ n. length n.places < 2 ^ 31) (sym e) (few_places f s c.states_of.ensures.few))
    c.mesh_of.ensures

pub returns-clause-few_tets : goal.returns-clause-few_tets
returns-clause-few_tets c =
    let f = c.args.field.now in
    let s = c.args.shares in
    IfOk-weaker c.mesh_of.result (λ m. m ≡ mesh f s) (λ m. length m.tets < 2 ^ 32)
    (λ m e. subst (λ n. length n.tets < 2 ^ 32) (sym e) (few_tets f s c.states_of.ensures.few))
    c.mesh_of.ensures

pub returns-clause-sound : goal.returns-clause-sound
returns-clause-sound c = mesh_is_sound c.args.field.now c.args.shares c.states_of.ensures.limits

pub returns-in_err-states-clause-sound : goal.returns-in_err-states-clause-sound
returns-in_err-states-clause-sound c = mesh_is_sound c.args.field.now c.args.shares c.states_of.ensures.limits
