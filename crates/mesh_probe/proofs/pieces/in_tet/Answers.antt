use Rattle.lattice_laws.proofs.KeyOrder.{tet_ids_rise}
use Rattle.lattice_laws.specs.NumberedTetrahedra.{IsNumberedTet}
use Rattle.std.proofs.Common.{sym, subst}
use Rattle.definitions.specs.States.{states}
use Rattle.mesh_probe.proofs.TetPieces.{at_states, here, is_first, none_more, none_of_all, places_near, vertices_of, volume_positive}
use Rattle.mesh_probe.proofs.pieces.in_tet.Goals as goal

pub pieces-pieces-requires-clause-tet : goal.pieces-pieces-requires-clause-tet
pieces-pieces-requires-clause-tet g c = subst (IsNumberedTet c.args.tet.now.at) (sym c.requires.ids) (tet_ids_rise c.args.field.now.dims c.args.tet.now.at c.requires.lattice)

pub loop-n-init : goal.loop-n-init
loop-n-init g c = λ keys m h. m

pub places_of-places-requires-clause-vertices : goal.places_of-places-requires-clause-vertices
places_of-places-requires-clause-vertices g c =
    let f = c.args.field.now in
    let r = c.pieces-pieces in
    let told = c.states_of-states.result in
    let h = here f c.args.shares c.requires.limits c.args.tet.now.at c.args.tet.now.ids told c.signs_of.result r.result.len r.result.of c.requires.lattice c.requires.ids c.states_of-states.ensures.states c.signs_of.ensures r.ensures.pieces r.ensures.len in
    vertices_of f c.args.shares c.requires.limits c.args.tet.now.at c.args.tet.now.ids told c.signs_of.result r.result.len r.result.of c.requires.lattice c.requires.ids c.states_of-states.ensures.states h c.loop-n.n c.loop-n-test.true

pub weights_of-requires-clause-near : goal.weights_of-requires-clause-near
weights_of-requires-clause-near g c =
    let f = c.args.field.now in
    let r = c.pieces-pieces in
    let told = c.states_of-states.result in
    let h = here f c.args.shares c.requires.limits c.args.tet.now.at c.args.tet.now.ids told c.signs_of.result r.result.len r.result.of c.requires.lattice c.requires.ids c.states_of-states.ensures.states c.signs_of.ensures r.ensures.pieces r.ensures.len in
    let q = c.places_of-places.ensures (states f c.args.shares) (at_states f c.args.shares c.requires.limits c.args.tet.now.at c.args.tet.now.ids told c.signs_of.result r.result.len r.result.of c.requires.lattice c.requires.ids c.states_of-states.ensures.states) in
    places_near f c.args.shares c.requires.limits c.args.tet.now.at c.args.tet.now.ids told c.signs_of.result r.result.len r.result.of c.requires.lattice c.requires.ids c.states_of-states.ensures.states h c.loop-n.n c.loop-n-test.true c.places_of-places.result q

pub weights_of-requires-clause-positive : goal.weights_of-requires-clause-positive
weights_of-requires-clause-positive g c =
    let f = c.args.field.now in
    let r = c.pieces-pieces in
    let told = c.states_of-states.result in
    let h = here f c.args.shares c.requires.limits c.args.tet.now.at c.args.tet.now.ids told c.signs_of.result r.result.len r.result.of c.requires.lattice c.requires.ids c.states_of-states.ensures.states c.signs_of.ensures r.ensures.pieces r.ensures.len in
    let q = c.places_of-places.ensures (states f c.args.shares) (at_states f c.args.shares c.requires.limits c.args.tet.now.at c.args.tet.now.ids told c.signs_of.result r.result.len r.result.of c.requires.lattice c.requires.ids c.states_of-states.ensures.states) in
    volume_positive f c.args.shares c.requires.limits c.args.tet.now.at c.args.tet.now.ids told c.signs_of.result r.result.len r.result.of c.requires.lattice c.requires.ids c.states_of-states.ensures.states h c.loop-n.n c.loop-n-test.true c.places_of-places.result q

pub returns-in-Some-clause-len : goal.returns-in-Some-clause-len
returns-in-Some-clause-len g c =
    let r = c.pieces-pieces in
    (here c.args.field.now c.args.shares c.requires.limits c.args.tet.now.at c.args.tet.now.ids c.states_of-states.result c.signs_of.result r.result.len r.result.of c.requires.lattice c.requires.ids c.states_of-states.ensures.states c.signs_of.ensures r.ensures.pieces r.ensures.len).count

pub returns-in-Some-clause-found : goal.returns-in-Some-clause-found
returns-in-Some-clause-found g c =
    let f = c.args.field.now in
    let r = c.pieces-pieces in
    let told = c.states_of-states.result in
    let h = here f c.args.shares c.requires.limits c.args.tet.now.at c.args.tet.now.ids told c.signs_of.result r.result.len r.result.of c.requires.lattice c.requires.ids c.states_of-states.ensures.states c.signs_of.ensures r.ensures.pieces r.ensures.len in
    let q = c.places_of-places.ensures (states f c.args.shares) (at_states f c.args.shares c.requires.limits c.args.tet.now.at c.args.tet.now.ids told c.signs_of.result r.result.len r.result.of c.requires.lattice c.requires.ids c.states_of-states.ensures.states) in
    is_first f c.args.shares c.requires.limits c.args.tet.now.at c.args.tet.now.ids told c.signs_of.result r.result.len r.result.of c.requires.lattice c.requires.ids c.states_of-states.ensures.states h c.loop-n.n c.loop-n-test.true c.places_of-places.result c.args.point c.in-Some.weights q c.loop-n.invariant c.in-Some.ensures

pub loop-n-preserved : goal.loop-n-preserved
loop-n-preserved g c =
    let f = c.args.field.now in
    let r = c.pieces-pieces in
    let told = c.states_of-states.result in
    let h = here f c.args.shares c.requires.limits c.args.tet.now.at c.args.tet.now.ids told c.signs_of.result r.result.len r.result.of c.requires.lattice c.requires.ids c.states_of-states.ensures.states c.signs_of.ensures r.ensures.pieces r.ensures.len in
    let q = c.places_of-places.ensures (states f c.args.shares) (at_states f c.args.shares c.requires.limits c.args.tet.now.at c.args.tet.now.ids told c.signs_of.result r.result.len r.result.of c.requires.lattice c.requires.ids c.states_of-states.ensures.states) in
    none_more f c.args.shares c.requires.limits c.args.tet.now.at c.args.tet.now.ids told c.signs_of.result r.result.len r.result.of c.requires.lattice c.requires.ids c.states_of-states.ensures.states h c.loop-n.n c.loop-n-test.true c.places_of-places.result c.args.point q c.loop-n.invariant c.in_default.ensures

pub returns-clause-len : goal.returns-clause-len
returns-clause-len g c =
    let r = c.pieces-pieces in
    (here c.args.field.now c.args.shares c.requires.limits c.args.tet.now.at c.args.tet.now.ids c.states_of-states.result c.signs_of.result r.result.len r.result.of c.requires.lattice c.requires.ids c.states_of-states.ensures.states c.signs_of.ensures r.ensures.pieces r.ensures.len).count

pub returns-clause-found : goal.returns-clause-found
returns-clause-found g c =
    let f = c.args.field.now in
    let r = c.pieces-pieces in
    let told = c.states_of-states.result in
    let h = here f c.args.shares c.requires.limits c.args.tet.now.at c.args.tet.now.ids told c.signs_of.result r.result.len r.result.of c.requires.lattice c.requires.ids c.states_of-states.ensures.states c.signs_of.ensures r.ensures.pieces r.ensures.len in
    none_of_all f c.args.shares c.requires.limits c.args.tet.now.at c.args.tet.now.ids told c.signs_of.result r.result.len r.result.of c.requires.lattice c.requires.ids c.states_of-states.ensures.states c.args.point c.loop-n.n h c.loop-n-test.false c.loop-n.invariant
