use Rattle.std.proofs.Common.{◌≡◌, ◌<◌, ◌++◌, length, get_or, [], arith, ap, ◌∙◌}
use Rattle.face_neigh.specs.Open.{open_triangles}
use Rattle.face_neigh.proofs.Places.{fit_of}
use Rattle.face_neigh.proofs.BoundaryTriangles.{faces_more, length-neighbours}
use Rattle.face_neigh.proofs.boundary.faces_by_neighbours.Goals as goal

pub bounds-across-number : goal.bounds-across-number
bounds-across-number c =
    let below : c.loop-number.number < length c.args.tets.now = c.loop-number-test.true in
    let len : length c.args.across.now ≡ length c.args.tets.now = ap length c.requires.across ∙ length-neighbours c.args.tets.now in
    omega arith

pub loop-number-preserved : goal.loop-number-preserved
loop-number-preserved c =
    let fit = fit_of c.args.tets.now c.told-tets c.requires.differ c.requires.by_two in
    c.in_ok-push_open.ensures
    ∙ ((λ j. c.loop-number.invariant j ++ open_triangles (get_or c.args.tets.now c.loop-number.number []) (get_or (c.requires.across j) c.loop-number.number []))
    ∙ faces_more c.args.tets.now fit c.loop-number.number c.loop-number-test.true)
