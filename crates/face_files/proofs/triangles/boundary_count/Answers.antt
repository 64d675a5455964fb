use Rattle.std.proofs.Common.{◌≡◌, ◌<◌, length, get_or, [], arith, ap, ◌∙◌, length-append}
use Rattle.face_neigh.specs.Open.{open_triangles}
use Rattle.face_neigh.proofs.BoundaryTriangles.{length-neighbours}
use Rattle.face_files.specs.FileLines.{boundary_to}
use Rattle.face_files.proofs.Boundary.{boundary_more}
use Rattle.face_files.proofs.triangles.boundary_count.Goals as goal

pub bounds-across-number : goal.bounds-across-number
bounds-across-number c =
    let below : c.loop-number.number < length c.args.tets.now = c.loop-number-test.true in
    let len : length c.args.across.now ≡ length c.args.tets.now = ap length c.requires.across ∙ length-neighbours c.args.tets.now in
    omega arith

pub loop-number-preserved : goal.loop-number-preserved
loop-number-preserved c =
    let tets = c.args.tets.now in
    let n = c.loop-number.number in
    let here = get_or tets n [] in
    let opens = c.open_count-count.ensures.count here in
    let more = ap length (boundary_more tets c.args.across.now n c.told-tets c.requires.differ c.requires.by_two c.requires.across c.loop-number-test.true) in
    let sum = length-append (boundary_to tets n) (open_triangles here (get_or c.args.across.now n [])) in
    record { count = omega arith; few = omega arith }
