use Rattle.std.proofs.Common.{◌≡◌, ◌+◌, ℕ, List, get_or, [], ◌<◌, length, length-append, arith, ap, ◌∙◌, subst}
use Rattle.std.specs.Io.KnownBytes.{Appends}
use Rattle.face_neigh.specs.Open.{open_triangles}
use Rattle.face_neigh.proofs.BoundaryTriangles.{length-neighbours}
use Rattle.st_base.proofs.Frames.{then_port}
use Rattle.st_base.specs.Desk.{AppendsPart}
use Rattle.face_files.specs.FileLines.{boundary_to, face_to}
use Rattle.face_files.specs.Held.{AppendsAllButHeld}
use Rattle.face_files.proofs.Boundary.{boundary_more, face_all, face_more, face_part}
use Rattle.face_files.proofs.Holding.{all_written, held_more, is_part, part_written}
use Rattle.face_files.proofs.faces.put_faces.Goals as goal

pub bounds-across-place : goal.bounds-across-place
bounds-across-place g c =
    let below : c.loop-place.place < length c.args.tets.now = c.loop-place-test.true in
    let len : length c.args.across.now ≡ length c.args.tets.now = ap length c.requires.across ∙ length-neighbours c.args.tets.now in
    omega arith

pub returns-in_default-add_open-clause-part : goal.returns-in_default-add_open-clause-part
returns-in_default-add_open-clause-part g c =
    let old = (g.D.Desk.ports c.args.desk.now c.args.port).text in
    let now = (g.D.Desk.ports c.loop-place.desk c.args.port).text in
    face_part c.args.numbering c.loop-place.place c.args.tets.now old now (is_part old now c.loop-place.held.items (face_to c.args.numbering c.args.tets.now c.loop-place.place) c.loop-place.invariant.text)

pub returns-in-Err-clause-part : goal.returns-in-Err-clause-part
returns-in-Err-clause-part g c =
    let old = (g.D.Desk.ports c.args.desk.now c.args.port).text in
    let now = (g.D.Desk.ports c.loop-place.desk c.args.port).text in
    let new = (g.D.Desk.ports c.put_piece.new.desk c.args.port).text in
    let place = c.loop-place.place in
    let before = c.loop-place.held.items in
    let after = c.add_open.new.out.items in
    let held : AppendsAllButHeld old now after (face_to c.args.numbering c.args.tets.now (place + 1)) =
    subst (λ (t : List ℕ). AppendsAllButHeld old now after t) (face_more c.args.numbering c.args.tets.now c.args.across.now c.told-tets c.requires.differ c.requires.by_two c.requires.across place c.loop-place.number c.loop-place-test.true c.loop-place.invariant.number) (held_more old now before after (face_to c.args.numbering c.args.tets.now place) _ c.in-Ok-add_open.ensures.text c.loop-place.invariant.text) in
    face_part c.args.numbering (place + 1) c.args.tets.now old new (c.in-Err.ensures.part old (face_to c.args.numbering c.args.tets.now (place + 1)) held)

pub loop-place-preserved : goal.loop-place-preserved
loop-place-preserved g c =
    let old = (g.D.Desk.ports c.args.desk.now c.args.port).text in
    let now = (g.D.Desk.ports c.loop-place.desk c.args.port).text in
    let place = c.loop-place.place in
    let before = c.loop-place.held.items in
    let after = c.add_open.new.out.items in
    let held : AppendsAllButHeld old now after (face_to c.args.numbering c.args.tets.now (place + 1)) =
    subst (λ (t : List ℕ). AppendsAllButHeld old now after t) (face_more c.args.numbering c.args.tets.now c.args.across.now c.told-tets c.requires.differ c.requires.by_two c.requires.across place c.loop-place.number c.loop-place-test.true c.loop-place.invariant.number) (held_more old now before after (face_to c.args.numbering c.args.tets.now place) _ c.in-Ok-add_open.ensures.text c.loop-place.invariant.text) in
    let done = c.in-Ok-put_piece.ensures in
    let next = c.in-Ok-add_open.ensures.next in
    let few = c.in-Ok-add_open.ensures.few in
    let more = ap length (boundary_more c.args.tets.now c.args.across.now place c.told-tets c.requires.differ c.requires.by_two c.requires.across c.loop-place-test.true) in
    let sum = length-append (boundary_to c.args.tets.now place) (open_triangles (get_or c.args.tets.now place []) (get_or c.args.across.now place [])) in
    record {
      text = done.all old (face_to c.args.numbering c.args.tets.now (place + 1)) held;
      number = omega arith;
      few = omega arith;
      faults = done.cause.kept ∙ c.loop-place.invariant.faults;
      is_open = done.is_open;
      name = done.name ∙ c.loop-place.invariant.name;
      apart = then_port c.loop-place.invariant.apart done.apart;
    }

pub returns-in-Ok-put_all-clause-all : goal.returns-in-Ok-put_all-clause-all
returns-in-Ok-put_all-clause-all g c =
    let old = (g.D.Desk.ports c.args.desk.now c.args.port).text in
    let now = (g.D.Desk.ports c.loop-place.desk c.args.port).text in
    let new = (g.D.Desk.ports c.put_all.new.desk c.args.port).text in
    subst (λ (t : List ℕ). Appends old new t) (face_all c.args.numbering c.loop-place.place c.args.tets.now c.loop-place-test.false)
    (all_written old now new c.loop-place.held.items (face_to c.args.numbering c.args.tets.now c.loop-place.place) (subst (λ (t : List ℕ). Appends now new t) c.deref.ensures.value c.in-Ok-put_all.ensures.all) c.loop-place.invariant.text)

pub returns-clause-part : goal.returns-clause-part
returns-clause-part g c =
    let old = (g.D.Desk.ports c.args.desk.now c.args.port).text in
    let now = (g.D.Desk.ports c.loop-place.desk c.args.port).text in
    let new = (g.D.Desk.ports c.put_all.new.desk c.args.port).text in
    face_part c.args.numbering c.loop-place.place c.args.tets.now old new
    (part_written old now new c.loop-place.held.items (face_to c.args.numbering c.args.tets.now c.loop-place.place) (subst (λ (t : List ℕ). AppendsPart now new t) c.deref.ensures.value c.in-Err-put_all.ensures.part) c.loop-place.invariant.text)
