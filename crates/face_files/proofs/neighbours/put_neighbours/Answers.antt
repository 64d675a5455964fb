use Rattle.std.proofs.Common.{◌≡◌, ◌+◌, ℕ, List, ◌++◌, map, get_or, [], ap, ◌∙◌, subst}
use Rattle.std.specs.Io.KnownBytes.{Appends}
use Rattle.std.specs.Option.{option_map}
use Rattle.adjacency.specs.Texts.{neigh_line}
use Rattle.st_base.proofs.Frames.{then_port}
use Rattle.st_base.specs.Desk.{AppendsPart}
use Rattle.face_files.specs.FileLines.{neigh_to}
use Rattle.face_files.specs.Held.{AppendsAllButHeld}
use Rattle.face_files.proofs.Boundary.{neigh_all, neigh_more, neigh_part}
use Rattle.face_files.proofs.Holding.{all_written, held_more, is_part, part_written}
use Rattle.face_files.proofs.neighbours.put_neighbours.Goals as goal

pub returns-in_default-add_neighbours-clause-part : goal.returns-in_default-add_neighbours-clause-part
returns-in_default-add_neighbours-clause-part g c =
    let old = (g.D.Desk.ports c.args.desk.now c.args.port).text in
    let now = (g.D.Desk.ports c.loop-place.desk c.args.port).text in
    neigh_part c.args.numbering c.loop-place.place c.args.across.now old now (is_part old now c.loop-place.held.items (neigh_to c.args.numbering c.args.across.now c.loop-place.place) c.loop-place.invariant.text)

pub returns-in-Err-clause-part : goal.returns-in-Err-clause-part
returns-in-Err-clause-part g c =
    let old = (g.D.Desk.ports c.args.desk.now c.args.port).text in
    let now = (g.D.Desk.ports c.loop-place.desk c.args.port).text in
    let new = (g.D.Desk.ports c.put_piece.new.desk c.args.port).text in
    let place = c.loop-place.place in
    let before = c.loop-place.held.items in
    let after = c.add_neighbours.new.out.items in
    let row = map (option_map (λ m. c.args.numbering + m)) (get_or c.args.across.now place []) in
    let line : after ≡ before ++ neigh_line (c.args.numbering + place, row) = c.in-Ok-add_neighbours.ensures ∙ ap (λ m. before ++ neigh_line (m + place, row)) c.from.ensures in
    let held : AppendsAllButHeld old now after (neigh_to c.args.numbering c.args.across.now (place + 1)) =
    subst (λ (t : List ℕ). AppendsAllButHeld old now after t) (neigh_more c.args.numbering place c.args.across.now c.loop-place-test.true) (held_more old now before after (neigh_to c.args.numbering c.args.across.now place) _ line c.loop-place.invariant.text) in
    neigh_part c.args.numbering (place + 1) c.args.across.now old new (c.in-Err.ensures.part old (neigh_to c.args.numbering c.args.across.now (place + 1)) held)

pub loop-place-preserved : goal.loop-place-preserved
loop-place-preserved g c =
    let old = (g.D.Desk.ports c.args.desk.now c.args.port).text in
    let now = (g.D.Desk.ports c.loop-place.desk c.args.port).text in
    let place = c.loop-place.place in
    let before = c.loop-place.held.items in
    let after = c.add_neighbours.new.out.items in
    let row = map (option_map (λ m. c.args.numbering + m)) (get_or c.args.across.now place []) in
    let line : after ≡ before ++ neigh_line (c.args.numbering + place, row) = c.in-Ok-add_neighbours.ensures ∙ ap (λ m. before ++ neigh_line (m + place, row)) c.from.ensures in
    let held : AppendsAllButHeld old now after (neigh_to c.args.numbering c.args.across.now (place + 1)) =
    subst (λ (t : List ℕ). AppendsAllButHeld old now after t) (neigh_more c.args.numbering place c.args.across.now c.loop-place-test.true) (held_more old now before after (neigh_to c.args.numbering c.args.across.now place) _ line c.loop-place.invariant.text) in
    let done = c.in-Ok-put_piece.ensures in
    record {
      text = done.all old (neigh_to c.args.numbering c.args.across.now (place + 1)) held;
      faults = done.cause.kept ∙ c.loop-place.invariant.faults;
      is_open = done.is_open;
      name = done.name ∙ c.loop-place.invariant.name;
      apart = then_port c.loop-place.invariant.apart done.apart;
    }

pub returns-in-Ok-put_all-clause-all : goal.returns-in-Ok-put_all-clause-all
returns-in-Ok-put_all-clause-all g c =
    let old = (g.D.Desk.ports c.args.desk.now c.args.port).text in
    let now = (g.D.Desk.ports c.loop-place.desk c.args.port).text in
    let new = (g.D.Desk.ports c.put_all.new.desk c.args.port).text in
    subst (λ (t : List ℕ). Appends old new t) (neigh_all c.args.numbering c.loop-place.place c.args.across.now c.loop-place-test.false)
    (all_written old now new c.loop-place.held.items (neigh_to c.args.numbering c.args.across.now c.loop-place.place) (subst (λ (t : List ℕ). Appends now new t) c.deref.ensures.value c.in-Ok-put_all.ensures.all) c.loop-place.invariant.text)

pub returns-clause-part : goal.returns-clause-part
returns-clause-part g c =
    let old = (g.D.Desk.ports c.args.desk.now c.args.port).text in
    let now = (g.D.Desk.ports c.loop-place.desk c.args.port).text in
    let new = (g.D.Desk.ports c.put_all.new.desk c.args.port).text in
    neigh_part c.args.numbering c.loop-place.place c.args.across.now old new
    (part_written old now new c.loop-place.held.items (neigh_to c.args.numbering c.args.across.now c.loop-place.place) (subst (λ (t : List ℕ). AppendsPart now new t) c.deref.ensures.value c.in-Err-put_all.ensures.part) c.loop-place.invariant.text)
