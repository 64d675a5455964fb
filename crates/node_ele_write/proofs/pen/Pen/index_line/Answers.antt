use Rattle.std.proofs.Common.{◌≡◌, List, ℕ, ◌++◌, ◌∷◌, decimal, pos, ◌*ℤ◌, rules, subst}
use Rattle.std.specs.Prelude.{OnOk}
use Rattle.mesh_texts.specs.Coordinates.{coordinate_text}
use Rattle.mesh_texts.specs.Lines.{marker_text}
use Rattle.node_ele_write.proofs.Lines.{node_line_row}
use Rattle.node_ele_write.proofs.pen.Pen.index_line.Goals as goal

pub returns-clause-text : goal.returns-clause-text
returns-clause-text c =
    let x : c.stepped-x.result ≡ pos c.args.step *ℤ c.args.place.x = search rules in
    let y : c.stepped-y.result ≡ pos c.args.step *ℤ c.args.place.y = search rules in
    let z : c.stepped-z.result ≡ pos c.args.step *ℤ c.args.place.z = search rules in
    let front : c.begin.new.self.text ≡ decimal c.args.number = search rules in
    let first : c.coordinate.new.self.row.text ≡ c.begin.new.self.text ++ 32 ∷ coordinate_text c.stepped-x.result = search rules in
    let second : c.coordinate-2.new.self.row.text ≡ c.coordinate.new.self.row.text ++ 32 ∷ coordinate_text c.stepped-y.result = search rules in
    let third : c.coordinate-3.new.self.row.text ≡ c.coordinate-2.new.self.row.text ++ 32 ∷ coordinate_text c.stepped-z.result = search rules in
    let marked : c.marker.new.self.row.text ≡ c.coordinate-3.new.self.row.text ++ 32 ∷ marker_text c.args.level = search rules in
    subst (λ (t : List ℕ). OnOk c.append_to.result (c.append_to.new.out.items ≡ c.args.out.now.items ++ t))
    (node_line_row c.args.step c.args.number c.args.place c.args.level _ _ _ _ _ _ _ _ _ x y z front first second third marked c.byte.ensures.text)
    c.append_to.ensures.ok
