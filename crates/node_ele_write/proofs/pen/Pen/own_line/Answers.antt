use Rattle.std.proofs.Common.{◌≡◌, List, ℕ, ◌++◌, ◌∷◌, decimal, pos, rules, subst, slice_index_or}
use Rattle.std.specs.Prelude.{OnOk}
use Rattle.mesh_texts.specs.Frames.{world_text, world_value}
use Rattle.mesh_texts.specs.Lines.{marker_text}
use Rattle.node_ele_write.proofs.Lines.{own_line_row}
use Rattle.node_ele_write.proofs.WorldValues.{first_axis, second_axis, third_axis}
use Rattle.node_ele_write.proofs.pen.Pen.own_line.Goals as goal

pub own_coordinate-requires-clause-axis : goal.own_coordinate-requires-clause-axis
own_coordinate-requires-clause-axis c = first_axis c.args.axes.now _ c.requires.axes

pub own_coordinate-requires-2-clause-axis : goal.own_coordinate-requires-2-clause-axis
own_coordinate-requires-2-clause-axis c = second_axis c.args.axes.now _ c.requires.axes

pub own_coordinate-requires-3-clause-axis : goal.own_coordinate-requires-3-clause-axis
own_coordinate-requires-3-clause-axis c = third_axis c.args.axes.now _ c.requires.axes

pub returns-clause-text : goal.returns-clause-text
returns-clause-text c =
    let front : c.begin.new.self.text ≡ decimal c.args.number = search rules in
    let first : c.own_coordinate.new.self.row.text ≡ c.begin.new.self.text ++ 32 ∷ world_text (world_value (slice_index_or c.args.axes.now 0 (record { spacing = pos 0; offset = pos 0 })) c.args.step c.args.place.x) = search rules in
    let second : c.own_coordinate-2.new.self.row.text ≡ c.own_coordinate.new.self.row.text ++ 32 ∷ world_text (world_value (slice_index_or c.args.axes.now 1 (record { spacing = pos 0; offset = pos 0 })) c.args.step c.args.place.y) = search rules in
    let third : c.own_coordinate-3.new.self.row.text ≡ c.own_coordinate-2.new.self.row.text ++ 32 ∷ world_text (world_value (slice_index_or c.args.axes.now 2 (record { spacing = pos 0; offset = pos 0 })) c.args.step c.args.place.z) = search rules in
    let marked : c.marker.new.self.row.text ≡ c.own_coordinate-3.new.self.row.text ++ 32 ∷ marker_text c.args.level = search rules in
    subst (λ (t : List ℕ). OnOk c.append_to.result (c.append_to.new.out.items ≡ c.args.out.now.items ++ t))
    (own_line_row c.args.axes.now (record { spacing = pos 0; offset = pos 0 }) c.args.step c.args.number c.args.place c.args.level _ _ _ _ _ _ c.requires.axes front first second third marked c.byte.ensures.text)
    c.append_to.ensures.ok
